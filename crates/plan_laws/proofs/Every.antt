-- Every step and every run keeps a plan sound, and what becomes started is provided for.
use Rattle.std.proofs.Common.{◌≡◌, ◌⊎◌, inl, inr, refl, sym, ◌∙◌, ap, subst, true≢false, arith, true, List, [], ◌∷◌, Option, Some, None, is_some}
use Rattle.std.specs.FinMap.{get, len-empty, get-empty}
use Rattle.std.specs.FinSet as set
use Rattle.status_rules.specs.declared.Status.TheVariants as status
use Rattle.plan_records.specs.declared.What.TheVariants as what
use Rattle.plan_records.specs.Answer.{accepted, refused}
use Rattle.operation_graph.specs.Paths.{LeadsBy, by_edge, by_more}
use Rattle.plan_basics.specs.Keys.{name_cmp, occurrence_cmp, operation_cmp}
use Rattle.plan_basics.specs.declared.keys.OpKey.{OpKey}
use Rattle.plan_laws.proofs.Changing.{availability_keeps_sound, intervals_keep_sound, load_keeps_sound}
use Rattle.plan_laws.proofs.KeptByStep.{step_keeps_sound, tick_keeps_sound}
use Rattle.plan_laws.proofs.ComingIn.{addition_keeps_sound, extension_keeps_sound, pair_keeps_sound}
use Rattle.plan_laws.proofs.Deleting.{delete_keeps_sound}
use Rattle.plan_laws.proofs.Flags.{hold_keeps_sound, nop_keeps_sound, release_keeps_sound, unnop_keeps_sound}
use Rattle.std.proofs.lemmas.Option.{none-some}
use Rattle.plan_laws.proofs.Reports.{complete_keeps_sound, end_keeps_sound, error_keeps_sound, interruption_keeps_sound, start_keeps_sound, undecided_keeps_sound}
use Rattle.plan_laws.proofs.Rerun.{rerun_keeps_sound}
use Rattle.plan_laws.proofs.Runs.{accepted_call, refused_changes_nothing}
use Rattle.plan_laws.proofs.Starts.{starts_are_provided_for}
use Rattle.plan_records.specs.plan_model.specs.Plan.{Plan, no_plan, IsSoundPlan}
use Rattle.plan_records.specs.plan_model.specs.Contents.{nothing, IsPairOf, Operation, pair_cmp}
use Rattle.plan_records.specs.plan_model.specs.declared.Occurrence.{Occurrence}
use Rattle.plan_records.specs.plan_model.specs.declared.Stock.{Stock}
use Rattle.plan_records.specs.plan_model.specs.Status.{HasStatus}
use Rattle.plan_records.specs.plan_model.specs.Valid.{IsSound}
use Rattle.plan_records.specs.Laws.{BecomesStarted, ChangeKeepsSound, ReachedStartsAreProvidedFor, RunKeepsSound, StepKeepsSound, request_of}
use Rattle.plan_records.specs.Run.{Answers, Call, CallStep, Run, State, Usable, numbered, plain, usable}
use Rattle.plan_records.specs.Step.{Numbered, NumberedMayBeAccepted, Receipts, Step, StepBy}
use Rattle.plan_records.specs.Answer.{Answer}
use Rattle.plan_records.specs.declared.What.{What}
use Rattle.plan_records.specs.plan_model.specs.workstations.specs.Workstations.{Workstation}

pub every_change_keeps_sound : (w : What) → ChangeKeepsSound w
every_change_keeps_sound (what.Load None) = λ P Q at sound may request c. absurd (none-some Q c)
every_change_keeps_sound (what.Load (Some d)) = load_keeps_sound d
every_change_keeps_sound what.Tick = tick_keeps_sound
every_change_keeps_sound (what.Started o) = start_keeps_sound o
every_change_keeps_sound (what.Ended o) = end_keeps_sound o
every_change_keeps_sound (what.Error o code) = error_keeps_sound o code
every_change_keeps_sound (what.Interrupted o) = interruption_keeps_sound o
every_change_keeps_sound (what.Unknown o) = undecided_keeps_sound o
every_change_keeps_sound (what.Hold o) = hold_keeps_sound o
every_change_keeps_sound (what.Release o) = release_keeps_sound o
every_change_keeps_sound (what.Nop o) = nop_keeps_sound o
every_change_keeps_sound (what.Unnop o) = unnop_keeps_sound o
every_change_keeps_sound (what.Rerun o) = rerun_keeps_sound o
every_change_keeps_sound (what.Complete o) = complete_keeps_sound o
every_change_keeps_sound (what.DeleteOccurrence c) = delete_keeps_sound c
every_change_keeps_sound (what.AddOccurrence None) = λ P Q at sound may request c. absurd (none-some c.0 c.1)
every_change_keeps_sound (what.AddOccurrence (Some s)) = addition_keeps_sound s
every_change_keeps_sound (what.Extend None) = λ P Q at sound may request c. absurd (none-some c.0 c.2)
every_change_keeps_sound (what.Extend (Some s)) = extension_keeps_sound s
every_change_keeps_sound (what.AddDependency p s) = pair_keeps_sound p s
every_change_keeps_sound (what.SetAvailable r available) = availability_keeps_sound r available
every_change_keeps_sound (what.ReplaceIntervals w items) = intervals_keep_sound w items

pub every_step_keeps_sound : StepKeepsSound
every_step_keeps_sound = step_keeps_sound every_change_keeps_sound

-- ---- runs

as_step : (P : Plan) (T : Receipts) (n : Numbered) (chosen : List OpKey) (after : Plan) → StepBy (NumberedMayBeAccepted P T n) P n.request (accepted chosen) after → Step P n.request (accepted chosen) after
as_step P T n chosen after h = record { none_refuses = λ r. (h.none_refuses r).0; is_request = h.is_request; changed = h.changed; changes = h.changes; is_chosen = h.is_chosen; is_after = h.is_after }

-- an accepted call is a step of its request, or repeats a reply and changes nothing
accepted_step : (s t : State) (c : Call) (chosen : List OpKey) → CallStep s c (accepted chosen) t → Step s.plan (request_of c) (accepted chosen) t.plan ⊎ (t.plan ≡ s.plan)
accepted_step s t (plain q) chosen h = inl h.0
accepted_step s t (numbered n) chosen (inl again) = inr again.1
accepted_step s t (numbered n) chosen (inr new) = inl (as_step s.plan s.receipts n chosen t.plan new.2)

pub answer_keeps_sound : (s t : State) (u v : Usable) (c : Call) (reply : Answer) → IsSoundPlan s.plan → Answers s u c reply t v → IsSoundPlan t.plan
answer_keeps_sound s t u v c (refused r) sound h = subst (λ x. IsSoundPlan x.plan) (sym (refused_changes_nothing s t u v c r h)) sound
answer_keeps_sound s t u v c (accepted chosen) sound h = elim (accepted_step s t c chosen (accepted_call s t u v c chosen h)) [
  | inl step ↦ every_step_keeps_sound s.plan t.plan (request_of c) (accepted chosen) sound step
  | inr same ↦ subst IsSoundPlan (sym same) sound
]

pub run_keeps_sound : RunKeepsSound
run_keeps_sound s t u v [] [] sound h = subst (λ x. IsSoundPlan x.plan) (sym h.0) sound
run_keeps_sound s t u v (c ∷ cs) (reply ∷ replies) sound h = run_keeps_sound h.0 t h.1 v cs replies (answer_keeps_sound s h.0 u h.1 c reply sound h.2) h.3
run_keeps_sound s t u v [] (reply ∷ replies) sound h = absurd h
run_keeps_sound s t u v (c ∷ cs) [] sound h = absurd h

-- ---- from the empty plan

pub nothing_at : {A B : Type 0} (x : Option A) (a : A) → x ≡ None → x ≡ Some a → B
nothing_at x a e h = absurd (none-some a (sym e ∙ h))

pub nothing_known : {A B : Type 0} (x : Option A) → x ≡ None → is_some x ≡ true → B
nothing_known x e h = absurd (true≢false (sym h ∙ ap is_some e))

no_path : {K : Type 0} {edge : K → K → Type 0} → ((a b : K) → edge a b → ⊥) → {a b : K} → LeadsBy edge a b → ⊥
no_path none (by_edge e) = none _ _ e
no_path none (by_more e rest) = none _ _ e

pub no_pair : (p o : OpKey) → IsPairOf nothing.pairs p o → ⊥
no_pair p o h = true≢false (sym h ∙ set.contains-empty pair_cmp (p, o))

nothing_is_sound : IsSound nothing
nothing_is_sound = record {
  valid = record {
    workstations = λ w ws e. nothing_at (get nothing.workstations w) ws (get-empty name_cmp w) e;
    resources = λ r stock e. nothing_at (get nothing.resources r) stock (get-empty name_cmp r) e;
    occurrences = record {
      each_occurrence = λ c x e. nothing_at (get nothing.occurrences c) x (get-empty occurrence_cmp c) e;
      each_operation = λ o x e. nothing_at (get nothing.operations o) x (get-empty operation_cmp o) e;
      not_empty = λ c h. nothing_known (get nothing.occurrences c) (get-empty occurrence_cmp c) h;
    };
    have_workstations = λ o op e. nothing_at (get nothing.operations o) op (get-empty operation_cmp o) e;
    have_resources = λ o op e. nothing_at (get nothing.operations o) op (get-empty operation_cmp o) e;
    amounts = λ o op e. nothing_at (get nothing.operations o) op (get-empty operation_cmp o) e;
    pairs = λ p o h. absurd (no_pair p o h);
    acyclic = λ o h. no_path no_pair h;
    limits = record {
      workstations = rw (len-empty name_cmp Workstation) (omega arith);
      resources = rw (len-empty name_cmp Stock) (omega arith);
      occurrences = rw (len-empty occurrence_cmp Occurrence) (omega arith);
      operations = rw (len-empty operation_cmp Operation) (omega arith);
      pairs = rw (set.len-empty pair_cmp) (omega arith);
    };
  };
  in_order = λ o h. nothing_at (get nothing.operations o) h.0 (get-empty operation_cmp o) h.1;
  compatible = λ a b r x y apart ha hb. nothing_at (get nothing.operations a) ha.0 (get-empty operation_cmp a) ha.1;
  within = λ r stock e. nothing_at (get nothing.resources r) stock (get-empty name_cmp r) e;
  held = λ o op e h. nothing_at (get nothing.operations o) op (get-empty operation_cmp o) e;
  marks = λ o op a e w. nothing_at (get nothing.operations o) op (get-empty operation_cmp o) e;
  deleted = λ a b e ha op hb. nothing_at (get nothing.operations a) ha.0 (get-empty operation_cmp a) ha.1;
}

pub no_plan_is_sound : IsSoundPlan no_plan
no_plan_is_sound = record { clock = omega arith; contents = nothing_is_sound; before_load = λ h. refl }

pub reached_is_sound : (first : State) (calls : List Call) (replies : List Answer) (s : State) (u : Usable) → IsSoundPlan first.plan → Run first usable calls replies s u → IsSoundPlan s.plan
reached_is_sound first calls replies s u sound run = run_keeps_sound first s usable u calls replies sound run

same_plan : {A : Type 0} (P Q : Plan) (o : OpKey) → Q ≡ P → BecomesStarted P Q o → A
same_plan P Q o e b = absurd (b.0 (subst (λ X. HasStatus X.contents o status.Started) e b.1))

pub reached_starts_are_provided_for : ReachedStartsAreProvidedFor
reached_starts_are_provided_for first calls replies s t u v c (refused r) sound run h o becomes = same_plan s.plan t.plan o (ap (λ x. x.plan) (refused_changes_nothing s t u v c r h)) becomes
reached_starts_are_provided_for first calls replies s t u v c (accepted chosen) sound run h o becomes = elim (accepted_step s t c chosen (accepted_call s t u v c chosen h)) [
  | inl step ↦ starts_are_provided_for s.plan t.plan (request_of c) (accepted chosen) (reached_is_sound first calls replies s u sound run) step o becomes
  | inr same ↦ same_plan s.plan t.plan o same becomes
]
