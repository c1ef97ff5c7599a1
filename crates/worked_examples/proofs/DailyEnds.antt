-- DAILY's first ends, the second is named, and the end that is told again is refused.
use Rattle.std.proofs.Common.{rules, arith, ◌≡◌, inl, inr, refl, sym, ◌∙◌, ap, subst, pos, ◌<◌, cond, [], ◌∷◌, List, Some, option_map, MatchOption}
use Rattle.std.specs.FinMap.{entries, find, from_entries, get, get-from_entries}
use Rattle.plan_basics.specs.declared.Attr.TheVariants.{Automatic}
use Rattle.plan_basics.specs.declared.Refusal.{Refusal}
use Rattle.plan_basics.specs.declared.Refusal.TheVariants as refusal
use Rattle.plan_basics.specs.declared.keys.OpKey.{OpKey}
use Rattle.plan_basics.specs.Intervals.{interval_by}
use Rattle.plan_basics.specs.Keys.{occurrence_cmp_total, operation_cmp, operation_cmp_total, operation_cmp-IsAntisymmetric}
use Rattle.plan_basics.specs.Refusals.{number_of}
use Rattle.status_rules.specs.Table.{marked_status}
use Rattle.status_rules.specs.declared.Mark.TheVariants as mark
use Rattle.status_rules.specs.declared.Status.{Status}
use Rattle.status_rules.specs.declared.Status.TheVariants as status
use Rattle.ready_list.specs.declared.ReadyKey.{ReadyKey}
use Rattle.plan_model.specs.Contents.{Contents, Operation, Precedes, attribute_at}
use Rattle.plan_model.specs.Holdings.{given_out}
use Rattle.plan_model.specs.Ready.{IsChosen, IsEntry, named, with_mark}
use Rattle.plan_model.specs.Revise.{revise}
use Rattle.plan_model.specs.Starts.{IsAllowedToStart}
use Rattle.plan_model.specs.Status.{HasStatus, IsReady, UnmarkedStatus}
use Rattle.plan_model.proofs.Looks.{as_named, get-named}
use Rattle.plan_records.specs.Acceptance.{MayBeAccepted, MayBeEnded}
use Rattle.plan_records.specs.Answer.{accepted, refused}
use Rattle.plan_records.specs.Changes.{is_at}
use Rattle.plan_records.specs.Step.{Step}
use Rattle.plan_records.specs.declared.Request.{Request}
use Rattle.plan_records.specs.declared.What.TheVariants as what
use Rattle.plan_laws.proofs.Kept.{named_none}
use Rattle.std.proofs.lemmas.Option.{same_Some}
use Rattle.worked_examples.specs.Day.{always_open, cpu1, daily, day, evening, first, lasting, loaded_at, occurrence, second}
use Rattle.worked_examples.specs.Night.{end_of_second}
use Rattle.worked_examples.specs.Statements.{EndTwice}
use Rattle.worked_examples.specs.Stopped.{first_ended, first_started}
use Rattle.worked_examples.proofs.DayLoad.{station_found}
use Rattle.worked_examples.proofs.Entries.{one_ready}
use Rattle.worked_examples.proofs.Facts.{marked_is_not_ready, status_of_next}
use Rattle.worked_examples.proofs.Given.{allowed, given_out_by, given_out_is}
use Rattle.worked_examples.proofs.Lists.{anew, entries-from_entries, revise_written}
use Rattle.worked_examples.proofs.Literal.{each_entry, one_before, only}
use Rattle.worked_examples.proofs.NightRefusals.{found_alone}
use Rattle.worked_examples.proofs.Small.{first_is, first_precedes, on_automatic}
use Rattle.worked_examples.proofs.Starts.{starts_at_end}
use Rattle.worked_examples.proofs.TrioChoice.{chosen_by, not_left}

-- ---- what the plan holds once the first ended

-- the first once it is done
abbrev done_first : Operation
done_first = with_mark mark.Done (lasting 30)

-- both operations as they are loaded
abbrev day_operations : List (OpKey × Operation)
day_operations = (first, lasting 30) ∷ (second, lasting 60) ∷ []

-- and once the first is done
abbrev operations_then : List (OpKey × Operation)
operations_then = (first, done_first) ∷ (second, lasting 60) ∷ []

-- an operation where the first is done
abbrev when_done : OpKey → Operation → Operation
when_done o op = cond (is_at first o) (with_mark mark.Done op) op

written : first_ended.operations ≡ from_entries operations_then
written =
    ap (revise when_done) (revise_written operation_cmp_total operation_cmp-IsAntisymmetric (as_named (first ∷ [])) day_operations)
    ∙ revise_written operation_cmp_total operation_cmp-IsAntisymmetric when_done (anew (as_named (first ∷ [])) day_operations)

found_then : (o : OpKey) → get first_ended.operations o ≡ find operation_cmp o operations_then
found_then o = ap (λ m. get m o) written ∙ get-from_entries operation_cmp_total operations_then o

of_both : (Q : OpKey → Operation → Type 0) → Q first done_first → Q second (lasting 60) → (o : OpKey) (op : Operation) → get first_ended.operations o ≡ Some op → Q o op
of_both Q h k o op is = each_entry operation_cmp_total operation_cmp-IsAntisymmetric operations_then Q (h, (k, tt)) o op (sym (ap (λ m. get m o) written) ∙ is)

-- ---- the second is ready, and allowed to start

before_second : (q : OpKey) → Precedes first_ended q second → q ≡ first
before_second q h = only q first (one_before ((first, second) ∷ []) q second h)

first_complete : HasStatus first_ended first status.Complete
first_complete = (done_first, found_then first, refl)

second_ready : HasStatus first_ended second status.Ready
second_ready = status_of_next first_ended second (lasting 60) always_open first done_first always_open status.Complete (found_then second) station_found (found_then first) station_found (λ e. cc) first_precedes before_second first_complete

-- the second's place in the ready list
abbrev second_key : ReadyKey
second_key = record { latest = pos 27438000; priority = 5; duration = 60; op = second }

second_entry : IsEntry first_ended second_key
second_entry = (
  inr (inr second_ready),
  starts_at_end first_ended ((first, second) ∷ []) refl second (lasting 60) (found_then second) refl,
  (lasting 60, found_then second, refl),
  (occurrence, get-from_entries occurrence_cmp_total ((daily, occurrence) ∷ []) daily, refl),
)

only_second : (o : OpKey) (op : Operation) → get first_ended.operations o ≡ Some op → IsReady first_ended o → o ≡ second
only_second = of_both (λ o op. IsReady first_ended o → o ≡ second)
    (λ ready. absurd (marked_is_not_ready first_ended first done_first status.Complete (found_then first) refl (λ e. cc) (λ e. cc) (λ e. cc) ready))
    (λ ready. refl)

given_out_then : given_out first_ended cpu1 ≡ given_out_by cpu1 (Some Automatic) operations_then
given_out_then = given_out_is first_ended cpu1 (Some Automatic) operations_then on_automatic (ap entries written ∙ entries-from_entries operation_cmp_total operation_cmp-IsAntisymmetric operations_then tt)

second_allowed : IsAllowedToStart first_ended second end_of_second
second_allowed =
    allowed first_ended second (lasting 60) (found_then second) Automatic (interval_by 0 52595999 2 0 0) station_found end_of_second (given_out_by cpu1 (Some Automatic) operations_then) given_out_then
    (inr (inr second_ready)) refl (omega arith) (omega arith, omega arith) (omega arith) (omega arith) (omega arith) refl

second_chosen : IsChosen first_ended end_of_second (second ∷ [])
second_chosen = chosen_by first_ended end_of_second (second_key ∷ []) (second ∷ []) (one_ready first_ended second_key second_entry only_second) refl ((lasting 60, found_then second, on_automatic), tt)
    (subst (λ P. IsAllowedToStart P second end_of_second) (sym (named_none first_ended)) second_allowed, tt) (not_left _ refl, tt)

-- ---- the end

-- the end of the first
abbrev ending : Request
ending = record { at = pos end_of_second; what = what.Ended first }

-- what may be so of the first, once it and its workstation's attribute are looked up
at_first : (P : Contents) (op : Operation) (r : Refusal) → get P.operations first ≡ Some op → attribute_at P op.workstation ≡ Some Automatic → MayBeEnded P first op (Some Automatic) r
    → (x : Operation) → get P.operations first ≡ Some x → MayBeEnded P first x (attribute_at P x.workstation) r
at_first P op r is on h = found_alone P first op (λ x. MayBeEnded P first x (attribute_at P x.workstation) r) is (subst (λ a. MayBeEnded P first op a r) (sym on) h)

-- the first once it is named
abbrev named_first : Operation
named_first = with_mark mark.Named (lasting 30)

first_named : get first_started.operations first ≡ Some named_first
first_named = get-named (first ∷ []) day first ∙ ap (option_map (as_named (first ∷ []) first)) first_is

nothing_refuses : (r : Refusal) → MayBeAccepted (loaded_at evening first_started) ending r
nothing_refuses refusal.Past = search rules
nothing_refuses refusal.MomentRange = (end_of_second, refl, omega arith)
nothing_refuses refusal.NotLoaded = λ needs. refl
nothing_refuses refusal.Loaded = λ loads. absurd loads
nothing_refuses refusal.UnknownOperation = (named_first, first_named, tt)
nothing_refuses refusal.WrongStatus = at_first first_started named_first refusal.WrongStatus first_named on_automatic (inl (named_first, first_named, refl))
nothing_refuses r = at_first first_started named_first r first_named on_automatic tt

-- the plan that the end leaves
abbrev after : Contents
after = named (second ∷ []) first_ended

pub end_of_the_first : Step (loaded_at evening first_started) ending (accepted (second ∷ [])) (loaded_at end_of_second after)
end_of_the_first = record { none_refuses = nothing_refuses; is_request = tt; changed = first_ended; changes = refl; is_chosen = second_chosen; is_after = refl }

-- ---- the same end again

first_stays : get after.operations first ≡ Some done_first
first_stays = get-named (second ∷ []) first_ended first ∙ ap (option_map (as_named (second ∷ []) first)) (found_then first)

complete_alone : (s : Status) → HasStatus after first s → s ≡ status.Complete
complete_alone s h = subst (λ x. MatchOption (marked_status x.mark) (UnmarkedStatus after first s) (λ t. s ≡ t)) (same_Some h.0 done_first (sym h.1 ∙ first_stays)) h.2

lower_lines : (r : Refusal) → number_of r < 9 → MayBeAccepted (loaded_at end_of_second after) ending r
lower_lines refusal.Past h = search rules
lower_lines refusal.MomentRange h = (end_of_second, refl, omega arith)
lower_lines refusal.NotLoaded h = λ needs. refl
lower_lines refusal.Loaded h = λ loads. absurd loads
lower_lines refusal.UnknownOperation h = (done_first, first_stays, tt)
lower_lines refusal.UnknownOccurrence h = at_first after done_first refusal.UnknownOccurrence first_stays on_automatic tt
lower_lines refusal.UnknownWorkstation h = at_first after done_first refusal.UnknownWorkstation first_stays on_automatic tt
lower_lines refusal.UnknownResource h = at_first after done_first refusal.UnknownResource first_stays on_automatic tt
lower_lines r h = absurd (omega (arith, h))

end_again : Step (loaded_at end_of_second after) ending (refused refusal.WrongStatus) (loaded_at end_of_second after)
end_again = record {
  least = (
    λ may. elim (subst (λ a. MayBeEnded after first done_first a refusal.WrongStatus) on_automatic (may done_first first_stays)) [
      | inl started ↦ (let e = complete_alone status.Started started in cc)
      | inr undecided ↦ (let e = complete_alone status.Undecided undecided in cc)
    ],
    lower_lines,
  );
  is_after = refl;
}

pub end_twice : EndTwice
end_twice = (end_of_the_first, end_again)
