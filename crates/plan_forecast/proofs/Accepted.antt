-- What is done at a moment with work is accepted.
use Rattle.std.proofs.Common.{◌≡◌, inl, inr, refl, sym, ◌∙◌, ap, subst, arith, ℕ, ◌≤◌, pos, true, Option, Some, None, option_map, MatchOption}
use Rattle.std.proofs.lemmas.Int.{ints}
use Rattle.std.proofs.lemmas.Option.{none-some, same_Some}
use Rattle.std.specs.FinMap.{get}
use Rattle.plan_basics.specs.Minutes.{IsMoment}
use Rattle.plan_basics.specs.Refusals.{NoneRefuses}
use Rattle.plan_basics.specs.declared.Attr.{Attr}
use Rattle.plan_basics.specs.declared.Attr.TheVariants as attribute
use Rattle.plan_basics.specs.declared.Refusal.{Refusal}
use Rattle.plan_basics.specs.declared.Refusal.TheVariants as refusal
use Rattle.plan_basics.specs.declared.keys.OpKey.{OpKey}
use Rattle.plan_records.specs.plan_drafts.proofs.Tables.{is_found}
use Rattle.plan_model.specs.Contents.{Contents, HasAttribute, IsInPlan, Operation, attribute_at}
use Rattle.plan_model.specs.Plan.{IsSoundPlan, Plan}
use Rattle.plan_model.specs.Starts.{MayStart}
use Rattle.plan_model.specs.Status.{HasStatus}
use Rattle.plan_model.specs.Valid.{IsSound, MayBear}
use Rattle.status_rules.specs.Table.{marked_status}
use Rattle.status_rules.specs.declared.Mark.{Mark}
use Rattle.status_rules.specs.declared.Mark.TheVariants as mark
use Rattle.status_rules.specs.declared.Status.TheVariants as status
use Rattle.plan_records.specs.Acceptance.{MayBeAccepted, MayBeDone, MayBeEnded, MayBeStarted, OfOperation}
use Rattle.plan_records.specs.Changes.{IsRequest}
use Rattle.plan_records.specs.declared.What.{What}
use Rattle.plan_records.specs.declared.What.TheVariants as what
use Rattle.plan_forecast.specs.Ahead.{Ahead, IsGoing, IsWork, MayBegin}

-- what is started is on a workstation where starts are known
abbrev KnowsStarts : Attr → Type 0
KnowsStarts attribute.Automatic = Unit {0}
KnowsStarts attribute.StartAndCompletion = Unit {0}
KnowsStarts a = ⊥

bears_start : (m : Mark) (a : Attr) → MatchOption (marked_status m) ⊥ (λ t. status.Started ≡ t) → MayBear a m → KnowsStarts a
bears_start mark.Named a h b = subst KnowsStarts (sym b) tt
bears_start mark.Running a h (inl e) = subst KnowsStarts (sym e) tt
bears_start mark.Running a h (inr e) = subst KnowsStarts (sym e) tt
bears_start mark.Unmarked a h b = absurd h
bears_start m a h b = absurd (cc)

module _ (P : Contents) (sound : IsSound P) (o : OpKey) where
  starts_known : HasStatus P o status.Started → (op : Operation) → get P.operations o ≡ Some op → (a : Attr) → HasAttribute P op.workstation a → KnowsStarts a
  starts_known h op is a at =
      let same : op ≡ h.0 = same_Some op h.0 (sym is ∙ h.1) in
      bears_start op.mark a (subst (λ z. MatchOption (marked_status z.mark) ⊥ (λ t. status.Started ≡ t)) (sym same) h.2) (sound.marks o op a is at)

  some_attribute : (op : Operation) → get P.operations o ≡ Some op → attribute_at P op.workstation ≡ None → ⊥
  some_attribute op is e =
      let found = is_found (get P.workstations op.workstation) (sound.valid.have_workstations o op is) in
      none-some found.0.attribute (sym e ∙ ap (option_map (λ ws. ws.attribute)) found.1)

  ended_by : IsGoing P o → (op : Operation) → get P.operations o ≡ Some op → (a : Option Attr) → attribute_at P op.workstation ≡ a → (r : Refusal) → MayBeEnded P o op a r
  ended_by going op is None e r = absurd (some_attribute op is e)
  ended_by (inl h) op is (Some attribute.Automatic) e refusal.WrongStatus = inl h
  ended_by (inl h) op is (Some attribute.StartAndCompletion) e refusal.WrongStatus = inl h
  ended_by (inl h) op is (Some attribute.CompletionOnly) e r = absurd (starts_known h op is attribute.CompletionOnly e)
  ended_by (inl h) op is (Some attribute.Nonreporting) e r = absurd (starts_known h op is attribute.Nonreporting e)
  ended_by (inr h) op is (Some attribute.CompletionOnly) e refusal.WrongStatus = h.0
  ended_by (inr h) op is (Some attribute.CompletionOnly) e refusal.Held = ap (λ z. z.held) (same_Some op h.1.0 (sym is ∙ h.1.1)) ∙ h.1.2.1
  ended_by (inr h) op is (Some attribute.Automatic) e refusal.WrongStatus = absurd (let same = same_Some op h.1.0 (sym is ∙ h.1.1) in let clash : attribute.Automatic ≡ attribute.CompletionOnly = same_Some attribute.Automatic attribute.CompletionOnly (sym e ∙ ap (λ z. attribute_at P z.workstation) same ∙ h.1.2.0) in cc)
  ended_by (inr h) op is (Some attribute.StartAndCompletion) e refusal.WrongStatus = absurd (let same = same_Some op h.1.0 (sym is ∙ h.1.1) in let clash : attribute.StartAndCompletion ≡ attribute.CompletionOnly = same_Some attribute.StartAndCompletion attribute.CompletionOnly (sym e ∙ ap (λ z. attribute_at P z.workstation) same ∙ h.1.2.0) in cc)
  ended_by (inr h) op is (Some attribute.Nonreporting) e r = absurd (let same = same_Some op h.1.0 (sym is ∙ h.1.1) in let clash : attribute.Nonreporting ≡ attribute.CompletionOnly = same_Some attribute.Nonreporting attribute.CompletionOnly (sym e ∙ ap (λ z. attribute_at P z.workstation) same ∙ h.1.2.0) in cc)
  ended_by going op is (Some attribute.Automatic) e r = tt
  ended_by going op is (Some attribute.StartAndCompletion) e r = tt
  ended_by going op is (Some attribute.CompletionOnly) e r = tt

  started_by : (m : ℕ) (op : Operation) → (a : Option Attr) → a ≡ Some attribute.StartAndCompletion → ((r : Refusal) → MayStart P o op m r) → (r : Refusal) → MayBeStarted P m o op a r
  started_by m op (Some attribute.StartAndCompletion) e may r = may r
  started_by m op None e may r = absurd (cc)
  started_by m op (Some attribute.Automatic) e may r = absurd (let clash : attribute.Automatic ≡ attribute.StartAndCompletion = same_Some attribute.Automatic attribute.StartAndCompletion e in cc)
  started_by m op (Some attribute.CompletionOnly) e may r = absurd (let clash : attribute.CompletionOnly ≡ attribute.StartAndCompletion = same_Some attribute.CompletionOnly attribute.StartAndCompletion e in cc)
  started_by m op (Some attribute.Nonreporting) e may r = absurd (let clash : attribute.Nonreporting ≡ attribute.StartAndCompletion = same_Some attribute.Nonreporting attribute.StartAndCompletion e in cc)

  of_operation : (rest : Operation → Refusal → Type 0) → IsInPlan P o → ((op : Operation) → get P.operations o ≡ Some op → (r : Refusal) → rest op r) → (r : Refusal) → OfOperation P o rest r
  of_operation rest known each refusal.UnknownOperation = known
  of_operation rest known each r = λ op is. each op is r

  -- what is going may be ended
  ended_done : (x : ℕ) → IsGoing P o → IsInPlan P o → (r : Refusal) → MayBeDone P x (what.Ended o) r
  ended_done x going known = of_operation (λ op. MayBeEnded P o op (attribute_at P op.workstation)) known (λ op is. ended_by going op is (attribute_at P op.workstation) refl)

  -- what may begin where starts are reported may be started
  started_done : (x : ℕ) → MayBegin attribute.StartAndCompletion P o x → (r : Refusal) → MayBeDone P x (what.Started o) r
  started_done x (ready, on, allowed) = of_operation (λ op. MayBeStarted P x o op (attribute_at P op.workstation)) (allowed.0, allowed.1, tt) (λ op is.
      let here : op ≡ allowed.0 = same_Some op allowed.0 (sym is ∙ allowed.1) in
      let there : op ≡ on.0 = same_Some op on.0 (sym is ∙ on.1) in
      started_by x op (attribute_at P op.workstation) (ap (λ z. attribute_at P z.workstation) there ∙ on.2) (subst (λ z. (r : Refusal) → MayStart P o z x r) (sym here) allowed.2))

work_done : (s : Ahead) (x : ℕ) → IsSound s.plan.contents → (w : What) → IsWork s x w → (r : Refusal) → MayBeDone s.plan.contents x w r
work_done s x sound (what.Ended o) h = ended_done s.plan.contents sound o x h.0.0 (h.0.1.0, h.0.1.1, tt)
work_done s x sound what.Tick h = λ r. tt
work_done s x sound (what.Started o) h = started_done s.plan.contents sound o x h.2.may
work_done s x sound w h = absurd h

-- what is asked of a moment and of the plan is so, and so is what its kind asks
accepts_by : (P : Plan) (x : ℕ) (w : What) → P.clock ≤ x → IsMoment x → P.loaded ≡ true → ((r : Refusal) → MayBeDone P.contents x w r) → (MayBeAccepted P (record { at = pos x; what = w }) refusal.Loaded) → NoneRefuses (MayBeAccepted P (record { at = pos x; what = w }))
accepts_by P x w from moment loaded done new refusal.Past = omega (arith, ints, from)
accepts_by P x w from moment loaded done new refusal.MomentRange = (x, refl, moment)
accepts_by P x w from moment loaded done new refusal.NotLoaded = λ needs. loaded
accepts_by P x w from moment loaded done new refusal.Loaded = new
accepts_by P x w from moment loaded done new r = done r

no_load : (s : Ahead) (x : ℕ) (w : What) → IsWork s x w → MayBeAccepted s.plan (record { at = pos x; what = w }) refusal.Loaded
no_load s x (what.Ended o) h = λ load. absurd load
no_load s x what.Tick h = λ load. absurd load
no_load s x (what.Started o) h = λ load. absurd load
no_load s x w h = absurd h

pub work_accepted : (s : Ahead) (x : ℕ) (w : What) → IsSoundPlan s.plan → s.plan.loaded ≡ true → s.plan.clock ≤ x → IsMoment x → IsWork s x w → NoneRefuses (MayBeAccepted s.plan (record { at = pos x; what = w }))
work_accepted s x w sound loaded from moment h = accepts_by s.plan x w from moment loaded (work_done s x sound.contents w h) (no_load s x w h)

pub tick_accepted : (P : Plan) (x : ℕ) → P.loaded ≡ true → P.clock ≤ x → IsMoment x → NoneRefuses (MayBeAccepted P (record { at = pos x; what = what.Tick }))
tick_accepted P x loaded from moment = accepts_by P x what.Tick from moment loaded (λ r. tt) (λ load. absurd load)

pub work_is_request : (s : Ahead) (x : ℕ) (w : What) → IsWork s x w → IsRequest w
work_is_request s x (what.Ended o) h = tt
work_is_request s x what.Tick h = tt
work_is_request s x (what.Started o) h = tt
work_is_request s x w h = absurd h
