-- The reasons that follow from the operation's own status, flags and not-before.
use Rattle.std.proofs.Common.{◌≡◌, ◌≢◌, ◌⊎◌, inl, inr, refl, sym, ap, subst, ◌∙◌, arith, ℕ, ◌<◌, ◌≤◌, true, false, true≢false, Some, None}
use Rattle.std.proofs.lemmas.Option.{same_Some}
use Rattle.plan_basics.specs.declared.Attr.{Attr}
use Rattle.plan_basics.specs.declared.Attr.TheVariants as attribute
use Rattle.plan_basics.specs.declared.Refusal.TheVariants.{WrongStatus}
use Rattle.plan_basics.specs.declared.keys.OpKey.{OpKey}
use Rattle.status_rules.specs.Classes.{is_ready}
use Rattle.status_rules.specs.declared.Status.{Status}
use Rattle.status_rules.specs.declared.Status.TheVariants as status
use Rattle.plan_core.specs.plan_laws.proofs.Classes.{ready_by, ready_told}
use Rattle.plan_model.specs.Contents.{Contents, HasAttribute, Operation}
use Rattle.plan_model.specs.Starts.{MayStart}
use Rattle.plan_model.specs.Status.{HasStatus}
use Rattle.plan_core.specs.derived_figures.specs.Reports.{IsReported}
use Rattle.plan_core.specs.derived_figures.specs.declared.outlines.ReportedOperation.{ReportedOperation}
use Rattle.plan_reasons.specs.Parts.{IsOfKind}
use Rattle.plan_reasons.specs.Places.{goes_on_from}
use Rattle.plan_reasons.specs.Reasons.{IsReasonOf, beginning_by, needs_start}
use Rattle.plan_reasons.specs.declared.reasons.Reason.TheVariants as reason
use Rattle.plan_reasons.specs.declared.reasons.Rest.{Rest}
use Rattle.plan_reasons.proofs.Collecting.{none_of_kind, some_of_kind}
use Rattle.plan_reasons.proofs.KindPlaces.{only_early, only_held, only_rest}

-- ---- the status

-- a status from which it goes on is one of these
goes : (s : Status) (a : Attr) → goes_on_from s a ≡ true → (s ≡ status.Waiting) ⊎ (is_ready s ≡ true) ⊎ ((s ≡ status.Interrupted) × (a ≡ attribute.StartAndCompletion))
goes status.Waiting a e = inl refl
goes status.Arriving a e = inr (inl refl)
goes status.ReadyAfterNonreporting a e = inr (inl refl)
goes status.Ready a e = inr (inl refl)
goes status.Interrupted attribute.StartAndCompletion e = inr (inr (refl, refl))
goes s a e = absurd (true≢false (sym e))

-- a status from which it doesn't is none of them
rests : (s : Status) (a : Attr) → goes_on_from s a ≡ false → (s ≢ status.Waiting) × (is_ready s ≡ false) × ¬ ((s ≡ status.Interrupted) × (a ≡ attribute.StartAndCompletion))
rests status.Waiting a e = absurd (true≢false e)
rests status.Arriving a e = absurd (true≢false e)
rests status.ReadyAfterNonreporting a e = absurd (true≢false e)
rests status.Ready a e = absurd (true≢false e)
rests status.Interrupted attribute.StartAndCompletion e = absurd (true≢false e)
rests status.Interrupted a e = ((λ is. (cc)), refl, (λ both. let h = both.1 in (cc)))
rests s a e = ((λ is. (cc)), refl, (λ both. let h = both.0 in (cc)))

module _ (P : Contents) (o : OpKey) (m : ℕ) (x : ReportedOperation) (is : IsReported P o x) where
  module _ (goes_on : goes_on_from x.status x.attribute ≡ true) where
    not_at_rest : (r : Rest) → IsReasonOf P o x.operation.now m (reason.AtRest r) → ⊥
    not_at_rest r h = elim (goes x.status x.attribute goes_on) [
      | inl waits ↦ h.2 (is.alone r.status h.0 ∙ waits)
      | inr (inl ready) ↦ h.3 (inl (ready_by P o x.status is.status ready))
      | inr (inr both) ↦ h.3 (inr (subst (HasStatus P o) both.0 is.status, subst (HasAttribute P x.operation.now.workstation) both.1 is.attribute))
    ]

    pub none_at_rest : IsOfKind P o x.operation.now m 0 None
    none_at_rest = none_of_kind P o x.operation.now m 0 (only_rest (λ r. IsReasonOf P o x.operation.now m r → ⊥) not_at_rest)

  module _ (stays : goes_on_from x.status x.attribute ≡ false) where
    may_not : ¬ MayStart P o x.operation.now m WrongStatus
    may_not = λ may. elim may [
      | inl ready ↦ true≢false (sym (ready_told P o x.status is.alone ready) ∙ (rests x.status x.attribute stays).1)
      | inr both ↦ (rests x.status x.attribute stays).2 (sym (is.alone status.Interrupted both.0), same_Some x.attribute attribute.StartAndCompletion (sym is.attribute ∙ both.1))
    ]

    -- its status, and what its mark tells of a start
    abbrev its : Rest
    its = record { status = x.status; beginning = beginning_by x.operation.now.mark }

    one_rest : (r : Rest) → IsReasonOf P o x.operation.now m (reason.AtRest r) → reason.AtRest its ≡ reason.AtRest r
    one_rest r h =
        let status : x.status ≡ r.status = sym (is.alone r.status h.0) in
        let start : beginning_by x.operation.now.mark ≡ r.beginning = sym h.1 in
        λ i. reason.AtRest (record { status = status i; beginning = start i })

    pub some_at_rest : IsOfKind P o x.operation.now m 0 (Some (reason.AtRest its))
    some_at_rest =
        some_of_kind P o x.operation.now m 0 (reason.AtRest its) (is.status, refl, (rests x.status x.attribute stays).0, may_not) refl
        (only_rest (λ r. IsReasonOf P o x.operation.now m r → reason.AtRest its ≡ r) one_rest)

-- ---- the hold and the not-before

module _ (P : Contents) (o : OpKey) (op : Operation) (m : ℕ) where
  pub none_held : op.held ≡ false → IsOfKind P o op m 2 None
  none_held free = none_of_kind P o op m 2 (only_held (λ r. IsReasonOf P o op m r → ⊥) (λ h. true≢false (sym h ∙ free)))

  pub some_held : op.held ≡ true → IsOfKind P o op m 2 (Some reason.Held)
  some_held is = some_of_kind P o op m 2 reason.Held is refl (only_held (λ r. IsReasonOf P o op m r → reason.Held ≡ r) (λ h. refl))

  pub none_early : op.not_before ≤ m → IsOfKind P o op m 3 None
  none_early after = none_of_kind P o op m 3 (only_early (λ r. IsReasonOf P o op m r → ⊥) (λ t h. omega (arith, h.1, h.2, after)))

  pub some_early : needs_start P op ≡ true → m < op.not_before → IsOfKind P o op m 3 (Some (reason.TooEarly op.not_before))
  some_early start early =
      some_of_kind P o op m 3 (reason.TooEarly op.not_before) (start, refl, early) refl (only_early (λ r. IsReasonOf P o op m r → reason.TooEarly op.not_before ≡ r) (λ t h. ap (λ z. reason.TooEarly z) (sym h.1)))
