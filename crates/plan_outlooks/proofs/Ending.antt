-- When an occurrence ends, by the minutes of its operations.
use Rattle.std.proofs.Common.{◌≡◌, ◌⊎◌, inl, inr, sym, ◌∙◌, arith, ℕ, ◌<◌, ◌≤◌, true, Option, Some, None, slice_get}
use Rattle.std.specs.FinMap.{contains_key, entries}
use Rattle.std.proofs.lemmas.Option.{none-some, same_Some}
use Rattle.plan_basics.specs.declared.keys.OccKey.{OccKey}
use Rattle.plan_basics.specs.declared.keys.OpKey.{OpKey}
use Rattle.plan_model.specs.Contents.{Contents, IsInPlan}
use Rattle.plan_model.specs.Status.{EachOperation}
use Rattle.plan_model.specs.Valid.{IsValid}
use Rattle.plan_reasons.specs.plan_drafts.proofs.RowPlaces.{row_at}
use Rattle.status_rules.specs.declared.Status.TheVariants.{Complete}
use Rattle.plan_outlooks.specs.Forecasts.{Forecast}
use Rattle.plan_outlooks.specs.Lent.{IsLent, IsOfRow}
use Rattle.plan_outlooks.specs.Occurrences.{IsEnd, IsLastEnd}
use Rattle.plan_outlooks.specs.Spans.{AreOperationsOf, HaveStatus, IsLatest, IsLatestOf}
use Rattle.plan_outlooks.specs.declared.refs.ForecastRefs.{ForecastRefs}
use Rattle.plan_outlooks.proofs.OperationRows.{done_at, in_last, last_to_first, of_row, row_of, value_of}

module _ (F : Forecast) (x : ForecastRefs) (lent : IsLent F x) (c : OccKey) (first end : ℕ) (are : AreOperationsOf F.plan.contents c first end) where
  abbrev P : Contents
  P = F.plan.contents

  abbrev Q : Contents
  Q = F.last.plan.contents

  -- an operation of the occurrence is at one of the indices
  placed : (o : OpKey) → o.occurrence ≡ c → IsInPlan P o → (i : ℕ) × (first ≤ i) × (i < end) × IsOfRow F i o
  placed o same (op, is, _) = let r = row_of P o op is in let at = (are.are r.0 o op r.1).0 same in (r.0, at.0, at.1, (op, r.1))

  -- and what is at one of them is one of the occurrence's
  its : (i : ℕ) → first ≤ i → i < end → (o : OpKey) × IsOfRow F i o × (o.occurrence ≡ c)
  its i low high =
      let r = row_at (entries P.operations) i (let within = are.within in omega (arith, high, within)) in
      (r.0.0, (r.0.1, r.1), (are.are i r.0.0 r.0.1 r.1).1 (low, high))

  pub each_complete : HaveStatus Q first end Complete → EachOperation Q c Complete
  each_complete all o same (op, is, _) =
      let r = row_of Q o op is in
      let old = last_to_first F x lent r.0 o op r.1 in
      let at = (are.are r.0 o old.0 old.1).0 same in
      all r.0 o op r.1 at.0 at.1

  pub all_complete : EachOperation Q c Complete → HaveStatus Q first end Complete
  all_complete each i o op at low high =
      let old = last_to_first F x lent i o op at in
      each o ((are.are i o old.0 old.1).1 (low, high)) (op, of_row Q i o op at, tt)

  module _ (each : EachOperation Q c Complete) where
    pub last_end : (m : ℕ) → IsLatestOf x.done.now first end m → IsLastEnd F c m
    last_end m latest =
        let i = latest.among in
        let o = its i.0 i.1 i.2 in
        record {
          complete = each;
          last = (o.0, o.2, (o.1.0, of_row P i.0 o.0 o.1.0 o.1.1, tt), sym (done_at F x lent i.0 o.0 (Some m) o.1 i.3));
          none_later = λ p n same here done.
              let at = placed p same here in
              let known = latest.all at.0 at.1 at.2 in
              let one : n ≡ known.0 = same_Some n known.0 (sym done ∙ sym (done_at F x lent at.0 p (Some known.0) at.3 known.1)) in
              (let le = known.2 in omega (arith, le, one));
        }

    -- some operation is complete, and of each that is it is known since when
    pub none_unknown : IsValid P → contains_key P.occurrences c ≡ true → (end ≤ first) ⊎ ((i : ℕ) × (first ≤ i) × (i < end) × (slice_get x.done.now i ≡ Some None)) → ⊥
    none_unknown valid there (inl empty) =
        let o = valid.occurrences.not_empty c there in
        let value = value_of P o.0 o.2 in
        let at = placed o.0 o.1 (value.0, value.1, tt) in
        let low = at.1 in
        let high = at.2 in
        omega (arith, empty, low, high)
    none_unknown valid there (inr (i, low, high, none)) =
        let o = its i low high in
        let timed = lent.timed o.0 (each o.0 o.2 (in_last F x lent i o.0 o.1)) in
        none-some timed.0 (done_at F x lent i o.0 None o.1 none ∙ timed.1)

  pub is_end : IsValid P → contains_key P.occurrences c ≡ true → (found : Option ℕ) → HaveStatus Q first end Complete → IsLatest x.done.now first end found → IsEnd F c found
  is_end valid there None all latest = absurd (none_unknown (each_complete all) valid there latest)
  is_end valid there (Some m) all latest = last_end (each_complete all) m latest
