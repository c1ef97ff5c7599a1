-- The rows of a forecast's operations, in its plan and in its last one.
use Rattle.std.proofs.Common.{◌≡◌, refl, sym, ap, ◌∙◌, ℕ, true, Option, Some, None, slice_get, is_some}
use Rattle.std.specs.FinMap.{contains_key, entries, get}
use Rattle.std.proofs.lemmas.Option.{same_Some}
use Rattle.plan_basics.specs.Keys.{operation_cmp_total, operation_cmp-IsAntisymmetric}
use Rattle.plan_basics.specs.declared.keys.OpKey.{OpKey}
use Rattle.plan_model.specs.Contents.{Contents, IsInPlan, Operation}
use Rattle.plan_reasons.specs.plan_drafts.proofs.EntryRows.{entry_of, row_in}
use Rattle.plan_outlooks.specs.Forecasts.{Forecast}
use Rattle.plan_outlooks.specs.Lent.{IsLent, IsOfRow}
use Rattle.plan_outlooks.specs.declared.refs.ForecastRefs.{ForecastRefs}
use Rattle.plan_outlooks.proofs.Likeness.{like_row}

-- an operation of a plan has a row, and a row is of an operation
pub row_of : (P : Contents) (o : OpKey) (op : Operation) → get P.operations o ≡ Some op → (i : ℕ) × (slice_get (entries P.operations) i ≡ Some (o, op))
row_of P o op is = entry_of operation_cmp_total operation_cmp-IsAntisymmetric P.operations o op is

pub of_row : (P : Contents) (i : ℕ) (o : OpKey) (op : Operation) → slice_get (entries P.operations) i ≡ Some (o, op) → get P.operations o ≡ Some op
of_row P i o op at = row_in operation_cmp_total operation_cmp-IsAntisymmetric P.operations i o op at

some_value : (found : Option Operation) → is_some found ≡ true → (op : Operation) × (found ≡ Some op)
some_value (Some op) e = (op, refl)
some_value None e = cc

-- what has a key has a value
pub value_of : (P : Contents) (o : OpKey) → contains_key P.operations o ≡ true → (op : Operation) × (get P.operations o ≡ Some op)
value_of P o known = some_value (get P.operations o) known

module _ (F : Forecast) (x : ForecastRefs) (lent : IsLent F x) where
  -- an operation has its row at one index in both plans
  pub last_to_first : (i : ℕ) (o : OpKey) (op : Operation) → slice_get (entries F.last.plan.contents.operations) i ≡ Some (o, op) → IsOfRow F i o
  last_to_first i o op at = lent.like.rows i o op at

  pub first_to_last : (i : ℕ) (o : OpKey) → IsOfRow F i o → (op : Operation) × (slice_get (entries F.last.plan.contents.operations) i ≡ Some (o, op))
  first_to_last i o (old, at) = like_row F.plan.contents F.last.plan.contents lent.like i o old at

  pub in_last : (i : ℕ) (o : OpKey) → IsOfRow F i o → IsInPlan F.last.plan.contents o
  in_last i o at = let r = first_to_last i o at in (r.0, of_row F.last.plan.contents i o r.0 r.1, tt)

  -- the minutes at its index are its own
  pub done_at : (i : ℕ) (o : OpKey) (t : Option ℕ) → IsOfRow F i o → slice_get x.done.now i ≡ Some t → t ≡ F.last.done o
  done_at i o t (op, at) is = same_Some t (F.last.done o) (sym is ∙ lent.done i o op at)

  pub since_at : (i : ℕ) (o : OpKey) (t : Option ℕ) → IsOfRow F i o → slice_get x.since.now i ≡ Some t → t ≡ F.last.since o
  since_at i o t (op, at) is = same_Some t (F.last.since o) (sym is ∙ lent.since i o op at)

  -- its rows in the plans that are lent
  pub at_plan : (i : ℕ) (o : OpKey) (at : IsOfRow F i o) → slice_get (entries x.plan.now.operations) i ≡ Some (o, at.0)
  at_plan i o at = ap (λ (P : Contents). slice_get (entries P.operations) i) lent.plan ∙ at.1

  pub at_last : (i : ℕ) (o : OpKey) → IsOfRow F i o → (op : Operation) × (slice_get (entries x.last.now.operations) i ≡ Some (o, op))
  at_last i o at = let r = first_to_last i o at in (r.0, ap (λ (Q : Contents). slice_get (entries Q.operations) i) lent.last ∙ r.1)
