-- A call that is made again at once changes neither the plan nor the receipts.
use Rattle.std.proofs.Common.{◌≡◌, inl, inr, ◌∙◌, ap, subst, arith, List, Some, cond}
use Rattle.std.specs.Cmp.{tied_itself}
use Rattle.std.specs.FinMap.{get, get-insert}
use Rattle.std.specs.Ordering.{is_eq}
use Rattle.plan_basics.specs.Keys.{name_cmp_total}
use Rattle.plan_basics.specs.declared.keys.OpKey.{OpKey}
use Rattle.plan_model.specs.Plan.{Plan}
use Rattle.plan_laws.proofs.Repeating.{one_numbered_step}
use Rattle.plan_records.specs.Answer.{Answer, accepted, refused}
use Rattle.plan_records.specs.Run.{numbered, plain}
use Rattle.plan_records.specs.Step.{Numbered, NumberedStep, Receipts, last_number, receipts_after}
use Rattle.plan_repeats.specs.Repeats.{RepeatedCallsChangeNothing}
use Rattle.plan_repeats.proofs.Again.{repeats_change_nothing}

module _ (P after again : Plan) (T U V : Receipts) (n : Numbered) where
  -- where the first changes nothing, the second is the first
  same_again : (first second : Answer) → NumberedStep P T n first after U → NumberedStep after U n second again V → after ≡ P → U ≡ T → (again ≡ after) × (V ≡ U)
  same_again first second a b plan receipts =
      let one = one_numbered_step P again after T V U n second first (subst (λ R. NumberedStep P R n second again V) receipts (subst (λ X. NumberedStep X U n second again V) plan b)) a in
      (one.1, one.2)

  -- an accepted number is its tracker's last
  last_of_accepted : (chosen : List OpKey) → U ≡ receipts_after T n (accepted chosen) → last_number (get U n.tracker) ≡ n.number
  last_of_accepted chosen e =
      ap (λ R. last_number (get R n.tracker)) e
      ∙ ap last_number (get-insert name_cmp_total T n.tracker (record { number = n.number; text = n.text; named = chosen }) n.tracker
      ∙ ap (λ r. cond (is_eq r) (Some (record { number = n.number; text = n.text; named = chosen })) (get T n.tracker)) (tied_itself name_cmp_total n.tracker))

  numbered_again : (first second : Answer) → NumberedStep P T n first after U → NumberedStep after U n second again V → (again ≡ after) × (V ≡ U)
  numbered_again first second (inl a) b = same_again first second (inl a) b a.1 a.2
  numbered_again (refused r) second (inr a) b = same_again (refused r) second (inr a) b a.2.is_after a.3
  numbered_again (accepted chosen) second (inr a) (inl b) = (b.1, b.2)
  numbered_again (accepted chosen) second (inr a) (inr b) = let last = last_of_accepted chosen a.3 in let next = b.0 in absurd (omega (arith, last, next))

-- of an operator's or a tracker's
pub repeated_calls_change_nothing : RepeatedCallsChangeNothing
repeated_calls_change_nothing s t u (plain q) first second sound a b =
    let plan = repeats_change_nothing s.plan t.plan u.plan q first second sound a.0 b.0 in
    λ i. record { plan = plan i; receipts = b.1 i }
repeated_calls_change_nothing s t u (numbered n) first second sound a b =
    let same = numbered_again s.plan t.plan u.plan s.receipts t.receipts u.receipts n first second a b in
    λ i. record { plan = same.0 i; receipts = same.1 i }
