-- A tracker's first report, which is accepted, and the same report again, which is answered by its receipt.
use Rattle.std.proofs.Common.{arith, ◌≡◌, inl, inr, refl, sym, ◌∙◌, ap, subst, ◌+◌, ◌≤◌, List, length, Some}
use Rattle.std.specs.FinMap.{get, get-empty, len-empty}
use Rattle.plan_basics.specs.Keys.{name_cmp}
use Rattle.plan_basics.specs.declared.keys.OpKey.{OpKey}
use Rattle.plan_basics.specs.declared.limits.TheConstants.{LONGEST_REQUEST_TEXT}
use Rattle.plan_model.specs.Plan.{Plan}
use Rattle.plan_records.specs.Answer.{Answer, accepted}
use Rattle.plan_records.specs.Step.{AnswersAgain, HasReceiptRoom, IsNumbered, Numbered, NumberedStep, Receipt, Receipts, Step, StepsAnew, last_number, receipts_after}
use Rattle.worked_examples.specs.Tracker.{no_receipts}

module _ (n : Numbered) (one : n.number ≡ 1) (is : IsNumbered n) (short : length n.text ≤ LONGEST_REQUEST_TEXT) where
  has_room : HasReceiptRoom no_receipts n
  has_room = (inr (let e = len-empty name_cmp Receipt in omega arith), short, omega (arith, one))

  -- what its request is answered, it is answered, and it leaves a receipt
  pub first_report : (P after : Plan) (chosen : List OpKey) → Step P n.request (accepted chosen) after → StepsAnew P no_receipts n (accepted chosen) after (receipts_after no_receipts n (accepted chosen))
  first_report P after chosen step = (
    one ∙ ap (λ x. last_number x + 1) (sym (get-empty name_cmp n.tracker)),
    λ keys e. is,
    record {
      none_refuses = λ r. (step.none_refuses r, λ e. has_room);
      is_request = step.is_request;
      changed = step.changed;
      changes = step.changes;
      is_chosen = step.is_chosen;
      is_after = step.is_after;
    },
    refl,
  )

-- what a number is answered by the receipt that is found
pub by_receipt : (P : Plan) (T : Receipts) (n : Numbered) (receipt : Receipt) (reply : Answer) → get T n.tracker ≡ Some receipt → AnswersAgain (Some receipt) n reply → NumberedStep P T n reply P T
by_receipt P T n receipt reply is h = inl (subst (λ x. AnswersAgain x n reply) (sym is) h, refl, refl)
