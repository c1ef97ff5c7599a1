use Rattle.std.proofs.Common.{◌≡◌, map, All}
use Rattle.plan_basics.specs.Keys.{IsOperationKey}
use Rattle.plan_basics.specs.KeyTexts.{operation_text}
use Rattle.tracker_receipts.proofs.replies.keys_of_text.Given as goal

abbrev pub invariant-loop-part : goal.invariant-loop-part
invariant-loop-part l =
    (goal.iterator-loop-part).can_next l.part-iterator ×
    (goal.iterator-loop-part).is_finite l.part-iterator ×
    (map operation_text l.keys.items ≡ map (λ x. x.now) l.yielded) ×
    All IsOperationKey l.keys.items
