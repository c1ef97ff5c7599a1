use Rattle.std.proofs.Common.{sym, subst, true, List, []}
use Rattle.std.specs.FinMap.{from_entries}
use Rattle.std.specs.List.Sorted.{IsStrictlySortedBy}
use Rattle.std.specs.Map.{keys_of}
use Rattle.plan_basics.specs.Keys.{Name, name_cmp}
use Rattle.plan_laws.specs.plan_records.specs.Receipts.{AreReceipts}
use Rattle.plan_laws.specs.plan_records.specs.Step.{Receipt}
use Rattle.tracker_receipts.proofs.Keeping.{none_legal}
use Rattle.tracker_receipts.proofs.kept.Receipts.new.Goals as goal

none_in_order : IsStrictlySortedBy name_cmp []
unfolding IsStrictlySortedBy
none_in_order = tt

pub invariant_of-result : goal.invariant_of-result
invariant_of-result c =
    let none = c.in_ok-with_capacity.ensures.items in
    record {
      in_order = subst (λ (rows : List (Name × Receipt)). IsStrictlySortedBy name_cmp (keys_of rows)) (sym none) none_in_order;
      legal = subst (λ (rows : List (Name × Receipt)). AreReceipts true (from_entries rows)) (sym none) none_legal;
      room = c.in_ok-with_capacity.ensures.capacity;
    }
