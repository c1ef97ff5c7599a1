-- Receipts as a list in order of their trackers.
use Rattle.std.specs.Prelude.{◌≤◌, true}
use Rattle.std.specs.FinMap.{from_entries}
use Rattle.std.specs.List.Sorted.{IsStrictlySortedBy}
use Rattle.std.specs.Map.{keys_of}
use Rattle.std.specs.Vec.{vec_capacity}
use Rattle.plan_basics.specs.declared.limits.TheConstants.{MOST_TRACKERS}
use Rattle.plan_basics.specs.Keys.{name_cmp}
use Rattle.plan_laws.specs.plan_records.specs.Receipts.{AreReceipts}
use Rattle.tracker_receipts.specs.declared.kept.Receipts.TheInside.{Inside}

-- each tracker once, in order; the receipts are well formed, as beside a loaded plan; there is room for those of all trackers
pub record AreKept (kept : Inside) : Type 0 where
  pub in_order : IsStrictlySortedBy name_cmp (keys_of kept.rows.items)
  pub legal : AreReceipts true (from_entries kept.rows.items)
  pub room : MOST_TRACKERS ≤ vec_capacity kept.rows
