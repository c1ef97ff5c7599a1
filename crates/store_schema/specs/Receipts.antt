-- The columns of receipts, and what writing a numbered request makes of the tables.
use Rattle.std.specs.Prelude.{◌≡◌, ◌↔◌, List}
use Rattle.sqlite_rules.specs.Lists.{Has}
use Rattle.plan_basics.specs.Keys.{Name}
use Rattle.tracker_receipts.specs.plan_drafts.specs.declared.RowKey.{RowKey}
use Rattle.tracker_receipts.specs.plan_records.specs.Receipts.{IsReceiptRow}
use Rattle.tracker_receipts.specs.plan_records.specs.Step.{Receipt, Receipts}
use Rattle.tracker_receipts.specs.plan_records.specs.declared.PlanRow.{PlanRow}
use Rattle.store_schema.specs.StoredPlans.{Held, StoredReceipt, with_receipt}
use Rattle.tracker_receipts.specs.Stored.{Columns, columns_of}
use Rattle.store_schema.specs.WrittenTables.{written}

-- a tracker's name, the number of its request, the request's text, and the keys that its reply named, as one text
abbrev pub stored_receipt : Columns → StoredReceipt
stored_receipt c = record { tracker = c.tracker; number = c.number; request = c.text; reply = c.reply }

-- those of a tracker's receipt
abbrev pub receipt_columns : Name → Receipt → StoredReceipt
receipt_columns tracker receipt = stored_receipt (columns_of tracker receipt)

-- the table of receipts holds these and no others
abbrev pub HoldReceipts : Receipts → Held → Type 0
HoldReceipts T held = (x : StoredReceipt) → Has held.receipts x ↔ ((tracker : Name) × (receipt : Receipt) × IsReceiptRow T tracker receipt × (x ≡ receipt_columns tracker receipt))

-- what changed rows, gone keys and a tracker's new receipt make of the tables
abbrev pub written_numbered : List PlanRow → List RowKey → Columns → Held → Held
written_numbered rows gone columns held = with_receipt (stored_receipt columns) (written rows gone held)
