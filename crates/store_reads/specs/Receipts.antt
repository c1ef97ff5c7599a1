-- Which receipt's row a stored row is.
use Rattle.std.specs.Prelude.{◌≡◌, drop}
use Rattle.sqlite.specs.Order.{Row}
use Rattle.store_schema.specs.StoredPlans.{receipt_row}
use Rattle.store_schema.specs.Receipts.{stored_receipt}
use Rattle.store_schema.specs.tracker_receipts.specs.Stored.{Columns}

-- a row that is read of the table of receipts, its rowid first, has these columns
abbrev pub IsReceiptStoredAs : Row → Columns → Type 0
IsReceiptStoredAs stored c = drop 1 stored ≡ receipt_row (stored_receipt c)

-- a row that is read of the table of receipts is no receipt's: its values are of other kinds
abbrev pub IsNoReceipt : Row → Type 0
IsNoReceipt stored = (c : Columns) → ¬ IsReceiptStoredAs stored c
