-- Receipts as rows of their table.
use Rattle.std.specs.Prelude.{◌≡◌, ◌≢◌, ◌↔◌, ◌<◌, ◌≤◌, ℕ, ℤ, pos, List, length, All, AllPairs, Contains}
use Rattle.plan_basics.specs.declared.limits.TheConstants.{LONGEST_REQUEST_TEXT}
use Rattle.plan_basics.specs.Keys.{Name}
use Rattle.plan_laws.specs.plan_records.specs.Receipts.{IsReceipt, IsReceiptRow}
use Rattle.plan_laws.specs.plan_records.specs.Step.{Receipt, Receipts}
use Rattle.tracker_receipts.specs.Replies.{joined}

-- the columns of a row
pub record Columns : Type 0 where
  pub tracker : Name
  pub number : ℤ
  pub text : List ℕ
  pub reply : List ℕ

-- those of a tracker's receipt: its name, the number, the text, and the keys as one text
abbrev pub columns_of : Name → Receipt → Columns
columns_of tracker receipt = record { tracker = tracker; number = pos receipt.number; text = receipt.text; reply = joined receipt.named }

-- the rows are those of these receipts, and no two are of one tracker
pub record AreRowsOf (T : Receipts) (rows : List Columns) : Type 0 where
  pub each : (row : Columns) → Contains rows row ↔ ((tracker : Name) × (receipt : Receipt) × IsReceiptRow T tracker receipt × (row ≡ columns_of tracker receipt))
  pub once : AllPairs (λ a b. a.tracker ≢ b.tracker) rows

-- a text that a numbered request may have: of bytes, and not too long
abbrev pub IsRequestText : List ℕ → Type 0
IsRequestText text = (length text ≤ LONGEST_REQUEST_TEXT) × All (λ b. b < 256) text

-- the row is that of a well formed receipt
abbrev pub IsRowOf : Columns → Receipt → Type 0
IsRowOf row receipt = IsReceipt row.tracker receipt × (row ≡ columns_of row.tracker receipt)
