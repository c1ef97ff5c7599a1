-- Which receipts a desk may keep, and their rows.
use Rattle.std.specs.Prelude.{◌≡◌, ◌<◌, ◌≤◌, Bool, false, length, All, Some}
use Rattle.std.specs.FinMap.{get, len}
use Rattle.std.specs.FinMap as map
use Rattle.plan_basics.specs.declared.limits.TheConstants.{MOST_TRACKERS, GREATEST_REQUEST_NUMBER, LONGEST_REQUEST_TEXT}
use Rattle.plan_basics.specs.Names.{IsName}
use Rattle.plan_basics.specs.Keys.{Name, IsOperationKey}
use Rattle.plan_records.specs.Step.{Receipt, Receipts}

-- a legal tracker, a number that a tracker may use, a text that is not too long, of bytes, and keys of operations
pub record IsReceipt (tracker : Name) (receipt : Receipt) : Type 0 where
  pub tracker_name : IsName 8 tracker
  pub number : (0 < receipt.number) × (receipt.number ≤ GREATEST_REQUEST_NUMBER)
  pub text : (length receipt.text ≤ LONGEST_REQUEST_TEXT) × All (λ b. b < 256) receipt.text
  pub named : All IsOperationKey receipt.named

-- one of no more trackers than there may be, and none before a plan is loaded
pub record AreReceipts (loaded : Bool) (T : Receipts) : Type 0 where
  pub each : (tracker : Name) (receipt : Receipt) → get T tracker ≡ Some receipt → IsReceipt tracker receipt
  pub few : len T ≤ MOST_TRACKERS
  pub before_load : loaded ≡ false → T ≡ map.empty

-- a row of the receipts
abbrev pub IsReceiptRow : Receipts → Name → Receipt → Type 0
IsReceiptRow T tracker receipt = get T tracker ≡ Some receipt
