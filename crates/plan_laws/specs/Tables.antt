-- The rows of a valid plan, and those that change: they are there, and they determine the plan.
use Rattle.std.specs.Prelude.{◌≡◌, ◌↔◌, ℕ, List, Contains}
use Rattle.plan_basics.specs.declared.keys.OpKey.{OpKey}
use Rattle.plan_records.specs.plan_model.specs.Plan.{Plan, IsSoundPlan}
use Rattle.plan_records.specs.plan_model.specs.Contents.{Contents, IsInPlan}
use Rattle.plan_records.specs.plan_model.specs.Valid.{IsValid}
use Rattle.plan_basics.specs.Keys.{Name}
use Rattle.plan_records.specs.Answer.{Answer}
use Rattle.plan_records.specs.Receipts.{IsReceiptRow}
use Rattle.plan_records.specs.Rows.{AreChanges, AreRows, IsOperationRow, IsRow}
use Rattle.plan_records.specs.Step.{Receipt, Receipts, Step}
use Rattle.plan_records.specs.declared.OperationRow.{OperationRow}
use Rattle.plan_records.specs.declared.PlanRow.{PlanRow}
use Rattle.plan_records.specs.declared.Request.{Request}
use Rattle.plan_records.specs.declared.What.{What}
use Rattle.plan_records.specs.declared.What.TheVariants as what
use Rattle.plan_records.specs.plan_drafts.specs.declared.RowKey.{RowKey}
use Rattle.plan_records.specs.plan_drafts.specs.declared.RowKey.TheVariants as key

-- each operation of a valid plan has a row, and no other
abbrev pub EachHasOneRow : Type 0
EachHasOneRow = (P : Contents) → IsValid P → (o : OpKey) → IsInPlan P o → (r : OperationRow) × (r.op ≡ o) × IsOperationRow P r × ((s : OperationRow) → s.op ≡ o → IsOperationRow P s → s ≡ r)

-- two valid plans with the same rows are one plan
abbrev pub RowsTellPlan : Type 0
RowsTellPlan = (P Q : Plan) → IsValid P.contents → IsValid Q.contents → ((r : PlanRow) → IsRow P r ↔ IsRow Q r) → P ≡ Q

-- a valid plan has a list of its rows
abbrev pub SomeRows : Type 0
SomeRows = (P : Plan) → IsValid P.contents → (rows : List PlanRow) × AreRows P rows

-- from a valid plan to another there is a list of the rows that change, and one of the keys that go
abbrev pub SomeChanges : Type 0
SomeChanges = (P Q : Plan) → IsValid P.contents → IsValid Q.contents → (rows : List PlanRow) × (gone : List RowKey) × AreChanges P Q rows gone

-- from one plan to another one list of rows changes, and one list of keys goes
abbrev pub OneListOfChanges : Type 0
OneListOfChanges = (P Q : Plan) (rows others : List PlanRow) (gone more : List RowKey) → AreChanges P Q rows gone → AreChanges P Q others more → (rows ≡ others) × (gone ≡ more)

-- receipts with the same rows are the same receipts
abbrev pub RowsTellReceipts : Type 0
RowsTellReceipts = (T U : Receipts) → ((tracker : Name) (receipt : Receipt) → IsReceiptRow T tracker receipt ↔ IsReceiptRow U tracker receipt) → T ≡ U

-- a row of this key may go: an interval, or what goes with an occurrence
abbrev pub MayGo : RowKey → Type 0
MayGo key.Meta = ⊥
MayGo (key.Workstation w) = ⊥
MayGo (key.Resource r) = ⊥
MayGo (key.Quantity r) = ⊥
MayGo _ = Unit {0}

-- no request takes out of the tables of a sound plan anything but these
abbrev pub OnlyTheseGo : Type 0
OnlyTheseGo = (P Q : Plan) (q : Request) (reply : Answer) (rows : List PlanRow) (gone : List RowKey) → IsSoundPlan P → Step P q reply Q → AreChanges P Q rows gone → (k : RowKey) → Contains gone k → MayGo k

-- a request is an extension, by which occurrences may leave
abbrev pub IsExtending : What → Type 0
IsExtending (what.Extend a) = Unit {0}
IsExtending _ = ⊥

-- the key of an interval of a workstation
abbrev pub IsIntervalKey : RowKey → Type 0
IsIntervalKey k = (w : Name) × (from : ℕ) × (k ≡ key.Interval w from)

-- no request but an extension takes out of the tables of a sound plan anything but intervals
abbrev pub OnlyIntervalsGo : Type 0
OnlyIntervalsGo =
    (P Q : Plan) (q : Request) (reply : Answer) (rows : List PlanRow) (gone : List RowKey) → ¬ IsExtending q.what → IsSoundPlan P → Step P q reply Q → AreChanges P Q rows gone → (k : RowKey) → Contains gone k → IsIntervalKey k
