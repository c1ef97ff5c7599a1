-- A row of a table is one row of a plan, or of receipts, and each row that was decoded is of a row of the table.
use Rattle.std.proofs.Common.{◌≡◌, inl, inr, ℕ, ℤ, pos, List, [], ◌∷◌, drop, refl, sym, ap, subst, ◌∙◌}
use Rattle.std.specs.List.{AllZip}
use Rattle.sqlite.specs.Order.{Row, column}
use Rattle.sqlite.specs.declared.types.Value.{Value}
use Rattle.sqlite.specs.declared.types.Value.TheVariants.{Blob, Int, Text}
use Rattle.sqlite_rules.specs.Lists.{Has}
use Rattle.plan_records.specs.declared.PlanRow.{PlanRow}
use Rattle.plan_records.specs.declared.PlanRow.TheVariants as row
use Rattle.store_schema.specs.StoredPlans.{StoredMeta, StoredWorkstation, StoredInterval, StoredResource, StoredOccurrence, StoredOperation, StoredDependency, StoredNeed, StoredQuantity, StoredAmount}
use Rattle.store_schema.proofs.SameColumns.{meta_columns_injective, workstation_columns_injective, interval_columns_injective, resource_columns_injective, occurrence_columns_injective, operation_columns_injective, dependency_columns_injective, need_columns_injective, quantity_columns_injective, amount_columns_injective}
use Rattle.store_reads.specs.Receipts.{IsReceiptStoredAs}
use Rattle.store_reads.specs.Rows.{table_for, columns_of, IsStoredAs}
use Rattle.store_reads.specs.declared.decoding.Table.{Table}
use Rattle.store_schema.specs.tracker_receipts.specs.Stored.{Columns}

-- ---- the fields of a record, by the columns of its row

-- what a column says as a number, as a text, and as bytes
abbrev number_in : Value → ℤ
number_in (Int n) = n
number_in _ = pos 0

abbrev text_in : Value → List ℕ
text_in (Text t) = t
text_in _ = []

abbrev bytes_in : Value → List ℕ
bytes_in (Blob b) = b
bytes_in _ = []

abbrev number_at : ℕ → Row → ℤ
number_at i v = number_in (column v i)

abbrev text_at : ℕ → Row → List ℕ
text_at i v = text_in (column v i)

abbrev meta_in : Row → StoredMeta
meta_in v = record { id = number_at 0 v; version = number_at 1 v; loaded = number_at 2 v; clock = number_at 3 v }

abbrev workstation_in : Row → StoredWorkstation
workstation_in v = record { name = text_at 0 v; attr = text_at 1 v }

abbrev interval_in : Row → StoredInterval
interval_in v = record { ws = text_at 0 v; start = number_at 1 v; stop = number_at 2 v; servers = number_at 3 v; r1 = number_at 4 v; r2 = number_at 5 v }

abbrev resource_in : Row → StoredResource
resource_in v = record { name = text_at 0 v; available = number_at 1 v }

abbrev occurrence_in : Row → StoredOccurrence
occurrence_in v = record { app = text_at 0 v; ia = number_at 1 v; priority = number_at 2 v; deadline = number_at 3 v; status = text_at 4 v }

abbrev operation_in : Row → StoredOperation
operation_in v = record {
  app = text_at 0 v;
  ia = number_at 1 v;
  num = number_at 2 v;
  ws = text_at 3 v;
  duration = number_at 4 v;
  r1 = number_at 5 v;
  r2 = number_at 6 v;
  not_before = number_at 7 v;
  deadline = number_at 8 v;
  mark = text_at 9 v;
  code = text_at 10 v;
  held = number_at 11 v;
  nop = number_at 12 v;
  status = text_at 13 v;
  latest = number_at 14 v;
  waiting = number_at 15 v;
}

abbrev dependency_in : Row → StoredDependency
dependency_in v = record { papp = text_at 0 v; pia = number_at 1 v; pnum = number_at 2 v; sapp = text_at 3 v; sia = number_at 4 v; snum = number_at 5 v }

abbrev need_in : Row → StoredNeed
need_in v = record { app = text_at 0 v; ia = number_at 1 v; num = number_at 2 v; resource = text_at 3 v; mode = text_at 4 v; keep = text_at 5 v }

abbrev quantity_in : Row → StoredQuantity
quantity_in v = record { resource = text_at 0 v; quantity = number_at 1 v }

abbrev amount_in : Row → StoredAmount
amount_in v = record { app = text_at 0 v; ia = number_at 1 v; num = number_at 2 v; resource = text_at 3 v; amount = number_at 4 v }

abbrev receipt_in : Row → Columns
receipt_in v = record { tracker = text_at 0 v; number = number_at 1 v; text = bytes_in (column v 2); reply = text_at 3 v }

-- ---- one row

-- rows of a plan in one table, with the same columns, are one row
pub one_of_columns : (r q : PlanRow) → table_for r ≡ table_for q → columns_of r ≡ columns_of q → r ≡ q
one_of_columns (row.Meta v l c) (row.Meta w m d) t e = meta_columns_injective v w l m c d (ap meta_in e)
one_of_columns (row.Workstation v a) (row.Workstation w b) t e = workstation_columns_injective v w a b (ap workstation_in e)
one_of_columns (row.Interval v i) (row.Interval w j) t e = interval_columns_injective v w i j (ap interval_in e)
one_of_columns (row.Resource v a) (row.Resource w b) t e = resource_columns_injective v w a b (ap resource_in e)
one_of_columns (row.Occurrence c p m s) (row.Occurrence d q n u) t e = occurrence_columns_injective c d p q m n s u (ap occurrence_in e)
one_of_columns (row.Operation r) (row.Operation q) t e = operation_columns_injective r q (ap operation_in e)
one_of_columns (row.Dependency p s) (row.Dependency q u) t e = dependency_columns_injective p q s u (ap dependency_in e)
one_of_columns (row.Need o v m k) (row.Need p w n l) t e = need_columns_injective o p v w m n k l (ap need_in e)
one_of_columns (row.Quantity v m) (row.Quantity w n) t e = quantity_columns_injective v w m n (ap quantity_in e)
one_of_columns (row.Amount o v m) (row.Amount p w n) t e = amount_columns_injective o p v w m n (ap amount_in e)
one_of_columns _ _ t e = absurd (cc t)

-- a row of a table is one row of a plan
pub one_row : (t : Table) (s : Row) (r q : PlanRow) → IsStoredAs t s r → IsStoredAs t s q → r ≡ q
one_row t s r q h k = one_of_columns r q (h.0 ∙ sym k.0) (sym h.2 ∙ k.2)

-- a row of the table of receipts is one receipt's row
pub one_receipt : (s : Row) (c d : Columns) → IsReceiptStoredAs s c → IsReceiptStoredAs s d → c ≡ d
one_receipt s c d h k = ap receipt_in (sym h ∙ k)

-- behind their rowids, the rows of a table that are one row of a plan are equal
pub same_columns : (t : Table) (s u : Row) (r : PlanRow) → IsStoredAs t s r → IsStoredAs t u r → drop 1 s ≡ drop 1 u
same_columns t s u r h k = h.2 ∙ sym k.2

-- ---- the rows that were decoded

-- each row of the table is one of them
pub row_for : {X : Type 0} (IsOf : Row → X → Type 0) (stored : List Row) (read : List X) → AllZip IsOf stored read → (s : Row) → Has stored s → (x : X) × Has read x × IsOf s x
row_for IsOf (u ∷ stored) (x ∷ read) all s (inl first) = (x, inl refl, subst (λ y. IsOf y x) (sym first) all.0)
row_for IsOf (u ∷ stored) (x ∷ read) all s (inr later) = let it = row_for IsOf stored read all.1 s later in (it.0, inr it.1, it.2)
row_for IsOf (u ∷ stored) [] all s has = absurd all
row_for IsOf [] read all s has = absurd has

-- each of them is of a row of the table
pub stored_for : {X : Type 0} (IsOf : Row → X → Type 0) (stored : List Row) (read : List X) → AllZip IsOf stored read → (x : X) → Has read x → (s : Row) × Has stored s × IsOf s x
stored_for IsOf (u ∷ stored) (y ∷ read) all x (inl first) = (u, inl refl, subst (IsOf u) (sym first) all.0)
stored_for IsOf (u ∷ stored) (y ∷ read) all x (inr later) = let it = stored_for IsOf stored read all.1 x later in (it.0, inr it.1, it.2)
stored_for IsOf [] (y ∷ read) all x has = absurd all
stored_for IsOf stored [] all x has = absurd has
