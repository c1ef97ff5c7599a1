-- The ten tables of a plan: which rows have columns in each, and which of them have one key.
use Rattle.std.proofs.Common.{◌≡◌, ◌↔◌, refl, sym, ap, ap₂, subst, ℕ, Bool, pos, [], ◌∷◌, take, Option, Some, None, inl, inr}
use Rattle.plan_basics.specs.Intervals.{OpenInterval}
use Rattle.plan_basics.specs.Keys.{Name}
use Rattle.plan_basics.specs.declared.Attr.{Attr}
use Rattle.plan_basics.specs.declared.keys.OccKey.{OccKey}
use Rattle.plan_basics.specs.declared.keys.OpKey.{OpKey}
use Rattle.tracker_receipts.specs.special_resources.specs.declared.Mode.{Mode}
use Rattle.status_rules.specs.declared.OccStatus.{OccStatus}
use Rattle.tracker_receipts.specs.plan_drafts.specs.declared.RowKey.TheVariants as key
use Rattle.tracker_receipts.specs.plan_records.specs.declared.OperationRow.{OperationRow}
use Rattle.tracker_receipts.specs.plan_records.specs.declared.PlanRow.{PlanRow}
use Rattle.tracker_receipts.specs.plan_records.specs.declared.PlanRow.TheVariants as row
use Rattle.sqlite.specs.Order.{Row}
use Rattle.sqlite.specs.declared.types.Value.TheVariants.{Int, Text}
use Rattle.store_schema.specs.StoredPlans.{StoredMeta, StoredWorkstation, StoredInterval, StoredResource, StoredOccurrence, StoredOperation, StoredDependency, StoredNeed, StoredQuantity, StoredAmount, workstation_row, interval_row, resource_row, occurrence_row, operation_row, dependency_row, need_row, quantity_row, amount_row}
use Rattle.store_schema.specs.Columns.{meta_columns, workstation_columns, interval_columns, resource_columns, occurrence_columns, operation_columns, dependency_columns, need_columns, quantity_columns, amount_columns}
use Rattle.store_schema.proofs.OneTable.{IsTable, row_with}

-- ---- the columns of a row, where it is of the table

abbrev pub meta_of : PlanRow → Option StoredMeta
meta_of (row.Meta version loaded clock) = Some (meta_columns version loaded clock)
meta_of _ = None

abbrev pub workstation_of : PlanRow → Option StoredWorkstation
workstation_of (row.Workstation name a) = Some (workstation_columns name a)
workstation_of _ = None

abbrev pub interval_of : PlanRow → Option StoredInterval
interval_of (row.Interval w i) = Some (interval_columns w i)
interval_of _ = None

abbrev pub resource_of : PlanRow → Option StoredResource
resource_of (row.Resource name available) = Some (resource_columns name available)
resource_of _ = None

abbrev pub occurrence_of : PlanRow → Option StoredOccurrence
occurrence_of (row.Occurrence c priority deadline status) = Some (occurrence_columns c priority deadline status)
occurrence_of _ = None

abbrev pub operation_of : PlanRow → Option StoredOperation
operation_of (row.Operation r) = Some (operation_columns r)
operation_of _ = None

abbrev pub dependency_of : PlanRow → Option StoredDependency
dependency_of (row.Dependency p s) = Some (dependency_columns p s)
dependency_of _ = None

abbrev pub need_of : PlanRow → Option StoredNeed
need_of (row.Need o r mode keep) = Some (need_columns o r mode keep)
need_of _ = None

abbrev pub quantity_of : PlanRow → Option StoredQuantity
quantity_of (row.Quantity r quantity) = Some (quantity_columns r quantity)
quantity_of _ = None

abbrev pub amount_of : PlanRow → Option StoredAmount
amount_of (row.Amount o r amount) = Some (amount_columns o r amount)
amount_of _ = None

-- ---- rows of one key

-- two values of a table begin with one key
abbrev pub BeginAlike : {X : Type 0} → ℕ → (X → Row) → X → X → Type 0
BeginAlike key row x y = take key (row x) ≡ take key (row y)

-- an operation's key by its first columns
same_operation : (o p : OpKey) → o.occurrence.app ≡ p.occurrence.app → o.occurrence.arrival ≡ p.occurrence.arrival → o.number ≡ p.number → o ≡ p
same_operation o p a b c = λ i. record { occurrence = record { app = a i; arrival = b i }; number = c i }

same_occurrence : (c d : OccKey) → c.app ≡ d.app → c.arrival ≡ d.arrival → c ≡ d
same_occurrence c d a b = λ i. record { app = a i; arrival = b i }

workstation_keys : (v w : Name) → (key.Workstation v ≡ key.Workstation w) ↔ (Text v ∷ [] ≡ Text w ∷ [])
workstation_keys v w = (λ e. let same : v ≡ w = cc in ap (λ z. Text z ∷ []) same, λ e. let same : v ≡ w = cc in ap key.Workstation same)

pub interval_keys : (v w : Name) (m n : ℕ) → (key.Interval v m ≡ key.Interval w n) ↔ (Text v ∷ Int (pos m) ∷ [] ≡ Text w ∷ Int (pos n) ∷ [])
interval_keys v w m n = (
  λ e. let name : v ≡ w = cc in let minute : m ≡ n = cc in ap₂ (λ z k. Text z ∷ Int (pos k) ∷ []) name minute,
  λ e. let name : v ≡ w = cc in let minute : m ≡ n = cc in ap₂ key.Interval name minute,
)

resource_keys : (v w : Name) → (key.Resource v ≡ key.Resource w) ↔ (Text v ∷ [] ≡ Text w ∷ [])
resource_keys v w = (λ e. let same : v ≡ w = cc in ap (λ z. Text z ∷ []) same, λ e. let same : v ≡ w = cc in ap key.Resource same)

pub occurrence_keys : (c d : OccKey) → (key.Occurrence c ≡ key.Occurrence d) ↔ (Text c.app ∷ Int (pos c.arrival) ∷ [] ≡ Text d.app ∷ Int (pos d.arrival) ∷ [])
occurrence_keys c d = (
  λ e. let same : c ≡ d = cc in ap (λ z. Text z.app ∷ Int (pos z.arrival) ∷ []) same,
  λ e. let app : c.app ≡ d.app = cc in let arrival : c.arrival ≡ d.arrival = cc in ap key.Occurrence (same_occurrence c d app arrival),
)

pub operation_keys : (o p : OpKey) → (key.Operation o ≡ key.Operation p) ↔ (Text o.occurrence.app ∷ Int (pos o.occurrence.arrival) ∷ Int (pos o.number) ∷ [] ≡ Text p.occurrence.app ∷ Int (pos p.occurrence.arrival) ∷ Int (pos p.number) ∷ [])
operation_keys o p = (
  λ e. let same : o ≡ p = cc in ap (λ z. Text z.occurrence.app ∷ Int (pos z.occurrence.arrival) ∷ Int (pos z.number) ∷ []) same,
  λ e. let app : o.occurrence.app ≡ p.occurrence.app = cc in let arrival : o.occurrence.arrival ≡ p.occurrence.arrival = cc in let number : o.number ≡ p.number = cc in ap key.Operation (same_operation o p app arrival number),
)

pub dependency_keys : (p s q t : OpKey) → (key.Dependency p s ≡ key.Dependency q t)
    ↔ (Text p.occurrence.app ∷ Int (pos p.occurrence.arrival) ∷ Int (pos p.number) ∷ Text s.occurrence.app ∷ Int (pos s.occurrence.arrival) ∷ Int (pos s.number) ∷ []
    ≡ Text q.occurrence.app ∷ Int (pos q.occurrence.arrival) ∷ Int (pos q.number) ∷ Text t.occurrence.app ∷ Int (pos t.occurrence.arrival) ∷ Int (pos t.number) ∷ [])
dependency_keys p s q t = (
  λ e.
      let first : p ≡ q = cc in
      let second : s ≡ t = cc in
      ap₂ (λ y z. Text y.occurrence.app ∷ Int (pos y.occurrence.arrival) ∷ Int (pos y.number) ∷ Text z.occurrence.app ∷ Int (pos z.occurrence.arrival) ∷ Int (pos z.number) ∷ []) first second,
  λ e. ap₂ key.Dependency (same_operation p q (cc) (cc) (cc)) (same_operation s t (cc) (cc) (cc)),
)

pub need_keys : (o p : OpKey) (v w : Name) → (key.Need o v ≡ key.Need p w)
    ↔ (Text o.occurrence.app ∷ Int (pos o.occurrence.arrival) ∷ Int (pos o.number) ∷ Text v ∷ [] ≡ Text p.occurrence.app ∷ Int (pos p.occurrence.arrival) ∷ Int (pos p.number) ∷ Text w ∷ [])
need_keys o p v w = (
  λ e. let op : o ≡ p = cc in let name : v ≡ w = cc in ap₂ (λ y z. Text y.occurrence.app ∷ Int (pos y.occurrence.arrival) ∷ Int (pos y.number) ∷ Text z ∷ []) op name,
  λ e. let name : v ≡ w = cc in ap₂ key.Need (same_operation o p (cc) (cc) (cc)) name,
)

quantity_keys : (v w : Name) → (key.Quantity v ≡ key.Quantity w) ↔ (Text v ∷ [] ≡ Text w ∷ [])
quantity_keys v w = (λ e. let same : v ≡ w = cc in ap (λ z. Text z ∷ []) same, λ e. let same : v ≡ w = cc in ap key.Quantity same)

pub amount_keys : (o p : OpKey) (v w : Name) → (key.Amount o v ≡ key.Amount p w)
    ↔ (Text o.occurrence.app ∷ Int (pos o.occurrence.arrival) ∷ Int (pos o.number) ∷ Text v ∷ [] ≡ Text p.occurrence.app ∷ Int (pos p.occurrence.arrival) ∷ Int (pos p.number) ∷ Text w ∷ [])
amount_keys o p v w = (
  λ e. let op : o ≡ p = cc in let name : v ≡ w = cc in ap₂ (λ y z. Text y.occurrence.app ∷ Int (pos y.occurrence.arrival) ∷ Int (pos y.number) ∷ Text z ∷ []) op name,
  λ e. let name : v ≡ w = cc in ap₂ key.Amount (same_operation o p (cc) (cc) (cc)) name,
)

-- ---- each is a table

-- the id of the one row of `meta`
abbrev pub HaveOneId : StoredMeta → StoredMeta → Type 0
HaveOneId x y = x.id ≡ y.id

pub meta_table : IsTable 0 meta_of (λ (p : ℕ × Bool × ℕ). row.Meta p.0 p.1 p.2) (λ p. meta_columns p.0 p.1 p.2) HaveOneId
meta_table = record { told = elim [ row.Meta version loaded clock ↦ inl ((version, loaded, clock), refl, refl, refl) | _ ↦ inr (refl, refl) ]; keys = λ p q. (λ _. refl, λ _. refl) }

pub workstation_table : IsTable 1 workstation_of (λ (p : Name × Attr). row.Workstation p.0 p.1) (λ p. workstation_columns p.0 p.1) (BeginAlike 1 workstation_row)
workstation_table = record { told = elim [ row.Workstation name a ↦ inl ((name, a), refl, refl, refl) | _ ↦ inr (refl, refl) ]; keys = λ p q. workstation_keys p.0 q.0 }

pub interval_table : IsTable 2 interval_of (λ (p : Name × OpenInterval). row.Interval p.0 p.1) (λ p. interval_columns p.0 p.1) (BeginAlike 2 interval_row)
interval_table = record { told = elim [ row.Interval w i ↦ inl ((w, i), refl, refl, refl) | _ ↦ inr (refl, refl) ]; keys = λ p q. interval_keys p.0 q.0 p.1.from q.1.from }

pub resource_table : IsTable 3 resource_of (λ (p : Name × Bool). row.Resource p.0 p.1) (λ p. resource_columns p.0 p.1) (BeginAlike 1 resource_row)
resource_table = record { told = elim [ row.Resource name available ↦ inl ((name, available), refl, refl, refl) | _ ↦ inr (refl, refl) ]; keys = λ p q. resource_keys p.0 q.0 }

pub occurrence_table : IsTable 4 occurrence_of (λ (p : OccKey × ℕ × ℕ × OccStatus). row.Occurrence p.0 p.1 p.2 p.3) (λ p. occurrence_columns p.0 p.1 p.2 p.3) (BeginAlike 2 occurrence_row)
occurrence_table = record { told = elim [ row.Occurrence c priority deadline status ↦ inl ((c, priority, deadline, status), refl, refl, refl) | _ ↦ inr (refl, refl) ]; keys = λ p q. occurrence_keys p.0 q.0 }

pub operation_table : IsTable 5 operation_of row.Operation operation_columns (BeginAlike 3 operation_row)
operation_table = record { told = elim [ row.Operation o ↦ inl (o, refl, refl, refl) | _ ↦ inr (refl, refl) ]; keys = λ p q. operation_keys p.op q.op }

pub dependency_table : IsTable 6 dependency_of (λ (p : OpKey × OpKey). row.Dependency p.0 p.1) (λ p. dependency_columns p.0 p.1) (BeginAlike 6 dependency_row)
dependency_table = record { told = elim [ row.Dependency p s ↦ inl ((p, s), refl, refl, refl) | _ ↦ inr (refl, refl) ]; keys = λ p q. dependency_keys p.0 p.1 q.0 q.1 }

pub need_table : IsTable 7 need_of (λ (p : OpKey × Name × Mode × Bool). row.Need p.0 p.1 p.2 p.3) (λ p. need_columns p.0 p.1 p.2 p.3) (BeginAlike 4 need_row)
need_table = record { told = elim [ row.Need o r mode keep ↦ inl ((o, r, mode, keep), refl, refl, refl) | _ ↦ inr (refl, refl) ]; keys = λ p q. need_keys p.0 q.0 p.1 q.1 }

pub quantity_table : IsTable 8 quantity_of (λ (p : Name × ℕ). row.Quantity p.0 p.1) (λ p. quantity_columns p.0 p.1) (BeginAlike 1 quantity_row)
quantity_table = record { told = elim [ row.Quantity r quantity ↦ inl ((r, quantity), refl, refl, refl) | _ ↦ inr (refl, refl) ]; keys = λ p q. quantity_keys p.0 q.0 }

pub amount_table : IsTable 9 amount_of (λ (p : OpKey × Name × ℕ). row.Amount p.0 p.1 p.2) (λ p. amount_columns p.0 p.1 p.2) (BeginAlike 4 amount_row)
amount_table = record { told = elim [ row.Amount o r amount ↦ inl ((o, r, amount), refl, refl, refl) | _ ↦ inr (refl, refl) ]; keys = λ p q. amount_keys p.0 q.0 p.1 q.1 }

-- ---- rows with columns in a table, as the tables' definition names them

pub meta_rows : (IsIn : PlanRow → Type 0) (x : StoredMeta) → ((version : ℕ) × (loaded : Bool) × (clock : ℕ) × IsIn (row.Meta version loaded clock) × (x ≡ meta_columns version loaded clock)) ↔ ((r : PlanRow) × IsIn r × (meta_of r ≡ Some x))
meta_rows IsIn x = (λ it. (row.Meta it.0 it.1 it.2, it.3, ap Some (sym it.4)), λ it. let is = row_with meta_table it.0 x it.2 in (is.0.0, is.0.1, is.0.2, subst IsIn is.1 it.1, is.2))

pub workstation_rows : (IsIn : PlanRow → Type 0) (x : StoredWorkstation) → ((name : Name) × (a : Attr) × IsIn (row.Workstation name a) × (x ≡ workstation_columns name a)) ↔ ((r : PlanRow) × IsIn r × (workstation_of r ≡ Some x))
workstation_rows IsIn x = (λ it. (row.Workstation it.0 it.1, it.2, ap Some (sym it.3)), λ it. let is = row_with workstation_table it.0 x it.2 in (is.0.0, is.0.1, subst IsIn is.1 it.1, is.2))

pub interval_rows : (IsIn : PlanRow → Type 0) (x : StoredInterval) → ((w : Name) × (i : OpenInterval) × IsIn (row.Interval w i) × (x ≡ interval_columns w i)) ↔ ((r : PlanRow) × IsIn r × (interval_of r ≡ Some x))
interval_rows IsIn x = (λ it. (row.Interval it.0 it.1, it.2, ap Some (sym it.3)), λ it. let is = row_with interval_table it.0 x it.2 in (is.0.0, is.0.1, subst IsIn is.1 it.1, is.2))

pub resource_rows : (IsIn : PlanRow → Type 0) (x : StoredResource) → ((name : Name) × (available : Bool) × IsIn (row.Resource name available) × (x ≡ resource_columns name available)) ↔ ((r : PlanRow) × IsIn r × (resource_of r ≡ Some x))
resource_rows IsIn x = (λ it. (row.Resource it.0 it.1, it.2, ap Some (sym it.3)), λ it. let is = row_with resource_table it.0 x it.2 in (is.0.0, is.0.1, subst IsIn is.1 it.1, is.2))

pub occurrence_rows : (IsIn : PlanRow → Type 0) (x : StoredOccurrence) → ((c : OccKey) × (priority : ℕ) × (deadline : ℕ) × (status : OccStatus) × IsIn (row.Occurrence c priority deadline status) × (x ≡ occurrence_columns c priority deadline status)) ↔ ((r : PlanRow) × IsIn r × (occurrence_of r ≡ Some x))
occurrence_rows IsIn x = (λ it. (row.Occurrence it.0 it.1 it.2 it.3, it.4, ap Some (sym it.5)), λ it. let is = row_with occurrence_table it.0 x it.2 in (is.0.0, is.0.1, is.0.2, is.0.3, subst IsIn is.1 it.1, is.2))

pub operation_rows : (IsIn : PlanRow → Type 0) (x : StoredOperation) → ((r : OperationRow) × IsIn (row.Operation r) × (x ≡ operation_columns r)) ↔ ((r : PlanRow) × IsIn r × (operation_of r ≡ Some x))
operation_rows IsIn x = (λ it. (row.Operation it.0, it.1, ap Some (sym it.2)), λ it. let is = row_with operation_table it.0 x it.2 in (is.0, subst IsIn is.1 it.1, is.2))

pub dependency_rows : (IsIn : PlanRow → Type 0) (x : StoredDependency) → ((p : OpKey) × (s : OpKey) × IsIn (row.Dependency p s) × (x ≡ dependency_columns p s)) ↔ ((r : PlanRow) × IsIn r × (dependency_of r ≡ Some x))
dependency_rows IsIn x = (λ it. (row.Dependency it.0 it.1, it.2, ap Some (sym it.3)), λ it. let is = row_with dependency_table it.0 x it.2 in (is.0.0, is.0.1, subst IsIn is.1 it.1, is.2))

pub need_rows : (IsIn : PlanRow → Type 0) (x : StoredNeed) → ((o : OpKey) × (r : Name) × (mode : Mode) × (keep : Bool) × IsIn (row.Need o r mode keep) × (x ≡ need_columns o r mode keep)) ↔ ((r : PlanRow) × IsIn r × (need_of r ≡ Some x))
need_rows IsIn x = (λ it. (row.Need it.0 it.1 it.2 it.3, it.4, ap Some (sym it.5)), λ it. let is = row_with need_table it.0 x it.2 in (is.0.0, is.0.1, is.0.2, is.0.3, subst IsIn is.1 it.1, is.2))

pub quantity_rows : (IsIn : PlanRow → Type 0) (x : StoredQuantity) → ((r : Name) × (quantity : ℕ) × IsIn (row.Quantity r quantity) × (x ≡ quantity_columns r quantity)) ↔ ((r : PlanRow) × IsIn r × (quantity_of r ≡ Some x))
quantity_rows IsIn x = (λ it. (row.Quantity it.0 it.1, it.2, ap Some (sym it.3)), λ it. let is = row_with quantity_table it.0 x it.2 in (is.0.0, is.0.1, subst IsIn is.1 it.1, is.2))

pub amount_rows : (IsIn : PlanRow → Type 0) (x : StoredAmount) → ((o : OpKey) × (r : Name) × (amount : ℕ) × IsIn (row.Amount o r amount) × (x ≡ amount_columns o r amount)) ↔ ((r : PlanRow) × IsIn r × (amount_of r ≡ Some x))
amount_rows IsIn x = (λ it. (row.Amount it.0 it.1 it.2, it.3, ap Some (sym it.4)), λ it. let is = row_with amount_table it.0 x it.2 in (is.0.0, is.0.1, is.0.2, subst IsIn is.1 it.1, is.2))
