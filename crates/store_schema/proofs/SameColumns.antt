-- Rows of the same columns are one row.
use Rattle.std.proofs.Common.{◌≡◌, ◌↔◌, refl, sym, ◌∙◌, ap, ap₂, subst, ℕ, ◌+◌, ◌*◌, ◌==◌, Contains, Bool, true, false, pos, List, [], ◌∷◌, find, get_or, Option, Some}
use Rattle.std.proofs.lemmas.Option.{same_Some}
use Rattle.plan_basics.specs.Intervals.{OpenInterval}
use Rattle.plan_basics.specs.Keys.{Name}
use Rattle.plan_basics.specs.declared.Attr.{Attr}
use Rattle.plan_basics.specs.declared.keys.OccKey.{OccKey}
use Rattle.plan_basics.specs.declared.keys.OpKey.{OpKey}
use Rattle.tracker_receipts.specs.plan_items.specs.Parts.{mode_letter, keep_letter}
use Rattle.tracker_receipts.specs.plan_items.proofs.PartLaws.{one_attribute}
use Rattle.tracker_receipts.specs.special_resources.specs.declared.Mode.{Mode}
use Rattle.tracker_receipts.specs.special_resources.specs.declared.Mode.TheVariants as mode
use Rattle.status_rules.specs.Texts.{code_text, mark_text, marks_without_code, occurrence_letter, status_letter}
use Rattle.status_rules.specs.declared.Mark.{Mark}
use Rattle.status_rules.specs.declared.Mark.TheVariants as mark
use Rattle.status_rules.specs.declared.OccStatus.{OccStatus}
use Rattle.status_rules.specs.declared.OccStatus.TheVariants as occurrence
use Rattle.status_rules.specs.declared.Status.{Status}
use Rattle.status_rules.specs.declared.Status.TheVariants as status
use Rattle.tracker_receipts.specs.plan_model.specs.Plan.{Plan}
use Rattle.tracker_receipts.specs.plan_records.specs.Rows.{AreRows, IsRow}
use Rattle.tracker_receipts.specs.plan_records.specs.declared.OperationRow.{OperationRow}
use Rattle.tracker_receipts.specs.plan_records.specs.declared.PlanRow.{PlanRow}
use Rattle.tracker_receipts.specs.plan_records.specs.declared.PlanRow.TheVariants as row
use Rattle.store_schema.specs.StoredPlans.{Held, StoredInterval, StoredOperation, StoredNeed, StoredQuantity, StoredAmount}
use Rattle.store_schema.specs.Columns.{flag, meta_columns, workstation_columns, interval_columns, resource_columns, occurrence_columns, operation_columns, dependency_columns, need_columns, quantity_columns, amount_columns}
use Rattle.store_schema.specs.WrittenTables.{HoldRows}
use Rattle.store_schema.proofs.RowPut.{rows_alike}

-- ---- letters, numbers and flags

-- values that are found by their numbers
told_by : {A : Type 0} (all : List A) (number : A → ℕ) → ((a : A) → find (λ x. number x == number a) all ≡ Some a) → (a b : A) → number a ≡ number b → a ≡ b
told_by all number back a b e = same_Some a b (sym (back a) ∙ ap (λ n. find (λ x. number x == n) all) e ∙ back b)

-- a text of one letter
letter_is : (a b : ℕ) → ◌≡◌ {A = List ℕ} (a ∷ []) (b ∷ []) → a ≡ b
letter_is a b e = ap (λ t. get_or t 0 0) e

number_is : (a b : ℕ) → pos a ≡ pos b → a ≡ b
number_is a b e = cc

flag_is : (a b : Bool) → flag a ≡ flag b → a ≡ b
flag_is true true e = refl
flag_is false false e = refl
flag_is true false e = absurd (let k : 1 ≡ 0 = number_is 1 0 e in cc)
flag_is false true e = absurd (let k : 0 ≡ 1 = number_is 0 1 e in cc)

same_status : (a b : Status) → status_letter a ≡ status_letter b → a ≡ b
same_status = told_by (status.Started ∷ status.Interrupted ∷ status.Error ∷ status.Undecided ∷ status.Deleted ∷ status.Complete ∷ status.Arriving ∷ status.ReadyAfterNonreporting ∷ status.Ready ∷ status.Waiting ∷ []) status_letter back
  where
    back : (s : Status) → find (λ x. status_letter x == status_letter s) (status.Started ∷ status.Interrupted ∷ status.Error ∷ status.Undecided ∷ status.Deleted ∷ status.Complete ∷ status.Arriving ∷ status.ReadyAfterNonreporting ∷ status.Ready ∷ status.Waiting ∷ []) ≡ Some s
    back status.Started = refl
    back _ = refl

same_occurrence_status : (a b : OccStatus) → occurrence_letter a ≡ occurrence_letter b → a ≡ b
same_occurrence_status = told_by (occurrence.Deleted ∷ occurrence.Error ∷ occurrence.Undecided ∷ occurrence.Complete ∷ occurrence.Started ∷ occurrence.Waiting ∷ []) occurrence_letter back
  where
    back : (s : OccStatus) → find (λ x. occurrence_letter x == occurrence_letter s) (occurrence.Deleted ∷ occurrence.Error ∷ occurrence.Undecided ∷ occurrence.Complete ∷ occurrence.Started ∷ occurrence.Waiting ∷ []) ≡ Some s
    back occurrence.Deleted = refl
    back _ = refl

same_mode : (a b : Mode) → mode_letter a ≡ mode_letter b → a ≡ b
same_mode a b e = told_by (mode.Shared ∷ mode.Exclusive ∷ []) (λ m. get_or (mode_letter m) 0 0) back a b (ap (λ t. get_or t 0 0) e)
  where
    back : (m : Mode) → find (λ x. get_or (mode_letter x) 0 0 == get_or (mode_letter m) 0 0) (mode.Shared ∷ mode.Exclusive ∷ []) ≡ Some m
    back mode.Shared = refl
    back mode.Exclusive = refl

same_keep : (a b : Bool) → keep_letter a ≡ keep_letter b → a ≡ b
same_keep a b e = told_by (true ∷ false ∷ []) (λ k. get_or (keep_letter k) 0 0) back a b (ap (λ t. get_or t 0 0) e)
  where
    back : (k : Bool) → find (λ x. get_or (keep_letter x) 0 0 == get_or (keep_letter k) 0 0) (true ∷ false ∷ []) ≡ Some k
    back true = refl
    back false = refl

-- a mark's name by its first two letters
abbrev name_number : List ℕ → ℕ
name_number t = get_or t 0 0 * 256 + get_or t 1 0

-- the mark of this name and this code
abbrev mark_by : ℕ → List ℕ → Option Mark
mark_by n code = find (λ m. name_number (mark_text m) == n) (mark.Error code ∷ marks_without_code)

mark_back : (m : Mark) → mark_by (name_number (mark_text m)) (code_text m) ≡ Some m
mark_back mark.Unmarked = refl
mark_back _ = refl

same_mark : (a b : Mark) → mark_text a ≡ mark_text b → code_text a ≡ code_text b → a ≡ b
same_mark a b name code = same_Some a b (sym (mark_back a) ∙ ap₂ mark_by (ap name_number name) code ∙ mark_back b)

-- ---- columns

-- keys of occurrences and operations by their parts
same_occurrence_key : (c d : OccKey) → c.app ≡ d.app → pos c.arrival ≡ pos d.arrival → c ≡ d
same_occurrence_key c d app arrival = let minute = number_is c.arrival d.arrival arrival in λ i. record { app = app i; arrival = minute i }

same_operation_key : (o p : OpKey) → o.occurrence.app ≡ p.occurrence.app → pos o.occurrence.arrival ≡ pos p.occurrence.arrival → pos o.number ≡ pos p.number → o ≡ p
same_operation_key o p app arrival number =
    let first = same_occurrence_key o.occurrence p.occurrence app arrival in
    let second = number_is o.number p.number number in
    λ i. record { occurrence = first i; number = second i }

pub meta_columns_injective : (v w : ℕ) (l m : Bool) (c d : ℕ) → meta_columns v l c ≡ meta_columns w m d → row.Meta v l c ≡ row.Meta w m d
meta_columns_injective v w l m c d e =
    let version = number_is v w (ap (λ x. x.version) e) in
    let loaded = flag_is l m (ap (λ x. x.loaded) e) in
    let clock = number_is c d (ap (λ x. x.clock) e) in
    λ i. row.Meta (version i) (loaded i) (clock i)

pub workstation_columns_injective : (v w : Name) (a b : Attr) → workstation_columns v a ≡ workstation_columns w b → row.Workstation v a ≡ row.Workstation w b
workstation_columns_injective v w a b e = ap₂ row.Workstation (ap (λ x. x.name) e) (one_attribute a b (letter_is _ _ (ap (λ x. x.attr) e)))

pub interval_columns_injective : (v w : Name) (i j : OpenInterval) → interval_columns v i ≡ interval_columns w j → row.Interval v i ≡ row.Interval w j
interval_columns_injective v w a b e =
    let name = ap (λ (x : StoredInterval). x.ws) e in
    let from = number_is a.from b.from (ap (λ x. x.start) e) in
    let end = number_is a.end b.end (ap (λ x. x.stop) e) in
    let servers = number_is a.servers b.servers (ap (λ x. x.servers) e) in
    let r1 = number_is a.r1 b.r1 (ap (λ x. x.r1) e) in
    let r2 = number_is a.r2 b.r2 (ap (λ x. x.r2) e) in
    λ i. row.Interval (name i) (record { from = from i; end = end i; servers = servers i; r1 = r1 i; r2 = r2 i })

pub resource_columns_injective : (v w : Name) (a b : Bool) → resource_columns v a ≡ resource_columns w b → row.Resource v a ≡ row.Resource w b
resource_columns_injective v w a b e = ap₂ row.Resource (ap (λ x. x.name) e) (flag_is a b (ap (λ x. x.available) e))

pub occurrence_columns_injective : (c d : OccKey) (p q m n : ℕ) (s t : OccStatus) → occurrence_columns c p m s ≡ occurrence_columns d q n t → row.Occurrence c p m s ≡ row.Occurrence d q n t
occurrence_columns_injective c d p q m n s t e =
    let first = same_occurrence_key c d (ap (λ x. x.app) e) (ap (λ x. x.ia) e) in
    let priority = number_is p q (ap (λ x. x.priority) e) in
    let deadline = number_is m n (ap (λ x. x.deadline) e) in
    let status = same_occurrence_status s t (letter_is _ _ (ap (λ x. x.status) e)) in
    λ i. row.Occurrence (first i) (priority i) (deadline i) (status i)

pub operation_columns_injective : (r s : OperationRow) → operation_columns r ≡ operation_columns s → row.Operation r ≡ row.Operation s
operation_columns_injective r s e =
    let op = same_operation_key r.op s.op (ap (λ x. x.app) e) (ap (λ x. x.ia) e) (ap (λ x. x.num) e) in
    let ws = ap (λ (x : StoredOperation). x.ws) e in
    let duration = number_is r.duration s.duration (ap (λ x. x.duration) e) in
    let r1 = number_is r.r1 s.r1 (ap (λ x. x.r1) e) in
    let r2 = number_is r.r2 s.r2 (ap (λ x. x.r2) e) in
    let not_before = number_is r.not_before s.not_before (ap (λ x. x.not_before) e) in
    let deadline = number_is r.deadline s.deadline (ap (λ x. x.deadline) e) in
    let mark = same_mark r.mark s.mark (ap (λ x. x.mark) e) (ap (λ x. x.code) e) in
    let held = flag_is r.held s.held (ap (λ x. x.held) e) in
    let nop = flag_is r.nop s.nop (ap (λ x. x.nop) e) in
    let status = same_status r.status s.status (letter_is _ _ (ap (λ x. x.status) e)) in
    let latest = ap (λ (x : StoredOperation). x.latest) e in
    let waiting = number_is r.waiting s.waiting (ap (λ x. x.waiting) e) in
    λ i. row.Operation (record { op = op i; ws = ws i; duration = duration i; r1 = r1 i; r2 = r2 i; not_before = not_before i; deadline = deadline i; mark = mark i; held = held i; nop = nop i; status = status i; latest = latest i; waiting = waiting i })

pub dependency_columns_injective : (p q s t : OpKey) → dependency_columns p s ≡ dependency_columns q t → row.Dependency p s ≡ row.Dependency q t
dependency_columns_injective p q s t e =
    ap₂ row.Dependency (same_operation_key p q (ap (λ x. x.papp) e) (ap (λ x. x.pia) e) (ap (λ x. x.pnum) e)) (same_operation_key s t (ap (λ x. x.sapp) e) (ap (λ x. x.sia) e) (ap (λ x. x.snum) e))

pub need_columns_injective : (o p : OpKey) (v w : Name) (m n : Mode) (k l : Bool) → need_columns o v m k ≡ need_columns p w n l → row.Need o v m k ≡ row.Need p w n l
need_columns_injective o p v w m n k l e =
    let op = same_operation_key o p (ap (λ x. x.app) e) (ap (λ x. x.ia) e) (ap (λ x. x.num) e) in
    let name = ap (λ (x : StoredNeed). x.resource) e in
    let mode = same_mode m n (ap (λ x. x.mode) e) in
    let keep = same_keep k l (ap (λ x. x.keep) e) in
    λ i. row.Need (op i) (name i) (mode i) (keep i)

pub quantity_columns_injective : (v w : Name) (m n : ℕ) → quantity_columns v m ≡ quantity_columns w n → row.Quantity v m ≡ row.Quantity w n
quantity_columns_injective v w m n e = ap₂ row.Quantity (ap (λ (x : StoredQuantity). x.resource) e) (number_is m n (ap (λ x. x.quantity) e))

pub amount_columns_injective : (o p : OpKey) (v w : Name) (m n : ℕ) → amount_columns o v m ≡ amount_columns p w n → row.Amount o v m ≡ row.Amount p w n
amount_columns_injective o p v w m n e =
    let op = same_operation_key o p (ap (λ x. x.app) e) (ap (λ x. x.ia) e) (ap (λ x. x.num) e) in
    let name = ap (λ (x : StoredAmount). x.resource) e in
    let amount = number_is m n (ap (λ x. x.amount) e) in
    λ i. row.Amount (op i) (name i) (amount i)

-- ---- the rows that the tables hold

-- what one set of rows has in a table, another that it holds has
module _ {A B : PlanRow → Type 0} {held : Held} (h : HoldRows A held) (k : HoldRows B held) where
  pub one_within : (r : PlanRow) → A r → B r
  one_within (row.Meta v l c) is = let it = (k.metas _).0 ((h.metas _).1 (v, l, c, is, refl)) in subst B (sym (meta_columns_injective v it.0 l it.1 c it.2 it.4)) it.3
  one_within (row.Workstation v a) is = let it = (k.workstations _).0 ((h.workstations _).1 (v, a, is, refl)) in subst B (sym (workstation_columns_injective v it.0 a it.1 it.3)) it.2
  one_within (row.Interval w i) is = let it = (k.intervals _).0 ((h.intervals _).1 (w, i, is, refl)) in subst B (sym (interval_columns_injective w it.0 i it.1 it.3)) it.2
  one_within (row.Resource v a) is = let it = (k.resources _).0 ((h.resources _).1 (v, a, is, refl)) in subst B (sym (resource_columns_injective v it.0 a it.1 it.3)) it.2
  one_within (row.Occurrence c p d s) is = let it = (k.occurrences _).0 ((h.occurrences _).1 (c, p, d, s, is, refl)) in subst B (sym (occurrence_columns_injective c it.0 p it.1 d it.2 s it.3 it.5)) it.4
  one_within (row.Operation r) is = let it = (k.operations _).0 ((h.operations _).1 (r, is, refl)) in subst B (sym (operation_columns_injective r it.0 it.2)) it.1
  one_within (row.Dependency p s) is = let it = (k.dependencies _).0 ((h.dependencies _).1 (p, s, is, refl)) in subst B (sym (dependency_columns_injective p it.0 s it.1 it.3)) it.2
  one_within (row.Need o n m l) is = let it = (k.needs _).0 ((h.needs _).1 (o, n, m, l, is, refl)) in subst B (sym (need_columns_injective o it.0 n it.1 m it.2 l it.3 it.5)) it.4
  one_within (row.Quantity n m) is = let it = (k.quantities _).0 ((h.quantities _).1 (n, m, is, refl)) in subst B (sym (quantity_columns_injective n it.0 m it.1 it.3)) it.2
  one_within (row.Amount o n m) is = let it = (k.amounts _).0 ((h.amounts _).1 (o, n, m, is, refl)) in subst B (sym (amount_columns_injective o it.0 n it.1 m it.2 it.4)) it.3

-- tables hold one set of rows
pub one_set : {A B : PlanRow → Type 0} {held : Held} → HoldRows A held → HoldRows B held → (r : PlanRow) → A r ↔ B r
one_set h k r = (one_within h k r, one_within k h r)

-- where the rows of a list are those of P, the tables hold the one exactly where they hold the other
pub listed_held : (P : Plan) (rows : List PlanRow) (held : Held) → AreRows P rows → HoldRows (Contains rows) held ↔ HoldRows (IsRow P) held
listed_held P rows held are = (rows_alike are.has_all, rows_alike (λ r. ((are.has_all r).1, (are.has_all r).0)))
