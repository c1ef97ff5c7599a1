-- Rows that are compared are equal exactly where they are the same.
use Rattle.std.proofs.Common.{◌≡◌, refl, subst, ap, Bool, true, ◌&&◌}
use Rattle.std.specs.Prelude.{ℕ, ℤ, Decides, eqb}
use Rattle.std.specs.Bool.{beq}
use Rattle.std.specs.Str.{bytes_eq}
use Rattle.std.specs.Ordering.{int_eq}
use Rattle.std.specs.Cmp.{first_so, second_so, booleans_Decides, signed_Decides, unsigned_Decides}
use Rattle.std.proofs.lemmas.Slice.Eq.{bytes_eq-Decides}
use denote.Enum.Bare.{same_true}
use Rattle.plan_basics.specs.Keys.{Name}
use Rattle.plan_basics.specs.Intervals.{OpenInterval}
use Rattle.plan_basics.specs.declared.keys.OccKey.{OccKey}
use Rattle.plan_basics.specs.declared.keys.OpKey.{OpKey}
use Rattle.plan_drafts.specs.status_rules.specs.declared.Mark.{Mark}
use Rattle.plan_drafts.specs.status_rules.specs.declared.Mark.TheVariants as mark
use Rattle.plan_records.specs.declared.OperationRow.{OperationRow}
use Rattle.plan_records.specs.declared.PlanRow.{PlanRow}
use Rattle.plan_records.specs.declared.PlanRow.TheVariants as row
use Rattle.plan_basics.specs.contracts.Attr as attribute
use Rattle.plan_drafts.specs.special_resources.specs.contracts.Mode as mode
use Rattle.plan_drafts.specs.status_rules.specs.contracts.Status as status
use Rattle.plan_drafts.specs.status_rules.specs.contracts.OccStatus as occurrence_status
use Rattle.plan_basics.specs.contracts.keys.OccKeyPartialEq.TheImpl as occurrence
use Rattle.plan_basics.specs.contracts.keys.OpKeyPartialEq.TheImpl as operation
use Rattle.plan_basics.specs.contracts.moments.IntervalPartialEq.TheImpl as interval
use Rattle.plan_drafts.specs.status_rules.specs.contracts.MarkPartialEq.TheImpl as marks
use Rattle.plan_records.specs.contracts.OperationRowPartialEq.TheImpl as columns
use Rattle.plan_records.specs.contracts.PlanRowPartialEq.TheImpl as rows
use Rattle.plan_records.specs.contracts.PlanRowEq.TheImpl.Laws as laws

-- what each of two tests tells
parts : {s t : Bool} {P Q : Type 0} → (s ≡ true → P) → (t ≡ true → Q) → (s && t) ≡ true → P × Q
parts {s} {t} f g e = (f (first_so s t e), g (second_so s t e))

name : (a b : Name) → bytes_eq a b ≡ true → a ≡ b
name a b = (bytes_eq-Decides a b).0

number : (a b : ℕ) → eqb a b ≡ true → a ≡ b
number a b = (unsigned_Decides a b).0

signed : (a b : ℤ) → int_eq a b ≡ true → a ≡ b
signed a b = (signed_Decides a b).0

flag : (a b : Bool) → beq a b ≡ true → a ≡ b
flag a b = (booleans_Decides a b).0

same_occurrence : (a b : OccKey) → occurrence.ghosts.eq a b ≡ true → a ≡ b
same_occurrence a b e = let both = parts (name a.app b.app) (number a.arrival b.arrival) e in λ i. record { app = both.0 i; arrival = both.1 i }

same_operation : (a b : OpKey) → operation.ghosts.eq a b ≡ true → a ≡ b
same_operation a b e = let both = parts (same_occurrence a.occurrence b.occurrence) (number a.number b.number) e in λ i. record { occurrence = both.0 i; number = both.1 i }

same_interval : (a b : OpenInterval) → interval.ghosts.eq a b ≡ true → a ≡ b
same_interval a b e =
    let (same_from, (same_end, (same_servers, (same_r1, same_r2)))) = parts (number a.from b.from) (parts (number a.end b.end) (parts (number a.servers b.servers) (parts (number a.r1 b.r1) (number a.r2 b.r2)))) e in
    λ i. record { from = same_from i; end = same_end i; servers = same_servers i; r1 = same_r1 i; r2 = same_r2 i }

same_mark : (a b : Mark) → marks.ghosts.eq a b ≡ true → a ≡ b
same_mark mark.Unmarked mark.Unmarked e = refl
same_mark mark.Named mark.Named e = refl
same_mark mark.Running mark.Running e = refl
same_mark mark.Interrupted mark.Interrupted e = refl
same_mark mark.Done mark.Done e = refl
same_mark (mark.Error a) (mark.Error b) e = ap mark.Error (name a b e)
same_mark mark.Undecided mark.Undecided e = refl
same_mark mark.Deleted mark.Deleted e = refl
same_mark a b e = absurd (cc)

same_columns : (a b : OperationRow) → columns.ghosts.eq a b ≡ true → a ≡ b
same_columns a b e =
    let (same_op, (same_ws, (same_duration, (same_r1, (same_r2, (same_not_before, (same_deadline, (same_mark, (same_held, (same_nop, (same_status, (same_latest, same_waiting)))))))))))) =
    parts (same_operation a.op b.op)
    (parts (name a.ws b.ws)
    (parts (number a.duration b.duration)
    (parts (number a.r1 b.r1)
    (parts (number a.r2 b.r2)
    (parts (number a.not_before b.not_before)
    (parts (number a.deadline b.deadline)
    (parts (same_mark a.mark b.mark)
    (parts (flag a.held b.held)
    (parts (flag a.nop b.nop)
    (parts (same_true status.the_type tt a.status b.status)
    (parts (signed a.latest b.latest) (number a.waiting b.waiting)))))))))))) e
    in
    λ i. record { op = same_op i; ws = same_ws i; duration = same_duration i; r1 = same_r1 i; r2 = same_r2 i; not_before = same_not_before i; deadline = same_deadline i; mark = same_mark i; held = same_held i; nop = same_nop i; status = same_status i; latest = same_latest i; waiting = same_waiting i }

same_row : (a b : PlanRow) → rows.ghosts.eq a b ≡ true → a ≡ b
same_row (row.Meta v l c) (row.Meta w m d) e = let (p, (q, r)) = parts (number v w) (parts (flag l m) (number c d)) e in λ i. row.Meta (p i) (q i) (r i)
same_row (row.Workstation v a) (row.Workstation w b) e = let both = parts (name v w) (same_true attribute.the_type tt a b) e in λ i. row.Workstation (both.0 i) (both.1 i)
same_row (row.Interval v a) (row.Interval w b) e = let both = parts (name v w) (same_interval a b) e in λ i. row.Interval (both.0 i) (both.1 i)
same_row (row.Resource v a) (row.Resource w b) e = let both = parts (name v w) (flag a b) e in λ i. row.Resource (both.0 i) (both.1 i)
same_row (row.Occurrence c p d s) (row.Occurrence o q m t) e =
    let (same_key, (same_priority, (same_deadline, same_status))) = parts (same_occurrence c o) (parts (number p q) (parts (number d m) (same_true occurrence_status.the_type tt s t))) e in
    λ i. row.Occurrence (same_key i) (same_priority i) (same_deadline i) (same_status i)
same_row (row.Operation a) (row.Operation b) e = ap row.Operation (same_columns a b e)
same_row (row.Dependency p s) (row.Dependency q t) e = let both = parts (same_operation p q) (same_operation s t) e in λ i. row.Dependency (both.0 i) (both.1 i)
same_row (row.Need o v m k) (row.Need p w n l) e =
    let (same_op, (same_name, (same_mode, same_keep))) = parts (same_operation o p) (parts (name v w) (parts (same_true mode.the_type tt m n) (flag k l))) e in
    λ i. row.Need (same_op i) (same_name i) (same_mode i) (same_keep i)
same_row (row.Quantity v m) (row.Quantity w n) e = let both = parts (name v w) (number m n) e in λ i. row.Quantity (both.0 i) (both.1 i)
same_row (row.Amount o v m) (row.Amount p w n) e =
    let (same_op, (same_name, same_amount)) = parts (same_operation o p) (parts (name v w) (number m n)) e in
    λ i. row.Amount (same_op i) (same_name i) (same_amount i)
same_row a b e = absurd (cc)

-- a row that is equal is the same
pub equal_rows : (a b : PlanRow) → Decides (rows.ghosts.eq a b) (a ≡ b)
equal_rows a b = (same_row a b, λ e. subst (λ z. rows.ghosts.eq a z ≡ true) e (laws.laws-law.refl a))
