-- What is read off the plan for one operation or one occurrence, and for all of them.
use Rattle.std.specs.Prelude.{◌≡◌, ◌↔◌, ℕ, Bool, true, false, filter, List, [], map, drop, All, Contains, Option, Some, None}
use Rattle.std.specs.List.{zip, filter_map}
use Rattle.std.specs.FinMap.{get, contains_key, entries, from_entries}
use Rattle.std.specs.List.Sorted.{IsStrictlySortedBy}
use Rattle.std.specs.Ordering.{eq_by_cmp}
use Rattle.plan_basics.specs.Keys.{Name, name_cmp, occurrence_cmp, operation_cmp}
use Rattle.plan_basics.specs.declared.keys.OccKey.{OccKey}
use Rattle.plan_basics.specs.declared.keys.OpKey.{OpKey}
use Rattle.ready_list.specs.Choice.{operations_of}
use Rattle.ready_list.specs.declared.ReadyKey.{ReadyKey}
use Rattle.ready_list.specs.declared.entry.ReadyEntry.{ReadyEntry}
use Rattle.plan_model.specs.Contents.{Contents, Operation, IsInPlan}
use Rattle.plan_model.specs.Ready.{IsReadyList}
use Rattle.plan_model.specs.Starts.{IsLatestStart}
use Rattle.plan_model.specs.Status.{HasStatus, HasOccurrenceStatus}
use Rattle.plan_model.specs.declared.Occurrence.{Occurrence}
use Rattle.plan_records.specs.Rows.{IsCount, IsWaitingFor}
use Rattle.status_rules.specs.Table.{occurrence_by}
use Rattle.status_rules.specs.declared.Counts.{Counts}
use Rattle.status_rules.specs.declared.Status.TheVariants.{Complete}
use Rattle.plan_opening.specs.plan_rows.specs.Sources.{IsSource, Known, known_of}
use Rattle.plan_opening.specs.plan_rows.specs.declared.row_sources.RowSource.{RowSource}
use Rattle.plan_core.specs.declared.views.OccView.{OccView}
use Rattle.plan_core.specs.declared.views.OpView.{OpView}

-- the operation's own columns, its occurrence's priority, and what is read off the plan for it
pub record IsOpView (P : Contents) (v : OpView) : Type 0 where
  pub op : Operation
  pub is_in_plan : get P.operations v.key ≡ Some op
  pub work : (v.workstation ≡ op.workstation) × (v.duration ≡ op.duration) × (v.r1 ≡ op.r1) × (v.r2 ≡ op.r2)
  pub moments : (v.not_before ≡ op.not_before) × (v.deadline ≡ op.deadline)
  pub marked : (v.mark ≡ op.mark) × (v.held ≡ op.held) × (v.nop ≡ op.nop)
  pub priority : (c : Occurrence) × (get P.occurrences v.key.occurrence ≡ Some c) × (v.priority ≡ c.priority)
  pub status : HasStatus P v.key v.status
  pub latest : IsLatestStart P v.key v.latest
  pub waiting : IsWaitingFor P v.key v.waiting

-- the occurrence's own columns, its status, and the numbers of its operations and of those complete
pub record IsOccView (P : Contents) (v : OccView) : Type 0 where
  pub is_in_plan : get P.occurrences v.key ≡ Some (record { priority = v.priority; deadline = v.deadline })
  pub status : HasOccurrenceStatus P v.key v.status
  pub operations : IsCount (λ o. (o.occurrence ≡ v.key) × IsInPlan P o) v.operations
  pub complete : IsCount (λ o. (o.occurrence ≡ v.key) × HasStatus P o Complete) v.complete

-- all operations of the plan, in key order
pub record AreOpViews (P : Contents) (views : List OpView) : Type 0 where
  pub in_order : IsStrictlySortedBy operation_cmp (map (λ v. v.key) views)
  pub every : (o : OpKey) → Contains (map (λ v. v.key) views) o ↔ IsInPlan P o
  pub each : (v : OpView) → Contains views v → IsOpView P v

-- whether an operation is on this workstation; not where there is none
abbrev pub is_at_workstation : Name → Option Operation → Bool
is_at_workstation w None = false
is_at_workstation w (Some op) = eq_by_cmp name_cmp op.workstation w

-- whether o is an operation on this workstation
abbrev pub is_on : Contents → Name → OpKey → Bool
is_on P w o = is_at_workstation w (get P.operations o)

-- what is ready on this workstation, in the order of the ready list
pub record AreReadyViews (P : Contents) (w : Name) (views : List OpView) : Type 0 where
  pub keys : List ReadyKey
  pub is_ready_list : IsReadyList P keys
  pub in_order : map (λ v. v.key) views ≡ filter (is_on P w) (operations_of keys)
  pub each : (v : OpView) → Contains views v → IsOpView P v

-- all occurrences of the plan, in key order
pub record AreOccViews (P : Contents) (views : List OccView) : Type 0 where
  pub in_order : IsStrictlySortedBy occurrence_cmp (map (λ v. v.key) views)
  pub every : (c : OccKey) → Contains (map (λ v. v.key) views) c ↔ (contains_key P.occurrences c ≡ true)
  pub each : (v : OccView) → Contains views v → IsOccView P v

-- the priority of an occurrence, 0 where there is none
abbrev pub priority_of : Option Occurrence → ℕ
priority_of None = 0
priority_of (Some c) = c.priority

-- the view of an operation of a plan, by its row and what is known of it
abbrev pub op_view_of : Contents → (OpKey × Operation) × Known → OpView
op_view_of P x = record {
  key = x.0.0;
  workstation = x.0.1.workstation;
  duration = x.0.1.duration;
  r1 = x.0.1.r1;
  r2 = x.0.1.r2;
  not_before = x.0.1.not_before;
  deadline = x.0.1.deadline;
  mark = x.0.1.mark;
  held = x.0.1.held;
  nop = x.0.1.nop;
  priority = priority_of (get P.occurrences x.0.0.occurrence);
  status = x.1.1.0;
  latest = x.1.1.1;
  waiting = x.1.0.waiting;
}

-- the view of an occurrence, by its row and the numbers of its operations
abbrev pub occ_view_of : (OccKey × Occurrence) × Counts → OccView
occ_view_of x = record {
  key = x.0.0;
  priority = x.0.1.priority;
  deadline = x.0.1.deadline;
  status = occurrence_by x.1;
  operations = x.1.all;
  complete = x.1.complete;
}

-- the views of all operations of a source, in the order of their rows
abbrev pub op_views : RowSource → List OpView
op_views s = map (op_view_of s.contents.now) (zip (entries s.contents.now.operations) (known_of s))

-- so of all occurrences
abbrev pub occ_views : RowSource → List OccView
occ_views s = map occ_view_of (zip (entries s.contents.now.occurrences) s.tallies.now)

-- the views of a source, of operations or of occurrences, from an index on; none where there is none
abbrev pub views_from : {V : Type 0} → (RowSource → List V) → Option RowSource → ℕ → List V
views_from views None place = []
views_from views (Some s) place = drop place (views s)

-- the view of an operation, if the source has it
abbrev pub view_at : RowSource → OpKey → Option OpView
view_at s o = get {R = operation_cmp} (from_entries (map (λ v. (v.key, v)) (op_views s))) o

-- the views of these entries' operations, in their order
abbrev pub ready_views : RowSource → List ReadyEntry → List OpView
ready_views s es = filter_map (λ e. view_at s e.key.op) es

-- it is a source, and has the operations of these entries
abbrev pub AreEntriesOf : RowSource → List ReadyEntry → Type 0
AreEntriesOf s es = IsSource s × All (λ e. IsInPlan s.contents.now e.key.op) es
