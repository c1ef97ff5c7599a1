use Rattle.std.proofs.Common.{◌∙◌, ap}
use Rattle.std.specs.FinMap.{entries}
use Rattle.plan_rows.proofs.AllTables.{legal_workstations}
use Rattle.plan_rows.proofs.NoRows.{contents_of_plan}
use Rattle.plan_rows.proofs.WithinRows.{are_intervals, intervals_ascend}
use Rattle.plan_rows.proofs.intervals.push_noted_intervals.Goals as goal
use Rattle.plan_rows.specs.Rows.{all_intervals}
use Rattle.plan_rows.specs.Sources.{plan_if_any}

pub push_changes-requires-clause-before : goal.push_changes-requires-clause-before
push_changes-requires-clause-before c = intervals_ascend c.args.before.now c.requires.before c.deref.result.now (c.deref.ensures.value ∙ c.in_ok-old.ensures)

pub returns : goal.returns
returns c = λ was source is_was is_source from same clock now so_far.
    let P = plan_if_any clock was in
    let Q = plan_if_any now source in
    let old = c.deref.ensures.value ∙ c.in_ok-old.ensures ∙ ap all_intervals (from ∙ ap (λ C. entries C.workstations) (contents_of_plan clock was)) in
    let is = same ∙ ap (λ C. all_intervals (entries C.workstations)) (contents_of_plan now source) in
    c.push_changes.ensures 2 P Q
    (are_intervals P (legal_workstations clock was is_was) c.deref.result.now old)
    (are_intervals Q (legal_workstations now source is_source) c.args.after.now is) so_far
