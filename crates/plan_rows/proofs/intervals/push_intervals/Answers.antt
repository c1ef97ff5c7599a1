use Rattle.std.proofs.Common.{◌∙◌, ap}
use Rattle.plan_rows.proofs.WithinRows.{intervals_ascend}
use Rattle.plan_rows.proofs.intervals.push_intervals.Goals as goal
use Rattle.plan_rows.specs.Rows.{all_intervals}
use Rattle.plan_rows.specs.Sources.{source_if_any}

pub push_noted_intervals-requires-clause-in_order : goal.push_noted_intervals-requires-clause-in_order
push_noted_intervals-requires-clause-in_order c =
    intervals_ascend c.workstations_of.result.now c.workstations_of.ensures.in_order c.deref.result.now (c.deref.ensures.value ∙ c.in_ok-new.ensures)

pub returns : goal.returns
returns c = λ clock now so_far.
    c.push_noted_intervals.ensures (source_if_any c.args.before) (source_if_any c.args.after) c.requires.before c.requires.after c.workstations_of-2.ensures.rows
    (c.deref.ensures.value ∙ c.in_ok-new.ensures ∙ ap all_intervals c.workstations_of.ensures.rows) clock now so_far
