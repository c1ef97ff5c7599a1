use Rattle.std.proofs.Common.{◌≡◌, take}
use Rattle.ready_list.specs.Choice.{is_among}
use Rattle.plan_records.specs.plan_model.specs.Ready.{with_mark}
use Rattle.plan_records.specs.Changes.{revised}
use Rattle.plan_changes.proofs.mark_rows.mark_all.Given as goal

-- the keys before the index have their marks
abbrev pub invariant-loop-key : goal.invariant-loop-key
invariant-loop-key l = l.contents ≡ revised (is_among (take l.key-index l.keys)) (with_mark l.mark) l.fn.contents
