use Rattle.plan_items.specs.Items.{fields_of}
use Rattle.record_faults.specs.Shapes.{AreRead}
use Rattle.record_faults.proofs.shapes.first_unread.Given as goal

-- those so far are of their forms
abbrev pub invariant-loop-place : goal.invariant-loop-place
invariant-loop-place l = AreRead l.forms l.place (fields_of l.fields)
