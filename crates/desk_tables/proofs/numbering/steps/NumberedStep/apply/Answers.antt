use Rattle.desk_tables.proofs.PreparedSteps.{has_room, is_legal, is_prepared}
use Rattle.desk_tables.proofs.numbering.steps.NumberedStep.apply.Goals as goal

pub put-requires-clause-room : goal.put-requires-clause-room
put-requires-clause-room c = has_room c.args.plan.now c.args.receipts.now c.requires.0 c.args.self c.requires.1

pub put-requires-clause-legal : goal.put-requires-clause-legal
put-requires-clause-legal c = is_legal c.args.plan.now c.args.receipts.now c.requires.0 c.args.self c.requires.1

pub apply-requires : goal.apply-requires
apply-requires c = is_prepared c.args.plan.now c.args.receipts.now c.requires.0 c.args.self c.requires.1
