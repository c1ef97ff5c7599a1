use Rattle.plan_status.proofs.Workplaces.{workplace_found}
use Rattle.plan_status.proofs.standings.attribute_near.Goals as goal

pub unwrap-requires : goal.unwrap-requires
unwrap-requires c = workplace_found c.args.contents.now c.workstation_near.ensures.valid c.operation.view_is c.requires c.workstation_near.result c.workstation_near.ensures.absent
