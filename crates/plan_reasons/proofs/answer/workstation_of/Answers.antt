use Rattle.std.proofs.Common.{sym, ap, ◌∙◌}
use Rattle.std.specs.FinMap.{get}
use Rattle.plan_model.specs.Contents.{Operation}
use Rattle.plan_core.specs.plan_status.proofs.Workplaces.{workplace_found}
use Rattle.plan_reasons.proofs.answer.workstation_of.Goals as goal

pub unwrap-requires : goal.unwrap-requires
unwrap-requires c = workplace_found c.args.contents.now c.workstation.ensures.sound.valid c.operation.view_is c.requires c.workstation.result c.workstation.ensures.absent

pub returns-clause-name : goal.returns-clause-name
returns-clause-name c =
    let found = rw c.unwrap.ensures at c.workstation.ensures.found in
    ap (λ (op : Operation). op.workstation) (sym c.operation.view_is) ∙ sym found.0

pub returns-clause-known : goal.returns-clause-known
returns-clause-known c =
    let found = rw c.unwrap.ensures at c.workstation.ensures.found in
    ap (λ (op : Operation). get c.args.contents.now.workstations op.workstation) (sym c.operation.view_is) ∙ found.1
