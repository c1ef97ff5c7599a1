use Rattle.std.proofs.Common.{◌≡◌, sym, subst, Some}
use Rattle.std.specs.FinMap.{get}
use Rattle.plan_model.specs.Contents.{Contents, HasAttribute}
use Rattle.start_choice.specs.plan_status.proofs.LoadedRows.{row_found}
use Rattle.derived_figures.proofs.outlines.Outline.reported.Goals as goal

pub attribute_of-requires : goal.attribute_of-requires
attribute_of-requires c =
    let o = c.args.key.now in
    let op = c.args.operation.now in
    (o, subst (λ (Q : Contents). get Q.operations o ≡ Some op) (sym c.self.view_is) (row_found c.args.self.now c.args.place o op c.requires))

pub returns : goal.returns
returns c =
    let o = c.args.key.now in
    let op = c.args.operation.now in
    let status = c.status_at.ensures o op c.requires in
    record {
      operation = row_found c.args.self.now c.args.place o op c.requires;
      attribute = subst (λ (Q : Contents). HasAttribute Q op.workstation c.attribute_of.result) c.self.view_is c.attribute_of.ensures;
      status = status.status;
      alone = status.alone;
    }
