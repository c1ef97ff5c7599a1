use Rattle.std.proofs.Common.{sym, ap, ◌∙◌, ◌+◌}
use Rattle.plan_model.specs.Contents.{Operation}
use Rattle.workstations.specs.declared.Capacity.{Capacity}
use Rattle.start_choice.proofs.GivenSums.{same_capacity}
use Rattle.derived_figures.proofs.given.without_operation.Goals as goal

pub returns : goal.returns
returns c rest e =
    let r1 = ap (λ (op : Operation). rest.r1 + op.r1) (sym c.operation.view_is) in
    let r2 = ap (λ (op : Operation). rest.r2 + op.r2) (sym c.operation.view_is) in
    same_capacity (record { servers = c.with_less.result; r1 = c.with_less-2.result; r2 = c.with_less-3.result }) rest
    (c.with_less.ensures rest.servers (ap (λ (x : Capacity). x.servers) e))
    (c.with_less-2.ensures rest.r1 (ap (λ (x : Capacity). x.r1) e ∙ r1))
    (c.with_less-3.ensures rest.r2 (ap (λ (x : Capacity). x.r2) e ∙ r2))
