use Rattle.std.proofs.Common.{sym, ap, ◌∙◌, cond}
use Rattle.plan_model.specs.Contents.{Operation}
use Rattle.start_choice.specs.Takings.{with_one_more}
use Rattle.plan_model.specs.Holdings.{holds_server}
use Rattle.status_rules.specs.Table.{marked_status}
use Rattle.derived_figures.proofs.given.given_back.Goals as goal

pub returns-then-holds_server : goal.returns-then-holds_server
returns-then-holds_server c rest e =
    let op = c.args.operation.now in
    let holds = ap (λ (x : Operation). holds_server (marked_status x.mark)) (sym c.operation.view_is) ∙ sym c.holds_server.ensures ∙ c.if-holds_server.true in
    c.without_operation.ensures rest (e ∙ ap (λ b. cond b (with_one_more rest op) rest) holds)
