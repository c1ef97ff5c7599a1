use Rattle.std.proofs.Common.{sym, ◌∙◌}
use Rattle.plan_outlooks.proofs.FirstOpen.{open_by, open_never, open_next, shut_by}
use Rattle.plan_outlooks.proofs.standstills.open_first.Goals as goal

pub returns-then-is_some : goal.returns-then-is_some
returns-then-is_some c = open_by c.args.workstation.now.1 c.args.from c.capacity_at.result c.capacity_at.ensures (sym c.is_some.ensures ∙ c.if-is_some.true)

pub returns-in-Some : goal.returns-in-Some
returns-in-Some c =
    let ws = c.args.workstation.now.1 in
    let shut = shut_by ws c.args.from c.capacity_at.result c.capacity_at.ensures (sym c.is_some.ensures ∙ c.if-is_some.false) in
    open_next ws c.attribute.ensures.legal c.args.from shut c.in-Some.opening c.in-Some.ensures

pub returns-in-None : goal.returns-in-None
returns-in-None c =
    let ws = c.args.workstation.now.1 in
    let shut = shut_by ws c.args.from c.capacity_at.result c.capacity_at.ensures (sym c.is_some.ensures ∙ c.if-is_some.false) in
    open_never ws c.attribute.ensures.legal c.args.from shut c.in-None.ensures
