use Rattle.plan_rows.proofs.needs.push_needs_of.Goals as goal

pub returns : goal.returns
returns c = c.push_each.ensures (λ n. (c.args.op, n)) (λ n r has is. is)
