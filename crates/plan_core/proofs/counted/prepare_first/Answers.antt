use Rattle.std.proofs.Common.{None}
use Rattle.plan_core.proofs.counted.prepare_first.Goals as goal
use Rattle.plan_model.specs.Plan.{plan_held}
use Rattle.request_outcomes.specs.plan_checks.proofs.Searching.{if_err}

pub prepared_rebuild-requires : goal.prepared_rebuild-requires
prepared_rebuild-requires c = (plan_held c.args.clock None, c.args.request.now, c.in_ok-rebuild.ensures.rebuild)

pub returns-clause-prepared : goal.returns-clause-prepared
returns-clause-prepared c = c.prepared_rebuild.ensures.prepared (plan_held c.args.clock None) c.args.request.now c.in_ok-rebuild.ensures.rebuild c.in_ok-rebuild.ensures.looked

pub returns-clause-refused : goal.returns-clause-refused
returns-clause-refused c = if_err c.prepared_rebuild.result c.prepared_rebuild.ensures.refused (λ r told. told (plan_held c.args.clock None) c.args.request.now c.in_ok-rebuild.ensures.rebuild)
