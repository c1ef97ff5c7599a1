use Rattle.std.proofs.Common.{subst}
use Rattle.plan_core.specs.start_choice.specs.Choices.{AreHeldIn}
use Rattle.plan_model.specs.Contents.{Contents}
use Rattle.plan_reasons.proofs.Sharing.{all_in_plan, all_others_found}
use Rattle.plan_reasons.proofs.other_holders.others_of.Goals as goal

pub others_among-requires-clause-in_order : goal.others_among-requires-clause-in_order
others_among-requires-clause-in_order c = c.holders.ensures.in_order

pub others_among-requires-clause-known : goal.others_among-requires-clause-known
others_among-requires-clause-known c =
    let held = c.holdings-holdings.result.now.held in
    all_in_plan c.args.loaded.now held (subst (λ (P : Contents). AreHeldIn P held) c.outline.ensures c.holdings-holdings.ensures) c.args.resource.now c.holders.result.now c.holders.ensures.members

pub returns : goal.returns
returns c =
    let held = c.holdings-holdings.result.now.held in
    all_others_found c.args.loaded.now c.args.key.now held (subst (λ (P : Contents). AreHeldIn P held) c.outline.ensures c.holdings-holdings.ensures) c.args.resource.now c.holders.result.now c.holders.ensures.members c.in_ok-found.found.items c.in_ok-found.ensures
