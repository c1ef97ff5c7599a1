use Rattle.std.proofs.Common.{sym}
use Rattle.plan_reasons.proofs.Sharing.{by_lacking, by_none}
use Rattle.plan_reasons.proofs.other_holders.others_by.Goals as goal

pub returns-in_ok-found-in-Some : goal.returns-in_ok-found-in-Some
returns-in_ok-found-in-Some c = by_lacking c.args.loaded.now c.args.key.now c.args.reason.now c.in-Some.resource (sym c.in-Some.ensures) c.in_ok-found-in-Some.found.items c.in_ok-found-in-Some.ensures

pub returns-in-None : goal.returns-in-None
returns-in-None c = by_none c.args.loaded.now c.args.key.now c.args.reason.now (sym c.in-None.ensures) c.new.result.items c.new.ensures.items
