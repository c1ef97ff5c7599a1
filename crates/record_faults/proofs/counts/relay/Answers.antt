use Rattle.std.proofs.Common.{ap, ◌∙◌, Some}
use Rattle.record_faults.proofs.Counting.{last_more}
use Rattle.record_faults.proofs.counts.relay.Goals as goal

pub returns-clause-is : goal.returns-clause-is
returns-clause-is c = λ groups here are. last_more groups c.args.place c.in-Some.group c.args.latest.now c.insert.new.self (here ∙ ap Some c.in-Some.is) c.in_ok-insert.ensures.updates.0 are
