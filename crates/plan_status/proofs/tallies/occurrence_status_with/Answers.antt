use Rattle.plan_status.proofs.OfOccurrences.{status_counted}
use Rattle.plan_status.proofs.tallies.occurrence_status_with.Goals as goal

pub returns : goal.returns
returns c P k tally = status_counted P k c.args.counts tally c.occurrence_status.result c.occurrence_status.ensures.first
