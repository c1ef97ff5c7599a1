use Rattle.request_outcomes.proofs.SmallTried.{clear_asked, moment_asked}
use Rattle.request_outcomes.proofs.outcomes.small_outcome.Goals as goal

pub small_trial-records-requires-clause-clear : goal.small_trial-records-requires-clause-clear
small_trial-records-requires-clause-clear c =
    let P = c.args.records.contents in
    let q = c.args.asked.now in
    (q.at, moment_asked P q c.requires.acceptable, clear_asked P q c.requires.acceptable)
