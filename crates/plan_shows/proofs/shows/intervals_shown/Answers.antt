use Rattle.plan_shows.proofs.shows.intervals_shown.Goals as goal

pub returns-clause-text : goal.returns-clause-text
returns-clause-text c = (c.args.workstation.now.1, c.requires, rw (c.intervals_of-intervals.ensures, c.as_bytes.ensures.text) at c.in_ok-report_of.ensures)
