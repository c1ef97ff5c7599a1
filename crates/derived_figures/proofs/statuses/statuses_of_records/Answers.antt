use Rattle.std.proofs.Common.{arith, ap, sym, subst, length}
use Rattle.start_choice.specs.plan_status.specs.Summaries.{AreSummaries, IsSummarizedBy}
use Rattle.start_choice.specs.plan_status.specs.Standings.{AreStandings}
use Rattle.derived_figures.proofs.statuses.statuses_of_records.Goals as goal
use Rattle.derived_figures.proofs.statuses.statuses_of_records.Goals.{In_ok-summaries, In_ok-standings}

-- the plan, its graph and the summaries of its operations
summarized : (c : In_ok-summaries) → IsSummarizedBy c.args.records.now.contents c.args.graph.now c.in_ok-summaries.summaries.items
summarized c = record { valid = c.uncounted.ensures.sound.valid; graph = c.requires; summaries = c.in_ok-summaries.ensures.summaries }

pub standings_of-requires : goal.standings_of-requires
standings_of-requires c =
    let P = c.args.records.now.contents in
    (P, subst (IsSummarizedBy P c.args.graph.now) (sym c.deref.ensures.value) (summarized (goal.at.standings_of-requires c).In_ok-summaries))

standings : (c : In_ok-standings) → AreStandings c.args.records.now.contents c.in_ok-standings.standings.items
standings c =
    let P = c.args.records.now.contents in
    c.in_ok-standings.ensures.standings P (record { valid = c.uncounted.ensures.sound.valid; graph = c.requires; summaries = subst (AreSummaries P) (sym c.deref.ensures.value) c.in_ok-summaries.ensures.summaries })

pub statuses_of-requires : goal.statuses_of-requires
statuses_of-requires c =
    let are = standings (goal.at.statuses_of-requires c).In_ok-standings in
    let summaries = c.in_ok-summaries.ensures.summaries in
    omega (arith, summaries.size, are.size, ap length c.deref-2.ensures.value, ap length c.deref-3.ensures.value)

pub returns-clause-statuses : goal.returns-clause-statuses
returns-clause-statuses c =
    let P = c.args.records.now.contents in
    c.in_ok-statuses_of.ensures P (subst (AreSummaries P) (sym c.deref-2.ensures.value) c.in_ok-summaries.ensures.summaries)
    (subst (AreStandings P) (sym c.deref-3.ensures.value) (standings (goal.at.returns-clause-statuses c).In_ok-standings))
