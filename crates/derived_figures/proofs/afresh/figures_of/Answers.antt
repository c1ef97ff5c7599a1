use Rattle.std.proofs.Common.{◌≡◌, ◌∙◌, arith, sym, subst, ap, length}
use Rattle.std.specs.FinMap.{entries}
use Rattle.start_choice.specs.Choices.{AreGivenOut, AreLatestStarts, AreReadyEntries}
use Rattle.start_choice.specs.plan_drafts.specs.Places.{AreStatuses}
use Rattle.plan_model.specs.Contents.{Contents}
use Rattle.start_choice.specs.plan_status.specs.Summaries.{AreSummaries, IsSummarizedBy}
use Rattle.start_choice.specs.plan_status.specs.Standings.{AreStandings, AreTallies}
use Rattle.derived_figures.proofs.afresh.figures_of.Goals as goal
use Rattle.derived_figures.proofs.afresh.figures_of.Goals.{After-uncounted-uncounted, In_ok-standings, In_ok-statuses}

-- the plan, its graph and the summaries of its operations
summarized : (c : After-uncounted-uncounted) → IsSummarizedBy c.args.records.now.contents c.args.graph.now c.args.summaries.now
summarized c = record { valid = c.uncounted-uncounted.ensures.sound.valid; graph = c.requires.graph; summaries = c.requires.summaries }

pub standings_of-requires : goal.standings_of-requires
standings_of-requires c = (c.args.records.now.contents, summarized (goal.at.standings_of-requires c).After-uncounted-uncounted)

standings : (c : In_ok-standings) → AreStandings c.args.records.now.contents c.in_ok-standings.standings.items
standings c = c.in_ok-standings.ensures.standings c.args.records.now.contents (record { valid = c.uncounted-uncounted.ensures.sound.valid; graph = c.requires.graph; summaries = c.requires.summaries })

pub statuses_of-requires : goal.statuses_of-requires
statuses_of-requires c =
    let are = standings (goal.at.statuses_of-requires c).In_ok-standings in
    omega (arith, c.requires.summaries.size, are.size, ap length c.deref.ensures.value)

statuses : (c : In_ok-statuses) → AreStatuses c.args.records.now.contents c.in_ok-statuses.statuses.items
statuses c =
    let P = c.args.records.now.contents in
    let are = c.in_ok-standings.ensures.standings P (record { valid = c.uncounted-uncounted.ensures.sound.valid; graph = c.requires.graph; summaries = c.requires.summaries }) in
    c.in_ok-statuses.ensures P c.requires.summaries (subst (AreStandings P) (sym c.deref.ensures.value) are)

pub wait_states_of-requires : goal.wait_states_of-requires
wait_states_of-requires c =
    let P = c.args.records.now.contents in
    let here = (goal.at.wait_states_of-requires c).In_ok-statuses in
    let have = statuses here in
    let are = c.in_ok-standings.ensures.standings P (record { valid = c.uncounted-uncounted.ensures.sound.valid; graph = c.requires.graph; summaries = c.requires.summaries }) in
    omega (arith, have.size, are.size, ap length c.deref-2.ensures.value, ap length c.deref-3.ensures.value)

pub tallies_of-requires : goal.tallies_of-requires
tallies_of-requires c =
    subst (λ (Q : Contents). AreStatuses Q c.deref-4.result.now) (sym c.uncounted-uncounted.ensures.contents)
    (subst (AreStatuses c.args.records.now.contents) (sym c.deref-4.ensures.value) (statuses (goal.at.tallies_of-requires c).In_ok-statuses))

pub ready_of-requires-clause-summaries : goal.ready_of-requires-clause-summaries
ready_of-requires-clause-summaries c = subst (λ (Q : Contents). AreSummaries Q c.args.summaries.now) (sym c.uncounted-uncounted.ensures.contents) c.requires.summaries

pub ready_of-requires-clause-statuses : goal.ready_of-requires-clause-statuses
ready_of-requires-clause-statuses c =
    subst (λ (Q : Contents). AreStatuses Q c.deref-5.result.now) (sym c.uncounted-uncounted.ensures.contents)
    (subst (AreStatuses c.args.records.now.contents) (sym c.deref-5.ensures.value) (statuses (goal.at.ready_of-requires-clause-statuses c).In_ok-statuses))

pub ready_of-requires-clause-latest : goal.ready_of-requires-clause-latest
ready_of-requires-clause-latest c = subst (λ (Q : Contents). AreLatestStarts Q c.args.latest.now.starts) (sym c.uncounted-uncounted.ensures.contents) c.requires.latest

pub given_out_of-requires : goal.given_out_of-requires
given_out_of-requires c = subst (λ (Q : Contents). AreSummaries Q c.args.summaries.now) (sym c.uncounted-uncounted.ensures.contents) c.requires.summaries

pub returns-clause-figures : goal.returns-clause-figures
returns-clause-figures c =
    let P = c.args.records.now.contents in
    let same = c.uncounted-uncounted.ensures.contents in
    let are = standings (goal.at.returns-clause-figures c).In_ok-standings in
    let have = statuses (goal.at.returns-clause-figures c).In_ok-statuses in
    record {
      wait_states = c.in_ok-wait_states.ensures P (subst (AreStandings P) (sym c.deref-2.ensures.value) are) (subst (AreStatuses P) (sym c.deref-3.ensures.value) have);
      standings = are;
      statuses = have;
      tallies = subst (λ (Q : Contents). AreTallies Q c.in_ok-tallies.tallies.items) same c.in_ok-tallies.ensures;
      given = subst (λ (Q : Contents). AreGivenOut Q (entries Q.workstations) c.in_ok-given.given.items) same c.in_ok-given.ensures;
      holders = c.in_ok-holdings.ensures.held;
      ready = subst (AreReadyEntries P) (sym c.in_ok-reserve.ensures.entries) (subst (λ (Q : Contents). AreReadyEntries Q c.in_ok-ready.ready.entries) same c.in_ok-ready.ensures.list);
      room = omega (arith, c.in_ok-reserve.ensures.ok, c.requires.summaries.size);
    }

pub returns-clause-most : goal.returns-clause-most
returns-clause-most c = omega (arith, c.in_ok-holdings.ensures.most, c.in_ok-ready.ensures.few, ap length c.in_ok-reserve.ensures.entries)
