use Rattle.std.proofs.Common.{◌≡◌, ◌∙◌, sym, subst}
use Rattle.derived_figures.specs.start_choice.specs.Choices.{AreLatestStarts}
use Rattle.plan_rows.proofs.row_sources.RowSource.of.Goals as goal
use Rattle.plan_records.specs.plan_drafts.specs.Places.{AreStatuses}
use Rattle.plan_model.specs.Contents.{Contents}
use Rattle.plan_model.specs.Valid.{IsSound}
use Rattle.derived_figures.specs.plan_status.specs.Standings.{AreStandings, AreTallies}

pub returns-clause-source : goal.returns-clause-source
returns-clause-source c =
    let same : c.args.loaded.now ≡ c.rows.result.now = sym (c.rows.ensures.contents ∙ c.contents.ensures.contents) in
    record {
      sound = subst IsSound (sym c.rows.ensures.contents) c.rows.ensures.sound;
      standings = subst (λ (P : Contents). AreStandings P c.standings.result.now) same c.standings.ensures;
      statuses = subst (λ (P : Contents). AreStatuses P c.statuses.result.now) same c.statuses.ensures;
      tallies = subst (λ (P : Contents). AreTallies P c.tallies.result.now) same c.tallies.ensures;
      latest = subst (λ (P : Contents). AreLatestStarts P c.latest.result.now.starts) same c.latest.ensures;
    }
