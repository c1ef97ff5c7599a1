use Rattle.std.proofs.Common.{subst}
use Rattle.plan_shows.specs.Stations.{AreHours}
use Rattle.plan_shows.proofs.stations.workstation_view.Goals as goal

pub returns : goal.returns
returns c = record {
  name = c.name.ensures;
  attribute = c.attribute.ensures.value;
  hours = subst (λ m. AreHours c.args.workstation.now.1 m c.hours_at.result) c.clock.ensures.value c.hours_at.ensures;
  given = c.requires.given;
  ready = c.requires.ready;
}
