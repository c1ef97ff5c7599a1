use Rattle.std.proofs.Common.{refl, subst}
use Rattle.plan_shows.specs.Trackers.{IsAskedBy}
use Rattle.plan_shows.proofs.trackers.tracker_view.Goals as goal

pub returns : goal.returns
returns c = record {
  tracker = refl;
  number = c.number.ensures;
  request = subst (λ text. IsAskedBy text c.in_ok-asked_by.field-0) c.text.ensures c.in_ok-asked_by.ensures;
}
