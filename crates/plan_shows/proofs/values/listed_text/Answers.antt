use Rattle.std.proofs.Common.{refl, take}
use Rattle.plan_shows.specs.Values.{started_data}
use Rattle.request_json.proofs.Written.{no_float}
use Rattle.plan_shows.proofs.values.listed_text.Goals as goal

pub array_text-requires : goal.array_text-requires
array_text-requires c = rw c.loop-view.invariant (no_float started_data (λ view. refl) (take c.loop-view.view-index c.args.views.now))
