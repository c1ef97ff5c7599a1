use Rattle.plan_rows.proofs.NewPlaces.{some_key}
use Rattle.plan_rows.proofs.new_places.known_key_at.Goals as goal

pub unwrap-requires : goal.unwrap-requires
unwrap-requires c = some_key c.args.source c.args.place c.requires
