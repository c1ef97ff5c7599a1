use Rattle.forecasting.proofs.Gathered.{going_among}
use Rattle.forecasting.proofs.following.going_among.Goals as goal

pub returns : goal.returns
returns c =
    going_among c.args.loaded.now c.args.going.now c.args.places.now c.in_ok-next.next.items c.add_going.new.going.items c.add_going-2.new.going.items
    c.in_ok-next.ensures.items c.in_ok-add_going.ensures c.in_ok-add_going-2.ensures c.requires.going c.requires.places
