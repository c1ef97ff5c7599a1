use Rattle.std.proofs.Common.{arith}
use Rattle.forecasting.proofs.Gathered.{touched_all, touched_first}
use Rattle.forecasting.proofs.carrying.changed_in.Goals as goal

pub loop-row-init : goal.loop-row-init
loop-row-init c = touched_first c.args.loaded.now c.args.rows.now c.new-places.result.items c.new-places.ensures.items

pub returns : goal.returns
returns c = touched_all c.args.loaded.now c.args.rows.now c.loop-row.row-index c.loop-row.places.items (let past = c.loop-row-test.false in omega (arith, past)) c.loop-row.invariant
