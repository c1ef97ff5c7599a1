use Rattle.std.proofs.Common.{arith}
use Rattle.row_differences.proofs.Making.{made_all, made_next}
use Rattle.row_differences.proofs.rows.push_made.Goals as goal

pub loop-place-preserved : goal.loop-place-preserved
loop-place-preserved g c =
    let lt = c.loop-place-test.true in
    rw c.in_ok-push.ensures.items
    (made_next (λ i r. g.F.Fn.post c.args.make (i, tt) r) c.args.places.now c.loop-place.place-index c.args.rows.now.items c.loop-place.rows.items c.make.result (omega (arith, lt)) c.loop-place.invariant c.make.ensures)

pub returns : goal.returns
returns g c =
    let ge = c.loop-place-test.false in
    made_all (λ i r. g.F.Fn.post c.args.make (i, tt) r) c.args.places.now c.loop-place.place-index c.args.rows.now.items c.loop-place.rows.items (omega (arith, ge)) c.loop-place.invariant
