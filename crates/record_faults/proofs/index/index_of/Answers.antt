use Rattle.std.proofs.Common.{arith, ◌≡◌, length, subst}
use Rattle.record_faults.specs.Sayings.{IsIndexBelow}
use Rattle.record_faults.proofs.Indexes.{whole_index}
use Rattle.record_faults.proofs.index.index_of.Goals as goal

pub returns : goal.returns
returns c =
    let all : c.loop-place.place ≡ length c.args.keys.now = omega arith in
    whole_index c.args.keys.now c.loop-place.index (subst (λ n. IsIndexBelow c.args.keys.now n c.loop-place.index) all c.loop-place.invariant)
