use Rattle.std.proofs.Common.{arith, take}
use Rattle.std.proofs.lemmas.List.{length-take}
use Rattle.record_faults.proofs.Counting.{count_within}
use Rattle.record_faults.proofs.counts.counts_of.Goals as goal

pub count_one-requires : goal.count_one-requires
count_one-requires c = λ g. let is = c.loop-place.invariant g in let within = count_within g (take c.loop-place.place c.args.groups.now) in omega (arith, is, within, length-take c.loop-place.place c.args.groups.now)
