use Rattle.std.proofs.Common.{◌∙◌, ap, arith, take}
use Rattle.std.specs.Prelude.{if◌then◌else◌}
use Rattle.std.proofs.lemmas.List.{length-take, take_all}
use Rattle.record_faults.specs.Groups.{count_of, grouped}
use Rattle.record_faults.specs.Sayings.{Sayings}
use Rattle.extension_faults.proofs.Excess.{counted_more, counted_within, one_at_most}
use Rattle.extension_faults.proofs.limits.count_of.Goals as goal

pub overflow_add-count : goal.overflow_add-count
overflow_add-count c =
    let so_far = counted_within c.args.group.now (take c.loop-place.place c.args.said.now) in
    let is = c.loop-place.invariant in
    let one = one_at_most c.is_of.result in
    omega (arith, so_far, is, one, c.one_if-count.ensures, length-take c.loop-place.place c.args.said.now)

pub loop-place-preserved : goal.loop-place-preserved
loop-place-preserved c =
    let o = c.index-said-place.result in
    let more = counted_more c.args.group.now c.args.said.now c.loop-place.place o (omega arith) c.index-said-place.is in
    let one = c.one_if-count.ensures ∙ ap (λ b. if b then 1 else 0) c.is_of.ensures in
    let is = c.loop-place.invariant in
    omega (arith, more, one, is)

pub returns : goal.returns
returns c = c.loop-place.invariant ∙ ap (λ (s : Sayings). count_of c.args.group.now (grouped s)) (take_all c.loop-place.place c.args.said.now (omega arith))
