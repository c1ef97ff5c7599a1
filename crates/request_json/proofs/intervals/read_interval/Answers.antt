use Rattle.std.proofs.Common.{◌≡◌, length, arith}
use Rattle.serde_json.specs.View.{view}
use Rattle.request_json.proofs.Fives.{array_of_five, five_long, array_spelt}
use Rattle.request_json.proofs.intervals.read_interval.Goals as goal

pub returns-then-len-ne5 : goal.returns-then-len-ne5
returns-then-len-ne5 c =
    λ x h.
    let size : length c.in_ok-list.list.now.items ≡ 5 = five_long (view c.args.value.now) c.in_ok-list.list.now.items x c.in_ok-list.ensures h in
    absurd (omega arith)

pub returns : goal.returns
returns c =
    let size : length c.in_ok-list.list.now.items ≡ 5 = omega arith in
    array_spelt (view c.args.value.now) (view c.index.result.now) (view c.index-2.result.now) (view c.index-3.result.now) (view c.index-4.result.now) (view c.index-5.result.now)
    (array_of_five (view c.args.value.now) c.in_ok-list.list.now.items c.index.result.now c.index-2.result.now c.index-3.result.now c.index-4.result.now c.index-5.result.now c.in_ok-list.ensures size
    c.index.ensures c.index-2.ensures c.index-3.ensures c.index-4.ensures c.index-5.ensures) c.interval_of.result c.interval_of.ensures
