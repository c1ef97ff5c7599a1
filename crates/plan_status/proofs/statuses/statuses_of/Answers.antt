use Rattle.std.proofs.Common.{arith, refl, ◌<◌, length}
use Rattle.std.proofs.lemmas.Option.{slice_get-get_or}
use Rattle.std.specs.FinMap.{entries}
use Rattle.plan_model.specs.Status.{HasStatus}
use Rattle.plan_status.proofs.RowKeys.{row_lent}
use Rattle.plan_status.proofs.SoFar.{all_rows, none_so_far, one_more}
use Rattle.plan_status.proofs.statuses.statuses_of.Goals as goal

pub loop-i-init : goal.loop-i-init
loop-i-init c P are standings = none_so_far (entries P.operations) (HasStatus P) _ c.in_ok-statuses.ensures.items

pub loop-i-preserved : goal.loop-i-preserved
loop-i-preserved c P are standings =
    let i = c.loop-i.i in
    let lt : i < length c.args.summaries.now = omega (arith, c.loop-i-test.true, c.requires) in
    let b = c.index-summaries-i.result in
    let at = row_lent c.args.summaries.now c.args.summaries.now refl i b lt c.index-summaries-i.is in
    rw c.in_ok-push.ensures.items
    (one_more (entries P.operations) (HasStatus P) i c.loop-i.statuses.items (c.loop-i.invariant P are standings) c.status.result (λ k v here.
    c.status.ensures P k (are.each i k v b here at) (standings.each i k v _ here (slice_get-get_or c.args.standings.now i _ c.loop-i-test.true))))

pub returns : goal.returns
returns c P are standings =
    all_rows (entries P.operations) (HasStatus P) c.loop-i.i c.loop-i.statuses.items (c.loop-i.invariant P are standings) (omega (arith, c.loop-i-test.false, c.loop-i.auto.i-end, standings.size))
