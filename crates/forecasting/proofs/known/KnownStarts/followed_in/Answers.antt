use Rattle.std.proofs.Common.{◌∙◌, ap, arith, length}
use Rattle.std.specs.FinMap.{entries}
use Rattle.plan_model.specs.Contents.{Contents}
use Rattle.forecasting.proofs.Kept.{kept_all, kept_first, kept_next}
use Rattle.forecasting.proofs.known.KnownStarts.followed_in.Goals as goal

pub loop-place-init : goal.loop-place-init
loop-place-init c = kept_first c.args.loaded.now c.args.self.now c.args.fresh.now c.empty-next.result c.empty-next.ensures.entries c.empty-next.ensures.follows

pub loop-place-preserved : goal.loop-place-preserved
loop-place-preserved c =
    let rows_are = c.operations-rows.ensures.rows ∙ ap (λ (Q : Contents). entries Q.operations) c.contents.ensures.contents in
    let less = c.loop-place-test.true in
    let many = ap length rows_are in
    kept_next c.args.loaded.now c.args.self.now c.args.fresh.now c.loop-place.place c.loop-place.next c.keep_at.new.next (omega (arith, less, many)) c.in_ok-keep_at.ensures c.loop-place.invariant

pub keep_at-requires : goal.keep_at-requires
keep_at-requires c =
    let rows_are = c.operations-rows.ensures.rows ∙ ap (λ (Q : Contents). entries Q.operations) c.contents.ensures.contents in
    let less = c.loop-place-test.true in
    let many = ap length rows_are in
    omega (arith, less, many)

pub returns-clause-going : goal.returns-clause-going
returns-clause-going c =
    let rows_are = c.operations-rows.ensures.rows ∙ ap (λ (Q : Contents). entries Q.operations) c.contents.ensures.contents in
    let past = c.loop-place-test.false in
    let many = ap length rows_are in
    kept_all c.args.loaded.now c.args.self.now c.args.fresh.now c.loop-place.place c.loop-place.next (omega (arith, past, many)) c.loop-place.invariant

pub returns-clause-kept : goal.returns-clause-kept
returns-clause-kept c = c.loop-place.invariant.kept
