use Rattle.std.proofs.Common.{◌≡◌, ◌≤◌, refl, sym, ap, subst, ◌∙◌, ◌+◌, arith, cond, length, Some, slice_get}
use Rattle.std.specs.FinMap.{entries}
use Rattle.std.proofs.lemmas.List.{take_all}
use Rattle.std.proofs.lemmas.List.Sums.{count_by_more_no, count_by_more_yes, sum_by-take-le}
use Rattle.plan_basics.specs.declared.keys.OpKey.{OpKey}
use Rattle.special_resources.specs.Holdings.{HoldingState}
use Rattle.counted_records.specs.plan_status.specs.Summaries.{IsSummaryOf}
use Rattle.counted_records.specs.plan_status.specs.declared.summaries.OperationSummary.{OperationSummary}
use Rattle.counted_records.specs.plan_drafts.proofs.RowPlaces.{row_at}
use Rattle.plan_model.specs.Contents.{Contents, Operation}
use Rattle.counted_records.specs.plan_status.proofs.Summarized.{summary_there}
use Rattle.counted_records.specs.plan_status.proofs.RowKeys.{row_lent}
use Rattle.start_choice.specs.SummarizedTakings.{holder_count, may_hold}
use Rattle.start_choice.proofs.SummarizedHolders.{holds_nothing, known_there}
use Rattle.start_choice.proofs.HeldRows.{AreHeldAmong, none_held, row_passed_over, row_takes, rows_held}
use Rattle.start_choice.proofs.holders.holdings_of.Goals as goal
use Rattle.start_choice.proofs.holders.holdings_of.Goals.{After-may_hold, then-may_hold+in_ok-take_at, else-may_hold}

module _ (c : After-may_hold) where
  -- the row that is gone through
  row : (z : OpKey × Operation) × (slice_get (entries c.args.records.now.contents.operations) c.loop-place.place ≡ Some z)
  row = row_at (entries c.args.records.now.contents.operations) c.loop-place.place (omega (arith, c.loop-place-test.true, c.requires.size))

  -- its operation's summary
  its : IsSummaryOf c.args.records.now.contents row.0.1 c.index-summaries-place.result
  its =
      summary_there c.args.records.now.contents c.args.summaries.now c.requires c.loop-place.place row.0.0 row.0.1 c.index-summaries-place.result row.1
      (row_lent c.args.summaries.now c.args.summaries.now refl c.loop-place.place c.index-summaries-place.result c.loop-place-test.true c.index-summaries-place.is)

pub take_at-requires : goal.take_at-requires
take_at-requires c =
    omega (arith, c.loop-place-test.true, c.requires.size, ap (λ (P : Contents). length (entries P.operations)) c.loop-place.invariant.contents)

pub loop-place-init : goal.loop-place-init
loop-place-init c = record {
  contents = refl;
  fewest = omega arith;
  most = omega arith;
  held = subst (λ (z : HoldingState). AreHeldAmong c.args.records.now.contents 0 z.held) (sym c.new-holdings.ensures) (none_held c.args.records.now.contents);
}

pub loop-place-preserved : goal.loop-place-preserved
loop-place-preserved c =
    let a : After-may_hold = (goal.at.loop-place-preserved c).After-may_hold in
    let P = c.args.records.now.contents in
    let summaries = c.args.summaries.now in
    let i = c.loop-place.place in
    let lt = c.loop-place-test.true in
    let b = c.index-summaries-place.result in
    let o = (row a).0.0 in
    let op = (row a).0.1 in
    let invariant = c.loop-place.invariant in
    let held = c.loop-place.holdings.held in
    elim c.if-may_hold.branch [
      | then-may_hold+in_ok-take_at w ↦
          let yes = sym c.may_hold.ensures ∙ w.if-may_hold.true in
          let more = count_by_more_yes may_hold summaries i b lt (ap may_hold (sym c.index-summaries-place.is) ∙ yes) in
          let at = ap (λ (Q : Contents). slice_get (entries Q.operations) i) invariant.contents ∙ (row a).1 in
          let taken = w.in_ok-take_at.ensures.taken o op at in
          rw (w.holdings-is, w.records-is)
          record {
            contents = w.in_ok-take_at.ensures.contents ∙ invariant.contents;
            fewest = omega (arith, invariant.fewest, w.in_ok-take_at.ensures.fewest);
            most = omega (arith, invariant.most, w.in_ok-take_at.ensures.most, more);
            held = row_takes P i o op (row a).1 held invariant.held (known_there P op b (its a) yes) w.take_at.new.holdings.held taken;
          }
      | else-may_hold w ↦
          let no = sym c.may_hold.ensures ∙ w.if-may_hold.false in
          let same = count_by_more_no may_hold summaries i b lt (ap may_hold (sym c.index-summaries-place.is) ∙ no) in
          rw (w.holdings-is, w.records-is)
          record {
            contents = invariant.contents;
            fewest = invariant.fewest;
            most = omega (arith, invariant.most, same);
            held = row_passed_over P i o op (row a).1 held invariant.held (holds_nothing P op b (its a) no);
          }
    ]

pub returns-clause-held : goal.returns-clause-held
returns-clause-held c =
    let P = c.args.records.now.contents in
    let past : length (entries P.operations) ≤ c.loop-place.place = omega (arith, c.loop-place-test.false, c.requires.size) in
    rows_held P c.loop-place.place c.loop-place.holdings.held past c.loop-place.invariant.held

pub returns-clause-most : goal.returns-clause-most
returns-clause-most c =
    let all = ap holder_count (take_all c.loop-place.place c.args.summaries.now c.loop-place-test.false) in
    omega (arith, c.loop-place.invariant.most, all)

pub returns-in_err-take_at-clause-most : goal.returns-in_err-take_at-clause-most
returns-in_err-take_at-clause-most c =
    let summaries = c.args.summaries.now in
    let i = c.loop-place.place in
    let b = c.index-summaries-place.result in
    let yes = sym c.may_hold.ensures ∙ c.if-may_hold.true in
    let more = count_by_more_yes may_hold summaries i b c.loop-place-test.true (ap may_hold (sym c.index-summaries-place.is) ∙ yes) in
    let all = sum_by-take-le (λ (x : OperationSummary). cond (may_hold x) 1 0) summaries (i + 1) in
    omega (arith, c.loop-place.invariant.most, c.in_err-take_at.ensures.most, more, all)
