use Rattle.std.specs.FinMap.{entries}
use Rattle.std.proofs.Common.{arith, ◌≡◌, ◌+◌, ◌<◌, ◌≤◌, refl, sym, subst, ◌∙◌, Some, length, slice_get}
use Rattle.std.proofs.lemmas.List.{take_all}
use Rattle.std.proofs.lemmas.Option.{slice_get_within}
use Rattle.plan_basics.specs.declared.keys.OpKey.{OpKey}
use Rattle.counted_records.specs.plan_status.proofs.Summarized.{summary_there}
use Rattle.counted_records.specs.plan_status.proofs.RowKeys.{row_of_key, row_lent}
use Rattle.counted_records.specs.plan_status.specs.Summaries.{IsSummaryOf}
use Rattle.counted_records.specs.plan_drafts.proofs.RowPlaces.{row_at}
use Rattle.plan_model.specs.Contents.{Operation}
use Rattle.workstations.specs.Workstations.{Workstation}
use Rattle.start_choice.specs.Takings.{IsAtMost, most_given_out, with_one_more}
use Rattle.start_choice.proofs.SummarizedHolders.{server_told}
use Rattle.start_choice.proofs.GivenPlaces.{read_at}
use Rattle.start_choice.proofs.GivenRows.{before_at_most, given_before, row_counted, row_passed, rows_counted}
use Rattle.start_choice.proofs.taken.given_out_of.Goals as goal
use Rattle.start_choice.proofs.taken.given_out_of.Goals.{then-holds_a_server, else-holds_a_server, After-summary-item}

module _ (c : After-summary-item) where
  -- the row of the operation that is gone through
  row : (z : OpKey × Operation) × (slice_get (entries c.args.uncounted.now.contents.now.operations) c.loop-summary.summary-index ≡ Some z)
  row = row_at (entries c.args.uncounted.now.contents.now.operations) c.loop-summary.summary-index (omega (arith, c.loop-summary-test.true, c.requires.size))

  -- its summary
  its : IsSummaryOf c.args.uncounted.now.contents.now row.0.1 c.summary-item.result
  its =
      summary_there c.args.uncounted.now.contents.now c.args.summaries.now c.requires c.loop-summary.summary-index row.0.0 row.0.1 c.summary-item.result row.1
      (row_lent c.args.summaries.now c.args.summaries.now refl c.loop-summary.summary-index c.summary-item.result c.loop-summary-test.true c.summary-item.is)

  -- and the row of its workstation
  station : (ws : Workstation) × (slice_get (entries c.args.uncounted.now.contents.now.workstations) c.summary-item.result.station ≡ Some (row.0.1.workstation, ws))
  station = row_of_key (entries c.args.uncounted.now.contents.now.workstations) c.summary-item.result.station row.0.1.workstation its.station

  within : c.summary-item.result.station < length (entries c.args.uncounted.now.contents.now.workstations)
  within = slice_get_within (entries c.args.uncounted.now.contents.now.workstations) c.summary-item.result.station (row.0.1.workstation, station.0) station.1

pub index-requires : goal.index-requires
index-requires c =
    let lt = within ((goal.at.index-requires c).After-summary-item) in
    omega (arith, lt, c.loop-summary.invariant.size, c.loop-summary.given.ok.0)

pub index_mut-requires : goal.index_mut-requires
index_mut-requires c =
    let lt = within ((goal.at.index_mut-requires c).After-summary-item) in
    omega (arith, lt, c.loop-summary.invariant.size, c.loop-summary.given.ok.0)

pub loop-summary-preserved : goal.loop-summary-preserved
loop-summary-preserved c =
    let a : After-summary-item = (goal.at.loop-summary-preserved c).After-summary-item in
    let P = c.args.uncounted.now.contents.now in
    let valid = c.workstations-stations.ensures.sound.valid in
    let stations = entries P.workstations in
    let given = c.loop-summary.given.items in
    let i = c.loop-summary.summary-index in
    let b = c.summary-item.result in
    let o = (row a).0.0 in
    let op = (row a).0.1 in
    let is = its a in
    let told = sym (server_told P op b is) ∙ sym c.holds_a_server.ensures in
    elim c.if-holds_a_server.branch [
      | then-holds_a_server w ↦
          let at = station a in
          let was = w.index.result.now in
          let there = read_at stations given (given_before P i) c.loop-summary.invariant b.station was (within a) w.index.ensures in
          let most = subst (IsAtMost most_given_out) (sym (c.loop-summary.invariant.each b.station op.workstation at.0 was at.1 there)) (before_at_most P valid i op.workstation) in
          let more : w.with_server.result ≡ with_one_more was op = w.with_server.ensures most ∙ (λ k. record { servers = was.servers + 1; r1 = was.r1 + is.r1 k; r2 = was.r2 + is.r2 k }) in
          rw (w.given-is, more)
          (row_counted P valid i o op (row a).1 given c.loop-summary.invariant (told ∙ w.if-holds_a_server.true) b.station at.0 at.1 was there)
      | else-holds_a_server w ↦
          rw w.given-is (row_passed P valid i o op (row a).1 given c.loop-summary.invariant (told ∙ w.if-holds_a_server.false))
    ]

pub returns : goal.returns
returns c =
    let P = c.args.uncounted.now.contents.now in
    let rows = entries P.operations in
    let n = c.loop-summary.summary-index in
    let past : length rows ≤ n = omega (arith, c.loop-summary-test.false, c.requires.size) in
    rows_counted P c.workstations-stations.ensures.sound.valid n c.loop-summary.given.items (take_all n rows past) c.loop-summary.invariant
