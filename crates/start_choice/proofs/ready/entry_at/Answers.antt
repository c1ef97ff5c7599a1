use Rattle.std.specs.FinMap.{entries}
use Rattle.std.proofs.Common.{arith, ◌≡◌, ◌<◌, refl, sym, ap, ◌∙◌, w64, FitsSigned, to_z, of_z, rules, Some, length, slice_get}
use Rattle.std.proofs.lemmas.Int.{ints}
use Rattle.std.proofs.lemmas.Option.{same_Some, slice_get_within, some_pair_parts}
use Rattle.plan_basics.specs.Keys.{Name}
use Rattle.counted_records.specs.plan_status.proofs.Summarized.{summary_there}
use Rattle.counted_records.specs.plan_status.proofs.LoadedRows.{row_found}
use Rattle.counted_records.specs.plan_status.proofs.RowKeys.{row_of_key, row_lent}
use Rattle.counted_records.specs.plan_status.specs.Summaries.{IsSummaryOf}
use Rattle.plan_model.specs.Contents.{Operation}
use Rattle.workstations.specs.Workstations.{Workstation}
use Rattle.start_choice.proofs.Readied.{has_entry}
use Rattle.start_choice.proofs.ready.entry_at.Goals as goal
use Rattle.start_choice.proofs.ready.entry_at.Goals.{After-index-summaries-place}

pub operation_key-key-requires : goal.operation_key-key-requires
operation_key-key-requires c = omega (arith, c.requires.within, c.requires.summaries.size)

pub of-requires : goal.of-requires
of-requires c = omega (arith, c.requires.within, c.requires.summaries.size, c.requires.latest.size)

pub priority_of-requires : goal.priority_of-requires
priority_of-requires c =
    let row = c.operation_key-key.ensures.key in
    (row.0, row_found c.args.uncounted.now.contents.now c.args.place c.operation_key-key.result.now row.0 row.1)

module _ (c : After-index-summaries-place) where
  -- the operation of the place
  row : (op : Operation) × (slice_get (entries c.args.uncounted.now.contents.now.operations) c.args.place ≡ Some (c.operation_key-key.result.now, op))
  row = c.operation_key-key.ensures.key

  -- its summary
  its : IsSummaryOf c.args.uncounted.now.contents.now row.0 c.index-summaries-place.result
  its =
      summary_there c.args.uncounted.now.contents.now c.args.summaries.now c.requires.summaries c.args.place c.operation_key-key.result.now row.0 c.index-summaries-place.result row.1
      (row_lent c.args.summaries.now c.args.summaries.now refl c.args.place c.index-summaries-place.result c.requires.within c.index-summaries-place.is)

  -- and the row of its workstation
  station : (ws : Workstation) × (slice_get (entries c.args.uncounted.now.contents.now.workstations) c.index-summaries-place.result.station ≡ Some (row.0.workstation, ws))
  station = row_of_key (entries c.args.uncounted.now.contents.now.workstations) c.index-summaries-place.result.station row.0.workstation its.station

  within : c.index-summaries-place.result.station < length (entries c.args.uncounted.now.contents.now.workstations)
  within = slice_get_within (entries c.args.uncounted.now.contents.now.workstations) c.index-summaries-place.result.station (row.0.workstation, station.0) station.1

pub bounds-workstations-summary : goal.bounds-workstations-summary
bounds-workstations-summary c =
    let lt = within ((goal.at.bounds-workstations-summary c).After-index-summaries-place) in
    omega (arith, lt, ap length c.workstations.ensures.rows)

pub returns-clause-op : goal.returns-clause-op
returns-clause-op c o op at =
    let row = c.operation_key-key.ensures.key in
    (some_pair_parts c.operation_key-key.result.now o row.0 op (sym row.1 ∙ at)).0

pub returns-clause-entry : goal.returns-clause-entry
returns-clause-entry c =
    let a : After-index-summaries-place = (goal.at.returns-clause-entry c).After-index-summaries-place in
    let P = c.args.uncounted.now.contents.now in
    let key = c.operation_key-key.result.now in
    let op = (row a).0 in
    let is = its a in
    let b = c.index-summaries-place.result in
    let fits : FitsSigned w64 c.of.result = search rules in
    let latest : to_z w64 (of_z w64 c.of.result) ≡ c.of.result = omega (arith, ints, fits) in
    let start = c.requires.latest.each c.args.place key op c.of.result (row a).1 c.of.ensures in
    let ws = c.index-workstations-summary.result in
    let lt : b.station < length c.workstations.result.now = omega (arith, within a, ap length c.workstations.ensures.rows) in
    let at = row_lent c.workstations.result.now (entries P.workstations) c.workstations.ensures.rows b.station ws lt c.index-workstations-summary.is in
    let name : c.name.result ≡ op.workstation = c.name.ensures ∙ ap (λ (z : Name × Workstation). z.0) (same_Some ws (op.workstation, (station a).0) (sym at ∙ (station a).1)) in
    has_entry P key op c.of.result b.station c.args.place (row_found P c.args.place key op (row a).1) refl latest is.duration c.priority_of.ensures name is.attribute is.station start
