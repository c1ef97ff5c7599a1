use Rattle.std.proofs.Common.{◌≡◌, sym, ap, ◌∙◌, Some, option_map, slice_get}
use Rattle.std.specs.FinMap.{entries, get}
use Rattle.std.proofs.lemmas.Option.{same_Some}
use Rattle.plan_basics.specs.declared.keys.OpKey.{OpKey}
use Rattle.plan_status.proofs.LoadedRows.{row_found}
use Rattle.plan_status.specs.plan_model.specs.Contents.{Contents, Operation}
use Rattle.plan_status.specs.plan_model.specs.Markings.{marking_of}
use Rattle.counted_records.proofs.counted.CountedRecords.marking_of.Goals as goal

pub returns-clause-marking : goal.returns-clause-marking
returns-clause-marking c =
    let P = c.args.self.now.contents in
    let place = c.known_operation_place-place.result in
    let o = c.see-seen.result.key.now in
    let op = c.see-seen.result.operation.now in
    let at = c.known_operation_place-place.ensures.at in
    let there = ap (λ (Q : Contents). slice_get (entries Q.operations) place) (sym c.uncounted.ensures.contents) ∙ at.1 in
    let key : o ≡ c.args.key.now = ap (λ (row : OpKey × Operation). row.0) (same_Some (o, op) (c.args.key.now, at.0) (sym c.see-seen.ensures.row ∙ there)) in
    ap (option_map marking_of) (ap (get P.operations) (sym key) ∙ row_found P place o op c.see-seen.ensures.row) ∙ ap Some (sym c.of.ensures)
