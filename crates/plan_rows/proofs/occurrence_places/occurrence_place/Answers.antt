use Rattle.std.proofs.Common.{◌≡◌, ap, subst, slice_get, is_some, Some}
use Rattle.std.specs.FinMap.{entries}
use Rattle.plan_model.specs.Contents.{Contents}
use Rattle.derived_figures.specs.plan_status.proofs.LoadedRows.{row_found}
use Rattle.plan_rows.proofs.occurrence_places.occurrence_place.Goals as goal

pub occurrence_place_of-requires : goal.occurrence_place_of-requires
occurrence_place_of-requires c =
    let (op, at) = c.operation_key-operation.ensures.key in
    ap is_some (row_found c.uncounted-uncounted.result.contents.now c.args.place c.operation_key-operation.result.now op at)

pub returns : goal.returns
returns c =
    let o = c.operation_key-operation.result.now in
    let p = c.occurrence_place_of.result in
    let (op, at) = c.operation_key-operation.ensures.key in
    let (terms, there) = c.occurrence_place_of.ensures.at in
    let same = c.uncounted-uncounted.ensures.contents in
    record {
      o = o;
      op = op;
      terms = terms;
      operation = subst (λ (P : Contents). slice_get (entries P.operations) c.args.place ≡ Some (o, op)) same at;
      occurrence = subst (λ (P : Contents). slice_get (entries P.occurrences) p ≡ Some (o.occurrence, terms)) same there;
    }
