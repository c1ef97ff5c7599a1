use Rattle.std.proofs.Common.{rules, ◌≡◌, ◌<◌, Some, length, slice_get, slice_index_or, false, sym, ap, subst, ◌∙◌, arith, w64, FitsSigned, to_z, of_z}
use Rattle.std.proofs.lemmas.Int.{ints}
use Rattle.std.proofs.lemmas.Option.{same_Some, slice_get-get_or}
use Rattle.std.specs.FinMap.{entries, get}
use Rattle.plan_basics.specs.declared.keys.OpKey.{OpKey}
use Rattle.plan_model.specs.Contents.{Operation}
use Rattle.plan_opening.specs.plan_status.proofs.LoadedRows.{its_occurrence}
use Rattle.plan_opening.specs.plan_status.proofs.Workplaces.{there}
use Rattle.plan_opening.specs.plan_status.specs.declared.standings.Standing.{Standing}
use Rattle.status_rules.specs.declared.Status.TheVariants.{Started}
use Rattle.plan_core.proofs.OpViews.{op_view_at, row_in_plan}
use Rattle.plan_core.proofs.views.op_view.Goals as goal
use Rattle.plan_core.proofs.views.op_view.Goals.{After-operations}

-- the row at the index, whatever is read where there is none
row : (c : After-operations) (d : OpKey × Operation) → slice_get (entries c.args.source.contents.now.operations) c.args.place ≡ Some (slice_index_or c.operations.result.now c.args.place d)
row c d =
    let rows = c.operations.ensures.rows in
    let within : c.args.place < length c.operations.result.now = subst (λ xs. c.args.place < length xs) (sym rows) c.requires.within in
    subst (λ xs. slice_get xs c.args.place ≡ Some (slice_index_or c.operations.result.now c.args.place d)) rows (slice_get-get_or c.operations.result.now c.args.place d within)

pub unwrap-occurrence-requires : goal.unwrap-occurrence-requires
unwrap-occurrence-requires c =
    let P = c.args.source.contents.now in
    let at = (goal.at.unwrap-occurrence-requires c).After-operations in
    let x = slice_index_or c.operations.result.now c.args.place c.index-operations-place.result in
    let is = row_in_plan c.args.source c.requires.source c.args.place x.0 x.1 (row at c.index-operations-place.result) in
    there c.occurrence.result (get P.occurrences x.0.occurrence) c.occurrence.ensures.absent (its_occurrence P c.requires.source.sound.valid x.0 x.1 is)

pub returns : goal.returns
returns c =
    let s = c.args.source in
    let source = c.requires.source in
    let i = c.args.place in
    let at = (goal.at.returns c).After-operations in
    let x = slice_index_or c.operations.result.now i c.index-operations-place.result in
    let y = slice_index_or c.operations.result.now i c.index-operations-place-2.result in
    let same = same_Some y x (sym (row at c.index-operations-place-2.result) ∙ row at c.index-operations-place.result) in
    let view_is = c.operation.view_is ∙ ap (λ (z : OpKey × Operation). z.1) same in
    let within = c.requires.within in
    let none : Standing = record { preds = record { live = false; satisfied = false; nonreporting = false }; waiting = 0 } in
    let standing = slice_get-get_or s.standings.now i none (omega (arith, within, source.standings.size)) in
    let status = slice_get-get_or s.statuses.now i Started (omega (arith, within, source.statuses.size)) in
    let fits : FitsSigned w64 c.of.result = search rules in
    let back : to_z w64 (of_z w64 c.of.result) ≡ c.of.result = omega (arith, ints, fits) in
    op_view_at s source i x.0 _ (slice_index_or s.standings.now i none) (slice_index_or s.statuses.now i Started) (to_z w64 (of_z w64 c.of.result)) c.unwrap-occurrence.result.now
    (row at c.index-operations-place.result ∙ ap (λ z. Some (x.0, z)) (sym view_is))
    standing
    status
    (c.of.ensures ∙ ap Some (sym back))
    (rw c.unwrap-occurrence.ensures at c.occurrence.ensures.found)
