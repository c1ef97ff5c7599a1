use Rattle.std.proofs.Common.{◌≡◌, Some, slice_get, slice_index_or, sym, ap, subst, ◌∙◌}
use Rattle.std.proofs.lemmas.Option.{same_Some, slice_get-get_or}
use Rattle.std.specs.FinMap.{entries}
use Rattle.plan_basics.specs.declared.keys.OccKey.{OccKey}
use Rattle.plan_model.specs.declared.Occurrence.{Occurrence}
use Rattle.plan_rows.proofs.KeyedRows.{keyed_row}
use Rattle.plan_rows.proofs.SourceRows.{occurrence_at}
use Rattle.plan_rows.proofs.occurrences.row_of.Goals as goal
use Rattle.plan_rows.specs.Rows.{keyed_occurrences}
use Rattle.status_rules.specs.declared.Counts.{Counts}

pub returns : goal.returns
returns c = λ s source terms_are numbers_are.
    let i = c.args.place in
    let rows = c.args.occurrences.now in
    let x = slice_index_or rows i c.index-occurrences-place.result in
    let y = slice_index_or rows i c.index-occurrences-place-2.result in
    let one = slice_get-get_or rows i c.index-occurrences-place.result c.requires.terms in
    let other = slice_get-get_or rows i c.index-occurrences-place-2.result c.requires.terms in
    let kept : slice_get (entries s.contents.now.occurrences) i ≡ Some (x.0, y.1) = subst (λ xs. slice_get xs i ≡ Some (x.0, y.1)) terms_are (one ∙ ap (λ (z : OccKey × Occurrence). Some (x.0, z.1)) (same_Some x y (sym one ∙ other))) in
    let none : Counts = record { all = 0; deleted = 0; error = 0; undecided = 0; complete = 0; started = 0 } in
    let number = slice_index_or c.args.tallies.now i none in
    let numbers = subst (λ xs. slice_get xs i ≡ Some number) numbers_are (slice_get-get_or c.args.tallies.now i none c.requires.numbers) in
    keyed_row (keyed_occurrences s) i x.0 _ (occurrence_at s source i x.0 y.1 number c.occurrence_status_with.result kept numbers c.occurrence_status_with.ensures)
