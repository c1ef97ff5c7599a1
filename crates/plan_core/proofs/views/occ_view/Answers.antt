use Rattle.std.proofs.Common.{◌≡◌, ◌<◌, Some, length, slice_get, slice_index_or, sym, ap, subst, ◌∙◌, arith}
use Rattle.std.proofs.lemmas.Option.{same_Some, slice_get-get_or}
use Rattle.std.specs.FinMap.{entries}
use Rattle.plan_basics.specs.declared.keys.OccKey.{OccKey}
use Rattle.plan_model.specs.declared.Occurrence.{Occurrence}
use Rattle.status_rules.specs.declared.Counts.{Counts}
use Rattle.plan_core.proofs.OccViews.{occ_view_at}
use Rattle.plan_core.proofs.views.occ_view.Goals as goal

pub returns : goal.returns
returns c =
    let s = c.args.source in
    let i = c.args.place in
    let rows = c.occurrences.result.now in
    let within : i < length rows = subst (λ xs. i < length xs) (sym c.occurrences.ensures.rows) c.requires.within in
    let x = slice_index_or rows i c.index-occurrences-place.result in
    let y = slice_index_or rows i c.index-occurrences-place-2.result in
    let one = slice_get-get_or rows i c.index-occurrences-place.result within in
    let other = slice_get-get_or rows i c.index-occurrences-place-2.result within in
    let row : slice_get (entries s.contents.now.occurrences) i ≡ Some (x.0, y.1) = subst (λ xs. slice_get xs i ≡ Some (x.0, y.1)) c.occurrences.ensures.rows (one ∙ ap (λ (z : OccKey × Occurrence). Some (x.0, z.1)) (same_Some x y (sym one ∙ other))) in
    let none : Counts = record { all = 0; deleted = 0; error = 0; undecided = 0; complete = 0; started = 0 } in
    let numbers = slice_get-get_or s.tallies.now i none (let size = c.requires.source.tallies.size in let lt = c.requires.within in omega (arith, lt, size)) in
    occ_view_at s c.requires.source i x.0 y.1 (slice_index_or s.tallies.now i none) c.occurrence_status_with.result row numbers c.occurrence_status_with.ensures
