use Rattle.std.proofs.Common.{◌≡◌, sym, ◌∙◌, ap, subst, ◌+◌, ◌++◌, ◌∷◌, [], take, List, slice_get, Some}
use Rattle.std.proofs.lemmas.List.{take_more}
use Rattle.std.proofs.lemmas.Option.{slice_get-get_or}
use Rattle.plan_outlooks.specs.Paths.{AreLatePaths}
use Rattle.plan_outlooks.specs.declared.rows.OccurrenceOutlook.{OccurrenceOutlook}
use Rattle.plan_outlooks.specs.declared.rows.PathMember.{PathMember}
use Rattle.plan_outlooks.proofs.PathsListed.{paths_more, row_told}
use Rattle.plan_outlooks.proofs.paths.late_paths.Goals as goal

pub late_path-requires : goal.late_path-requires
late_path-requires c =
    let (F, lent, are) = c.requires in
    let rows = c.args.occurrences.now in
    let i = c.loop-late.late-index in
    let item = c.late-item.result in
    let at : slice_get rows i ≡ Some item = slice_get-get_or rows i item c.loop-late-test.true ∙ ap Some (sym c.late-item.is) in
    let told = row_told F rows are i item at in
    (F, lent, told.0, told.1)

pub loop-late-preserved : goal.loop-late-preserved
loop-late-preserved c = λ F lent are.
    let rows = c.args.occurrences.now in
    let i = c.loop-late.late-index in
    let item = c.late-item.result in
    let paths = c.loop-late.paths.items in
    let path = c.in_ok-late_path.field-0.items in
    let at : slice_get rows i ≡ Some item = slice_get-get_or rows i item c.loop-late-test.true ∙ ap Some (sym c.late-item.is) in
    let told = row_told F rows are i item at in
    let more = paths_more F (take i rows) paths item path (c.loop-late.invariant F lent are) (c.in_ok-late_path.ensures F lent told.0 told.1) in
    let taken : take (i + 1) rows ≡ take i rows ++ item ∷ [] = take_more rows i item c.loop-late-test.true ∙ ap (λ (r : OccurrenceOutlook). take i rows ++ r ∷ []) (sym c.late-item.is) in
    subst (λ (ps : List PathMember). AreLatePaths F (take (i + 1) rows) ps) (sym c.in_ok-note_all.ensures) (subst (λ (rs : List OccurrenceOutlook). AreLatePaths F rs (paths ++ path)) (sym taken) more)
