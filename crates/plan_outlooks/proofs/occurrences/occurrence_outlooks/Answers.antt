use Rattle.std.proofs.Common.{◌≡◌, refl, sym, ◌∙◌, ap, subst, arith, ◌+◌, ◌≤◌, List, Some, length, slice_get}
use Rattle.std.specs.FinMap.{entries}
use Rattle.std.proofs.lemmas.Option.{slice_get_read}
use Rattle.plan_basics.specs.declared.keys.OccKey.{OccKey}
use Rattle.plan_model.specs.Contents.{Contents}
use Rattle.plan_model.specs.declared.Occurrence.{Occurrence}
use Rattle.plan_outlooks.proofs.OccurrencesListed.{OccurrencesUpTo, no_occurrences_yet, occurrence_at, occurrence_more, occurrences_listed}
use Rattle.plan_outlooks.proofs.occurrences.occurrence_outlooks.Goals as goal

pub loop-place-init : goal.loop-place-init
loop-place-init c = λ F lent. subst (OccurrencesUpTo F 0) (sym c.new-rows.ensures.items) (no_occurrences_yet F)

pub occurrence_outlook-requires : goal.occurrence_outlook-requires
occurrence_outlook-requires c =
    let (F, lent) = c.requires in
    let place = c.loop-place.place in
    let xs = c.occurrences-occurrences.result.now in
    let row = c.index-occurrences-place.result in
    let same = c.occurrences-occurrences.ensures.rows ∙ ap (λ (P : Contents). entries P.occurrences) (c.contents.ensures.contents ∙ lent.plan) in
    let there = slice_get_read xs (length xs) place row refl c.loop-place-test.true c.index-occurrences-place.is in
    (F, lent, occurrence_at F place row.0 row.1 (subst (λ (ys : List (OccKey × Occurrence)). slice_get ys place ≡ Some row) same there))

pub loop-place-preserved : goal.loop-place-preserved
loop-place-preserved c = λ F lent.
    let place = c.loop-place.place in
    let xs = c.occurrences-occurrences.result.now in
    let row = c.index-occurrences-place.result in
    let same = c.occurrences-occurrences.ensures.rows ∙ ap (λ (P : Contents). entries P.occurrences) (c.contents.ensures.contents ∙ lent.plan) in
    let there = slice_get_read xs (length xs) place row refl c.loop-place-test.true c.index-occurrences-place.is in
    subst (OccurrencesUpTo F (place + 1)) (sym c.in_ok-note.ensures)
    (occurrence_more F place row.0 row.1 (subst (λ (ys : List (OccKey × Occurrence)). slice_get ys place ≡ Some row) same there) c.loop-place.rows.items (c.loop-place.invariant F lent) c.occurrence_outlook.result (c.occurrence_outlook.ensures F lent))

pub returns : goal.returns
returns c = λ F lent.
    let same = c.occurrences-occurrences.ensures.rows ∙ ap (λ (P : Contents). entries P.occurrences) (c.contents.ensures.contents ∙ lent.plan) in
    let past = c.loop-place-test.false in
    let all : length (entries F.plan.contents.occurrences) ≤ c.loop-place.place = subst (λ (ys : List (OccKey × Occurrence)). length ys ≤ c.loop-place.place) same (omega (arith, past)) in
    occurrences_listed F c.loop-place.place all c.loop-place.rows.items (c.loop-place.invariant F lent)
