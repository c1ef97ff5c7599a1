use Rattle.std.proofs.Common.{sym, subst, eqb, arith, get_or}
use Rattle.std.specs.List.{AllZip}
use Rattle.std.proofs.lemmas.List.{get_or_default, take_all}
use Rattle.std.proofs.lemmas.List.Elements.{Contains-get_or, all_zip_more}
use Rattle.std.proofs.lemmas.List.Filters.{dedup_is}
use Rattle.plan_rows.proofs.OccurrencesOf.{are_occurrences_of}
use Rattle.plan_rows.proofs.occurrence_places.occurrence_places.Goals as goal
use Rattle.plan_rows.specs.Touched.{AreOccurrencesOf, BelongsAt}

pub occurrence_place-requires : goal.occurrence_place-requires
occurrence_place-requires c = c.requires.within _ (Contains-get_or c.args.touched.now c.loop-place.place-index 0 c.loop-place-test.true)

pub loop-place-preserved : goal.loop-place-preserved
loop-place-preserved c =
    let touched = c.args.touched.now in
    let k = c.loop-place.place-index in
    let i = get_or touched k 0 in
    rw c.in_ok-push.ensures.items
    (all_zip_more (BelongsAt c.args.records.now.contents) touched c.loop-place.places.items k i c.occurrence_place.result c.loop-place-test.true (get_or_default touched k 0 i c.loop-place-test.true) c.loop-place.invariant c.occurrence_place.ensures)

pub returns : goal.returns
returns c =
    let P = c.args.records.now.contents in
    let touched = c.args.touched.now in
    let end = c.loop-place-test.false in
    let belong = subst (λ taken. AllZip (BelongsAt P) taken c.loop-place.places.items) (take_all c.loop-place.place-index touched (omega (arith, end))) c.loop-place.invariant in
    subst (AreOccurrencesOf P touched) (sym (dedup_is eqb c.loop-place.places.items _ c.dedup.ensures.filtered)) (are_occurrences_of P touched c.requires.ascend c.loop-place.places.items belong)
