use Rattle.std.proofs.Common.{arith, refl, ◌∙◌, ◌<◌, sym, ap, subst, length, take, get_or}
use Rattle.std.specs.FinMap.{entries}
use Rattle.std.proofs.lemmas.List.{take_all, take_more}
use Rattle.std.proofs.lemmas.List.Elements.{All-contains, Contains-get_or}
use Rattle.std.proofs.lemmas.Option.{slice_get-get_or}
use Rattle.plan_model.specs.Contents.{Contents}
use Rattle.start_choice.specs.Choices.{AreLatestStarts}
use Rattle.derived_figures.specs.UnknownPlaces.{unknown_places}
use Rattle.derived_figures.specs.Entries.{AreEntriesAt, IsEntryAt}
use Rattle.derived_figures.proofs.Noted.{all_noted, none_noted, one_noted}
use Rattle.derived_figures.proofs.PlacesUnknown.{one_beside}
use Rattle.derived_figures.proofs.entries.entries_at.Goals as goal

pub loop-place-init : goal.loop-place-init
loop-place-init c = record {
  contents = refl;
  fewest = omega arith;
  most = omega arith;
  noted = none_noted c.args.records.now.contents c.args.places.now c.args.noted.now.items c.requires.none_noted;
  space = c.requires.space;
  within = omega arith;
}

pub entry_of-entry-requires-clause-within : goal.entry_of-entry-requires-clause-within
entry_of-entry-requires-clause-within c =
    let places = c.args.places.now in
    let p = get_or places c.loop-place.place-index 0 in
    subst (λ (Q : Contents). p < length (entries Q.operations)) (sym c.loop-place.invariant.contents)
    (All-contains (λ i. i < length (entries c.args.records.now.contents.operations)) places p c.requires.within (Contains-get_or places c.loop-place.place-index 0 c.loop-place-test.true))

pub entry_of-entry-requires-clause-latest : goal.entry_of-entry-requires-clause-latest
entry_of-entry-requires-clause-latest c = subst (λ (Q : Contents). AreLatestStarts Q c.args.latest.now.starts) (sym c.loop-place.invariant.contents) c.requires.latest

pub entry_of-entry-requires-clause-known : goal.entry_of-entry-requires-clause-known
entry_of-entry-requires-clause-known c = subst (λ (Q : Contents). AreEntriesAt Q c.args.known_at.now c.args.known.now) (sym c.loop-place.invariant.contents) c.requires.known

pub loop-place-preserved : goal.loop-place-preserved
loop-place-preserved c =
    let Q = c.args.records.now.contents in
    let places = c.args.places.now in
    let known = c.args.known_at.now in
    let n = c.loop-place.place-index in
    let p = get_or places n 0 in
    let inv = c.loop-place.invariant in
    let entry = c.entry_of-entry in
    let more = ap (λ ps. length (unknown_places known ps)) (take_more places n 0 c.loop-place-test.true) ∙ one_beside known (take n places) p in
    record {
      contents = entry.ensures.contents ∙ inv.contents;
      fewest = omega (arith, entry.ensures.fewest, inv.fewest);
      most = omega (arith, entry.ensures.most, inv.most, more);
      noted = rw (c.push_reserved.ensures.items)
          (one_noted Q places n c.loop-place.noted.items inv.noted p (slice_get-get_or places n 0 c.loop-place-test.true) entry.result
          (subst (λ (R : Contents). IsEntryAt R p entry.result) inv.contents entry.ensures.entry));
      space = omega (arith, inv.space, c.push_reserved.ensures.capacity);
      within = omega (arith, c.loop-place-test.true);
    }

pub returns-clause-noted : goal.returns-clause-noted
returns-clause-noted c =
    all_noted c.args.records.now.contents c.args.places.now c.loop-place.place-index c.loop-place.noted.items c.loop-place.invariant.noted
    (omega (arith, c.loop-place.invariant.within, c.loop-place-test.false))

pub returns-clause-most : goal.returns-clause-most
returns-clause-most c =
    let all = ap (λ ps. length (unknown_places c.args.known_at.now ps)) (take_all c.loop-place.place-index c.args.places.now c.loop-place-test.false) in
    omega (arith, c.loop-place.invariant.most, all)
