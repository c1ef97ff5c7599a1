use Rattle.std.proofs.Common.{arith, ◌<◌, length, get_or}
use Rattle.std.specs.FinMap.{entries}
use Rattle.std.proofs.lemmas.List.Elements.{All-contains, Contains-get_or}
use Rattle.std.proofs.lemmas.Option.{slice_get-get_or}
use Rattle.derived_figures.proofs.Noted.{all_noted, none_noted, one_noted}
use Rattle.derived_figures.proofs.entries.entries_by_summaries.Goals as goal

pub loop-place-init : goal.loop-place-init
loop-place-init c = record {
  noted = none_noted c.args.uncounted.now.contents.now c.args.places.now c.in_ok-found.found.items c.in_ok-found.ensures.items;
  within = omega arith;
}

pub entry_by_summary-requires-clause-within : goal.entry_by_summary-requires-clause-within
entry_by_summary-requires-clause-within c =
    let places = c.args.places.now in
    All-contains (λ i. i < length (entries c.args.uncounted.now.contents.now.operations)) places (get_or places c.loop-place.place-index 0) c.requires.within (Contains-get_or places c.loop-place.place-index 0 c.loop-place-test.true)

pub loop-place-preserved : goal.loop-place-preserved
loop-place-preserved c =
    let places = c.args.places.now in
    let n = c.loop-place.place-index in
    let inv = c.loop-place.invariant in
    record {
      noted = rw c.in_ok-push.ensures.items
          (one_noted c.args.uncounted.now.contents.now places n c.loop-place.found.items inv.noted (get_or places n 0) (slice_get-get_or places n 0 c.loop-place-test.true) c.entry_by_summary.result c.entry_by_summary.ensures);
      within = omega (arith, c.loop-place-test.true);
    }

pub returns : goal.returns
returns c =
    all_noted c.args.uncounted.now.contents.now c.args.places.now c.loop-place.place-index c.loop-place.found.items c.loop-place.invariant.noted
    (omega (arith, c.loop-place.invariant.within, c.loop-place-test.false))
