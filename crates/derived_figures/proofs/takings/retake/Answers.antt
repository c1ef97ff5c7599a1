use Rattle.std.proofs.Common.{◌≡◌, refl, sym, ap, subst, ◌∙◌, arith, ◌+◌, ◌<◌, get_or, length, slice_get, Some}
use Rattle.std.proofs.lemmas.List.Elements.{Contains-get_or}
use Rattle.std.proofs.lemmas.Option.{slice_get-get_or}
use Rattle.std.specs.FinMap.{entries}
use Rattle.plan_model.specs.Contents.{Contents}
use Rattle.derived_figures.specs.TakingsBefore.{IsBeforeAt}
use Rattle.derived_figures.specs.Between.{AreGivenBetween, AreHeldBetween}
use Rattle.derived_figures.proofs.Remarked.{as_many_stations, remarked_by_move}
use Rattle.derived_figures.proofs.Retaking.{before_next, given_at_last, gone_past, held_at_last, none_gone_through}
use Rattle.derived_figures.proofs.takings.retake.Goals as goal

pub loop-index-init : goal.loop-index-init
loop-index-init c = record {
  contents = refl;
  fewest = omega arith;
  most = omega arith;
  between = none_gone_through c.args.records.now.contents c.args.places.now c.args.marks.now c.args.given.now c.args.holdings.now.held c.requires.before;
}

pub retake_at-requires-clause-within : goal.retake_at-requires-clause-within
retake_at-requires-clause-within c =
    let place = get_or c.args.places.now c.loop-index.index 0 in
    subst (λ (Q : Contents). place < length (entries Q.operations)) (sym c.loop-index.invariant.contents)
    (c.requires.within place (Contains-get_or c.args.places.now c.loop-index.index 0 c.loop-index-test.true))

pub retake_at-requires-clause-stations : goal.retake_at-requires-clause-stations
retake_at-requires-clause-stations c =
    let inv = c.loop-index.invariant in
    let between = inv.between in
    let as_many = as_many_stations between.plan c.args.records.now.contents (remarked_by_move between.plan c.args.records.now.contents c.args.places.now between.moved) in
    subst (λ (Q : Contents). length c.loop-index.given ≡ length (entries Q.workstations)) (sym inv.contents) (between.retaken.are_given.size ∙ as_many)

pub loop-index-preserved : goal.loop-index-preserved
loop-index-preserved c =
    let Q = c.args.records.now.contents in
    let places = c.args.places.now in
    let marks = c.args.marks.now in
    let k = c.loop-index.index in
    let given = c.loop-index.given in
    let held = c.loop-index.holdings.held in
    let inv = c.loop-index.invariant in
    let so_far = inv.between in
    let place = get_or places k 0 in
    let at = slice_get-get_or places k 0 c.loop-index-test.true in
    let within = c.requires.within place (Contains-get_or places k 0 c.loop-index-test.true) in
    let marking = c.index-marks-index.result in
    let there : slice_get marks k ≡ Some marking = slice_get-get_or marks k marking (omega (arith, so_far.marked.size, c.loop-index-test.true)) ∙ ap Some (sym c.index-marks-index.is) in
    let before = before_next Q places marks k given held so_far c.requires.ascending place at within marking there in
    let given_on = subst (λ (R : Contents). (P : Contents) → IsBeforeAt P R place marking given held → AreGivenBetween P R (place + 1) c.retake_at.new.given) inv.contents c.in_ok-retake_at.ensures.given in
    let held_on = subst (λ (R : Contents). (P : Contents) → IsBeforeAt P R place marking given held → AreHeldBetween P R (place + 1) c.retake_at.new.holdings.held) inv.contents c.in_ok-retake_at.ensures.held in
    record {
      contents = c.in_ok-retake_at.ensures.contents ∙ inv.contents;
      fewest = omega (arith, c.in_ok-retake_at.ensures.fewest, inv.fewest);
      most = omega (arith, c.in_ok-retake_at.ensures.most, inv.most);
      between = gone_past Q places marks k given held so_far c.requires.ascending place at within c.retake_at.new.given c.retake_at.new.holdings.held
          (given_on so_far.plan before) (held_on so_far.plan before);
    }

pub returns-clause-given : goal.returns-clause-given
returns-clause-given c =
    given_at_last c.args.records.now.contents c.args.places.now c.args.marks.now c.loop-index.index c.loop-index.given c.loop-index.holdings.held c.loop-index.invariant.between
    (omega (arith, c.loop-index-test.false))

pub returns-clause-held : goal.returns-clause-held
returns-clause-held c =
    held_at_last c.args.records.now.contents c.args.places.now c.args.marks.now c.loop-index.index c.loop-index.given c.loop-index.holdings.held c.loop-index.invariant.between
    (omega (arith, c.loop-index-test.false))
