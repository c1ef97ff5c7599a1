use Rattle.std.proofs.Common.{◌≡◌, sym, ap, subst, ◌∙◌, arith, Some}
use Rattle.std.specs.FinMap.{entries, get}
use Rattle.plan_basics.specs.declared.keys.OpKey.{OpKey}
use Rattle.start_choice.proofs.GivenPlaces.{read_at}
use Rattle.plan_model.specs.Contents.{Contents}
use Rattle.plan_model.specs.Holdings.{given_out}
use Rattle.derived_figures.proofs.outlines.Outline.given_out_at.Goals as goal

pub workstation_place_of-place-requires : goal.workstation_place_of-place-requires
workstation_place_of-place-requires c = subst (λ (P : Contents). (o : OpKey) × (get P.operations o ≡ Some c.args.operation.now)) (sym c.self.view_is) c.requires

pub index-requires : goal.index-requires
index-requires c =
    let given = c.self.invariant.figures.given in
    omega (arith, given.size, c.self.inside.derived.figures.now.given.ok.0, c.workstation_place_of-place.ensures.within)

pub returns : goal.returns
returns c =
    let P = c.self.inside.uncounted.contents.now in
    let place = c.workstation_place_of-place.result in
    let at = c.workstation_place_of-place.ensures.at in
    let given = c.self.invariant.figures.given in
    let there = read_at (entries P.workstations) c.self.inside.derived.figures.now.given.items (given_out P) given place c.index.result.now c.workstation_place_of-place.ensures.within c.index.ensures in
    ap (λ (Q : Contents). given_out Q c.args.operation.now.workstation) (sym c.self.view_is) ∙ sym (given.each place c.args.operation.now.workstation at.0 c.index.result.now at.1 there)
