use Rattle.std.proofs.Common.{◌≡◌, refl, sym, ◌∙◌, ap, subst, arith, false, true, Some}
use Rattle.std.specs.FinMap.{get}
use Rattle.std.proofs.lemmas.Slice.Eq.{bytes_eq-Decides}
use Rattle.plan_basics.specs.Keys.{Name}
use Rattle.plan_model.specs.Contents.{Operation}
use Rattle.plan_model.specs.special_resources.specs.Holders.{Usage}
use Rattle.plan_model.specs.special_resources.specs.Needs.{usages_of}
use Rattle.plan_model.specs.special_resources.specs.declared.Need.{Need}
use Rattle.plan_outlooks.proofs.Deciding.{not_by, so_by}
use Rattle.plan_outlooks.proofs.IntervalsNeeds.{needed_here, needed_nowhere}
use Rattle.plan_outlooks.proofs.paths.needs_resource.Goals as goal

pub returns-then-eq : goal.returns-then-eq
returns-then-eq c =
    let needs = c.args.operation.now.needs in
    let items = c.as_slice-need-items.result.now in
    let item = c.need-item.result in
    let same : needs ≡ usages_of items = ap (λ (op : Operation). op.needs) (sym c.operation.view_is) ∙ c.as_slice-need-items.ensures.usages in
    let name = ap (λ (z : Need). z.name) (sym c.need-item.is) ∙ (bytes_eq-Decides item.name c.args.name.now).0 (sym c.eq.ensures ∙ c.if-eq.true) in
    so_by ((x : Usage) × (get needs c.args.name.now ≡ Some x)) true refl
    (subst (λ (r : Name). (x : Usage) × (get needs r ≡ Some x)) name (needed_here needs items same c.as_slice-need-items.ensures.in_order c.loop-need.need-index item c.loop-need-test.true))

pub returns : goal.returns
returns c =
    let needs = c.args.operation.now.needs in
    let items = c.as_slice-need-items.result.now in
    let same : needs ≡ usages_of items = ap (λ (op : Operation). op.needs) (sym c.operation.view_is) ∙ c.as_slice-need-items.ensures.usages in
    let past = c.loop-need-test.false in
    not_by ((x : Usage) × (get needs c.args.name.now ≡ Some x)) false refl
    (λ h. needed_nowhere needs items same c.as_slice-need-items.ensures.in_order (λ r. r ≡ c.args.name.now) (λ k d lt. c.loop-need.invariant k d (omega (arith, lt, past))) c.args.name.now h.0 h.1 refl)
