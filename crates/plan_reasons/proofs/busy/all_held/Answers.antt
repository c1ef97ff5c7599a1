use Rattle.std.proofs.Common.{◌≡◌, ◌+◌, ◌++◌, ◌∷◌, [], sym, ap, subst, ◌∙◌, take}
use Rattle.std.specs.declared.cmp.Ordering.TheVariants.{Less}
use Rattle.std.proofs.lemmas.List.{take_all, take_more}
use Rattle.plan_basics.specs.Keys.{name_cmp}
use Rattle.special_resources.specs.Needs.{usages_of}
use Rattle.special_resources.specs.declared.Need.{Need}
use Rattle.plan_model.specs.Contents.{Operation}
use Rattle.plan_reasons.proofs.Needing.{named_before}
use Rattle.plan_reasons.proofs.Obstructing.{IsObstructed, obstacles_found, one_need_more}
use Rattle.plan_reasons.proofs.busy.all_held.Goals as goal

pub loop-need-preserved : goal.loop-need-preserved
loop-need-preserved c =
    let o = c.args.key.now in
    let held = c.args.holdings.now.held in
    let needs = c.as_slice-need-items.result.now in
    let i = c.loop-need.need-index in
    let need = c.need-item.result in
    let found = c.loop-need.reasons.items in
    let more : take (i + 1) needs ≡ take i needs ++ need ∷ [] = take_more needs i need c.loop-need-test.true ∙ ap (λ (n : Need). take i needs ++ n ∷ []) (sym c.need-item.is) in
    subst (λ ns. IsObstructed o held ns c.note_holders.new.reasons.items) (sym more)
    (subst (IsObstructed o held (take i needs ++ need ∷ [])) (sym c.in_ok-note_holders.ensures)
    (one_need_more o held (take i needs) found c.loop-need.invariant need c.holders.result.now c.holders.ensures.members c.holders.ensures.in_order (λ n has.
    subst (λ (x : Need). name_cmp n.name x.name ≡ Less) (sym c.need-item.is) (named_before needs c.as_slice-need-items.ensures.in_order i need c.loop-need-test.true n has))))

pub returns : goal.returns
returns c P m start holders =
    let o = c.args.key.now in
    let op = c.args.operation.now in
    let held = c.args.holdings.now.held in
    let needs = c.as_slice-need-items.result.now in
    let found = c.loop-need.reasons.items in
    let are : op.needs ≡ usages_of needs = ap (λ (x : Operation). x.needs) (sym c.operation.view_is) ∙ c.as_slice-need-items.ensures.usages in
    obstacles_found P o op m start held holders needs c.as_slice-need-items.ensures.in_order are found
    (subst (λ ns. IsObstructed o held ns found) (take_all c.loop-need.need-index needs c.loop-need-test.false) c.loop-need.invariant)
