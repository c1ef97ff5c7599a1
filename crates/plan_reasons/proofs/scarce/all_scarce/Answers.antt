use Rattle.std.proofs.Common.{◌≡◌, ◌+◌, ◌++◌, ◌∷◌, [], List, sym, ap, subst, ◌∙◌, take}
use Rattle.std.specs.declared.cmp.Ordering.TheVariants.{Less}
use Rattle.std.proofs.lemmas.List.{take_all, take_more}
use Rattle.plan_basics.specs.Keys.{name_cmp}
use Rattle.special_resources.specs.Needs.{usages_of}
use Rattle.special_resources.specs.declared.Need.{Need}
use Rattle.plan_model.specs.Contents.{Operation}
use Rattle.plan_reasons.proofs.Needing.{named_before}
use Rattle.plan_reasons.proofs.TooLittle.{AreScarce, none_scarce, one_need_more, scarce_found}
use Rattle.plan_reasons.proofs.scarce.all_scarce.Goals as goal

pub loop-need-init : goal.loop-need-init
loop-need-init c = subst (AreScarce c.args.contents.now.resources c.args.holdings.now.held c.args.key.now []) (sym c.new-reasons.ensures.items) (none_scarce c.args.contents.now.resources c.args.holdings.now.held c.args.key.now)

pub loop-need-preserved : goal.loop-need-preserved
loop-need-preserved c =
    let resources = c.args.contents.now.resources in
    let held = c.args.holdings.now.held in
    let o = c.args.key.now in
    let needs = c.as_slice-need-items.result.now in
    let i = c.loop-need.need-index in
    let need = c.need-item.result in
    let more : take (i + 1) needs ≡ take i needs ++ need ∷ [] = take_more needs i need c.loop-need-test.true ∙ ap (λ (n : Need). take i needs ++ n ∷ []) (sym c.need-item.is) in
    subst (λ (ns : List Need). AreScarce resources held o ns c.note.new.items.items) (sym more)
    (subst (AreScarce resources held o (take i needs ++ need ∷ [])) (sym c.in_ok-note.ensures)
    (one_need_more resources held o (take i needs) c.loop-need.reasons.items c.loop-need.invariant need (λ n has.
    subst (λ (x : Need). name_cmp n.name x.name ≡ Less) (sym c.need-item.is) (named_before needs c.as_slice-need-items.ensures.in_order i need c.loop-need-test.true n has))
    c.too_little.result c.too_little.ensures))

pub returns : goal.returns
returns c m start =
    let P = c.args.contents.now in
    let o = c.args.key.now in
    let op = c.args.operation.now in
    let held = c.args.holdings.now.held in
    let needs = c.as_slice-need-items.result.now in
    let found = c.loop-need.reasons.items in
    let are : op.needs ≡ usages_of needs = ap (λ (x : Operation). x.needs) (sym c.operation.view_is) ∙ c.as_slice-need-items.ensures.usages in
    scarce_found P o op m start held c.requires needs c.as_slice-need-items.ensures.in_order are found
    (subst (λ (ns : List Need). AreScarce P.resources held o ns found) (take_all c.loop-need.need-index needs c.loop-need-test.false) c.loop-need.invariant)
