use Rattle.std.proofs.Common.{◌≡◌, sym, ap, subst, ◌∙◌, arith, refl, true≢false, Contains, inl, inr, get_or}
use Rattle.std.proofs.lemmas.List.{get_or_default}
use Rattle.special_resources.specs.Needs.{usages_of}
use Rattle.plan_model.specs.Contents.{Operation, Resources}
use Rattle.start_choice.specs.Takings.{CanMeetNeeds, CanMeetNeed}
use Rattle.start_choice.proofs.FreeResources.{all_free, one_busy}
use Rattle.start_choice.proofs.ReadyLists.{below_cases}
use Rattle.start_choice.proofs.taken.has_resources.Goals as goal

pub returns-then-not-has_resource : goal.returns-then-not-has_resource
returns-then-not-has_resource c =
    let resources : Resources = c.args.uncounted.now.contents.now.resources in
    let held = c.args.holdings.now.held in
    let o = c.args.key.now in
    let items = c.as_slice-need-items.result.now in
    let same : c.args.operation.now.needs ≡ usages_of items = ap (λ (op : Operation). op.needs) (sym c.operation.view_is) ∙ c.as_slice-need-items.ensures.usages in
    let has : Contains items c.need-item.result = (c.loop-need.need-index, c.loop-need-test.true, sym c.need-item.is) in
    let busy : ¬ CanMeetNeed resources held o c.need-item.result = λ free. true≢false (sym (c.has_resource.ensures.1 free) ∙ c.if-not-has_resource.true) in (
      λ never. absurd (true≢false (sym never)),
      λ free. absurd (one_busy resources held o items c.as_slice-need-items.ensures.in_order c.need-item.result has busy (subst (λ needs. CanMeetNeeds resources held o needs) same free)),
    )

pub loop-need-preserved : goal.loop-need-preserved
loop-need-preserved c = λ k d lt.
    let resources : Resources = c.args.uncounted.now.contents.now.resources in
    let held = c.args.holdings.now.held in
    let o = c.args.key.now in
    let items = c.as_slice-need-items.result.now in
    let index = c.loop-need.need-index in
    elim (below_cases k index lt) [
      | inl earlier ↦ c.loop-need.invariant k d earlier
      | inr same ↦
          let met : CanMeetNeed resources held o c.need-item.result = c.has_resource.ensures.0 c.if-not-has_resource.false in
          subst (λ n. CanMeetNeed resources held o n) (c.need-item.is ∙ get_or_default items index c.need-item.result d c.loop-need-test.true ∙ ap (λ i. get_or items i d) (sym same)) met
    ]

pub returns : goal.returns
returns c =
    let resources : Resources = c.args.uncounted.now.contents.now.resources in
    let held = c.args.holdings.now.held in
    let o = c.args.key.now in
    let items = c.as_slice-need-items.result.now in
    let same : c.args.operation.now.needs ≡ usages_of items = ap (λ (op : Operation). op.needs) (sym c.operation.view_is) ∙ c.as_slice-need-items.ensures.usages in
    let passed = c.loop-need-test.false in
    (λ _. subst (λ needs. CanMeetNeeds resources held o needs) (sym same) (all_free resources held o items c.as_slice-need-items.ensures.in_order (λ k d lt. c.loop-need.invariant k d (omega (arith, lt, passed)))), λ _. refl)
