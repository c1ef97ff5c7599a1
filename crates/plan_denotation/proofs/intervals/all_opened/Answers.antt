use Rattle.std.proofs.Common.{sym, ap, ap₂, ◌∙◌, arith, map, ◌++◌, ◌∷◌, []}
use Rattle.std.proofs.lemmas.List.{map_more, take_all}
use Rattle.std.proofs.lemmas.List.Elements.{AllWithin-more, at_read}
use Rattle.plan_drafts.specs.PlanItems.{CanOpen, opened_in}
use Rattle.plan_denotation.proofs.intervals.all_opened.Goals as goal

pub loop-said-preserved : goal.loop-said-preserved
loop-said-preserved c =
    let said = c.args.said.now in
    let i = c.loop-said.said-index in
    let row = opened_in c.args.intervals.now in
    let made = rw c.in-Some.is at c.in_ok-workstation.ensures in (
      AllWithin-more (CanOpen c.args.intervals.now) said 0 i c.loop-said.invariant.0 (at_read said (CanOpen c.args.intervals.now) i c.said-item.result (omega arith) c.said-item.is made.0),
      c.in_ok-push.ensures.items ∙ ap₂ (λ rs r. rs ++ r ∷ []) c.loop-said.invariant.1 (made.1 ∙ ap row c.said-item.is) ∙ sym (map_more row said i c.said-item.result (omega arith)),
    )

pub returns : goal.returns
returns c = (
  λ k d lt. c.loop-said.invariant.0 k d (omega arith) (omega arith),
  c.loop-said.invariant.1 ∙ ap (map (opened_in c.args.intervals.now)) (take_all c.loop-said.said-index c.args.said.now (omega arith)),
)
