use Rattle.plan_items.specs.Items.{IsItem}
use Rattle.std.proofs.lemmas.List.Elements.{All-nil}
use Rattle.plan_import.proofs.Saying.{all-item-more, begins-said, ends-said, fails-said, goes-said}
use Rattle.plan_import.proofs.items_left.Goals as goal

pub loop-init : goal.loop-init
loop-init g c = rw (c.new-items.ensures.items) (c.requires.plain, c.in_ok-fields.ensures, All-nil IsItem, begins-said _ _ c.requires.start)

pub returns-in-Nothing-clause-said : goal.returns-in-Nothing-clause-said
returns-in-Nothing-clause-said g c =
    let turn = rw c.in-Nothing.is at c.in_ok-item.ensures.said in
    fails-said _ _ _ _ c.loop.invariant.3 turn

pub returns-in-End-clause-said : goal.returns-in-End-clause-said
returns-in-End-clause-said g c =
    let turn = rw c.in-End.is at c.in_ok-item.ensures.said in
    ends-said _ _ _ _ c.loop.invariant.3 turn

pub loop-preserved : goal.loop-preserved
loop-preserved g c =
    let inv = c.loop.invariant in
    let turn = rw c.in-Item.is at c.in_ok-item.ensures.said in
    rw (c.in_ok-push-in-Item.ensures.items) (turn.0, c.in_ok-item.ensures.ten, all-item-more c.loop.items.items c.in-Item.item inv.2 turn.3.0, goes-said _ _ _ _ _ _ turn.1 _ inv.3 turn.2 turn.3 turn.4)
