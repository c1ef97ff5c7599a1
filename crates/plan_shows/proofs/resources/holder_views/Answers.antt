use Rattle.std.proofs.Common.{subst}
use Rattle.std.proofs.lemmas.List.{take_all}
use Rattle.std.specs.List.{AllZip}
use Rattle.plan_shows.specs.Resources.{IsShown}
use Rattle.plan_shows.proofs.Beside.{zip_more}
use Rattle.plan_shows.proofs.HoldersShown.{holders_shown, is_there}
use Rattle.plan_shows.proofs.resources.holder_views.Goals as goal

pub holder_view-requires : goal.holder_view-requires
holder_view-requires c =
    is_there c.args.loaded.now c.args.quantity c.args.name.now c.args.holdings.now.held c.requires c.holders-holders.result.now c.holders-holders.ensures.members c.loop-holder.holder-index c.holder-item.result c.loop-holder-test.true c.holder-item.is

pub loop-holder-preserved : goal.loop-holder-preserved
loop-holder-preserved c =
    rw c.in_ok-push.ensures.items
    (zip_more (IsShown c.args.loaded.now c.args.quantity) c.holders-holders.result.now c.loop-holder.views.items c.loop-holder.holder-index c.holder-item.result c.holder_view.result c.loop-holder-test.true c.holder-item.is c.loop-holder.invariant c.holder_view.ensures)

pub returns : goal.returns
returns c =
    let shown = subst (λ hs. AllZip (IsShown c.args.loaded.now c.args.quantity) hs c.loop-holder.views.items) (take_all c.loop-holder.holder-index c.holders-holders.result.now c.loop-holder-test.false) c.loop-holder.invariant in
    holders_shown c.args.loaded.now c.args.quantity c.args.name.now c.args.holdings.now.held c.requires c.holders-holders.result.now c.holders-holders.ensures.members c.holders-holders.ensures.in_order c.loop-holder.views.items shown
