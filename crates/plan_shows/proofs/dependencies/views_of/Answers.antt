use Rattle.std.proofs.Common.{subst, sym}
use Rattle.std.proofs.lemmas.List.{take_all}
use Rattle.std.specs.List.{AllZip}
use Rattle.plan_shows.specs.Dependencies.{AreInPlan, IsDependencyView}
use Rattle.plan_shows.proofs.Beside.{zip_more}
use Rattle.plan_shows.proofs.dependencies.views_of.Goals as goal

pub dependency_view-requires : goal.dependency_view-requires
dependency_view-requires c = subst (AreInPlan c.args.loaded.now) (sym c.pair-item.is) (c.requires c.loop-pair.pair-index c.pair-item.result c.loop-pair-test.true)

pub loop-pair-preserved : goal.loop-pair-preserved
loop-pair-preserved c =
    rw c.in_ok-push.ensures.items
    (zip_more (IsDependencyView c.args.loaded.now) c.args.pairs.now c.loop-pair.views.items c.loop-pair.pair-index c.pair-item.result c.dependency_view.result c.loop-pair-test.true c.pair-item.is c.loop-pair.invariant c.dependency_view.ensures)

pub returns : goal.returns
returns c = subst (λ xs. AllZip (IsDependencyView c.args.loaded.now) xs c.loop-pair.views.items) (take_all c.loop-pair.pair-index c.args.pairs.now c.loop-pair-test.false) c.loop-pair.invariant
