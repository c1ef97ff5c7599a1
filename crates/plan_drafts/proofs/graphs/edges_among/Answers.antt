use Rattle.std.proofs.Common.{sym, subst, Contains}
use Rattle.plan_basics.specs.declared.keys.OpKey.{OpKey}
use Rattle.plan_drafts.proofs.graphs.edges_among.Goals as goal

pub returns-in_default : goal.returns-in_default
returns-in_default c = λ among.
    (rw c.in_default.is at c.place_near.ensures) (subst (λ (x : OpKey × OpKey). Contains c.args.keys.now x.0) (sym c.pair-item.is) (among c.loop-pair.pair-index c.pair-item.result c.loop-pair-test.true).0)

pub returns-in_default-place_by : goal.returns-in_default-place_by
returns-in_default-place_by c = λ among.
    (rw c.in_default-place_by.is at c.place_by.ensures) (subst (λ (x : OpKey × OpKey). Contains c.args.keys.now x.1) (sym c.pair-item.is) (among c.loop-pair.pair-index c.pair-item.result c.loop-pair-test.true).1)
