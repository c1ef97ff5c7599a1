use Rattle.std.proofs.Common.{arith, refl}
use Rattle.std.proofs.lemmas.Option.{slice_get-get_or}
use Rattle.std.specs.FinMap.{entries}
use Rattle.start_choice.specs.plan_status.proofs.SoFar.{all_rows, none_so_far, one_more}
use Rattle.derived_figures.proofs.SoKept.{kept_by}
use Rattle.derived_figures.specs.WaitStates.{IsKept}
use Rattle.derived_figures.proofs.wait_states.wait_states_of.Goals as goal

pub loop-i-init : goal.loop-i-init
loop-i-init c P stand have = none_so_far (entries P.operations) (IsKept P) c.in_ok-wait_states.wait_states.items c.in_ok-wait_states.ensures.items

pub loop-i-preserved : goal.loop-i-preserved
loop-i-preserved c P stand have =
    let i = c.loop-i.i in
    rw c.in_ok-push.ensures.items
    (one_more (entries P.operations) (IsKept P) i c.loop-i.wait_states.items (c.loop-i.invariant P stand have) _ (λ o op at.
    kept_by P o _ _ _ (stand.each i o op _ at (slice_get-get_or c.args.standings.now i _ c.loop-i-test.true)) (have.each i o op _ at (slice_get-get_or c.args.statuses.now i _ (omega (arith, c.loop-i-test.true, c.requires)))) c.is_satisfied.ensures refl))

pub returns : goal.returns
returns c P stand have = all_rows (entries P.operations) (IsKept P) c.loop-i.i c.loop-i.wait_states.items (c.loop-i.invariant P stand have) (omega (arith, c.loop-i-test.false, c.loop-i.auto.i-end, stand.size))
