use Rattle.std.proofs.Common.{sym, subst, ◌+◌, List}
use Rattle.plan_outlooks.specs.Replays.{AreTurnsUpTo}
use Rattle.plan_outlooks.specs.declared.lacks.Turn.{Turn}
use Rattle.plan_outlooks.proofs.Turning.{no_turns, turn_more}
use Rattle.plan_outlooks.proofs.lacks.turns_by_place.Goals as goal

pub loop-place-init : goal.loop-place-init
loop-place-init c = subst (λ (ts : List Turn). AreTurnsUpTo c.args.loaded.now c.args.since.now c.args.done.now c.args.from 0 ts) (sym c.in_ok-turns.ensures.items) (no_turns c.args.loaded.now c.args.since.now c.args.done.now c.args.from)

pub loop-place-preserved : goal.loop-place-preserved
loop-place-preserved c =
    let n = c.loop-place.place in
    subst (λ (ts : List Turn). AreTurnsUpTo c.args.loaded.now c.args.since.now c.args.done.now c.args.from (n + 1) ts) (sym c.in_ok-push.ensures.items)
    (turn_more c.args.loaded.now c.args.since.now c.args.done.now c.args.from n c.loop-place.turns.items c.turn_at.result c.turn_at.ensures c.loop-place.invariant)
