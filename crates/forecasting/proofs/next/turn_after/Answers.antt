use Rattle.std.proofs.Common.{rules, sym, subst, refl, ℕ, ◌<◌, ◌≤◌, List, Contains, None, Some}
use Rattle.forecasting.specs.Turns.{IsReached}
use Rattle.forecasting.proofs.Ends.{after_both}
use Rattle.forecasting.proofs.TurnsTaken.{next_turn, no_turn, past_turn}
use Rattle.forecasting.proofs.next.turn_after.Goals as goal
use Rattle.forecasting.proofs.next.turn_after.Goals.{After-end_after}

-- what lasts and is later is reached
lasts : (c : After-end_after) → (k : ℕ) → Contains c.args.horizon.now.lasting.items k → c.args.after < k → IsReached c.first_after-lasting.result k
lasts c k has above = c.first_after-lasting.ensures.first k (subst (λ (xs : List ℕ). Contains xs k) (sym c.deref.ensures.value) has) above

pub returns-in_default-clause-next : goal.returns-in_default-clause-next
returns-in_default-clause-next c = λ s same from times its.
    no_turn s c.args.loaded.now same c.args.after c.args.horizon.now.until from c.minute.ensures.legal c.args.horizon.now.lasting.items c.args.going.now c.args.since.now its.lasting c.requires.going times None
    (λ k has above. c.in_default.ensures.reaches_first k (lasts (goal.at.returns-in_default-clause-next c).After-end_after k has above))
    (λ k legal above end. c.in_default.ensures.reaches_second k (c.end_after.ensures.first k legal above end)) refl

pub returns-then-le-clause-next : goal.returns-then-le-clause-next
returns-then-le-clause-next c = λ s same from times its.
    let x = c.in-Some.turn in
    let above : c.args.after < x = after_both c.args.after c.first_after-lasting.result c.end_after.result (Some x) c.in-Some.ensures c.first_after-lasting.ensures.after c.end_after.ensures.after in
    let within : x ≤ c.args.horizon.now.until = search rules in
    next_turn s c.args.loaded.now same c.args.after c.args.horizon.now.until from c.minute.ensures.legal c.args.horizon.now.lasting.items c.args.going.now c.args.since.now its.lasting c.requires.going times (Some x)
    (λ k has above. c.in-Some.ensures.reaches_first k (lasts (goal.at.returns-then-le-clause-next c).After-end_after k has above))
    (λ k legal above end. c.in-Some.ensures.reaches_second k (c.end_after.ensures.first k legal above end)) x refl above within

pub returns-else-le-clause-next : goal.returns-else-le-clause-next
returns-else-le-clause-next c = λ s same from times its.
    let x = c.in-Some.turn in
    let past : c.args.horizon.now.until < x = search rules in
    past_turn s c.args.loaded.now same c.args.after c.args.horizon.now.until from c.minute.ensures.legal c.args.horizon.now.lasting.items c.args.going.now c.args.since.now its.lasting c.requires.going times (Some x)
    (λ k has above. c.in-Some.ensures.reaches_first k (lasts (goal.at.returns-else-le-clause-next c).After-end_after k has above))
    (λ k legal above end. c.in-Some.ensures.reaches_second k (c.end_after.ensures.first k legal above end)) x refl past

pub returns-then-le-clause-onward : goal.returns-then-le-clause-onward
returns-then-le-clause-onward c =
    let x = c.in-Some.turn in
    let above : c.args.after < x = after_both c.args.after c.first_after-lasting.result c.end_after.result (Some x) c.in-Some.ensures c.first_after-lasting.ensures.after c.end_after.ensures.after in
    let within : x ≤ c.args.horizon.now.until = search rules in
    (above, within)
