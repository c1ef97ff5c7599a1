use Rattle.std.proofs.Common.{◌≡◌, sym, ◌∙◌, ap, ◌∷◌, length, arith}
use Rattle.ready_list.specs.Entries.{on_workstation}
use Rattle.ready_list.proofs.OnOne.{first_on, first_off}
use Rattle.ready_list.proofs.on_workstation.OnWorkstationIterator.next.Goals as goal

left_is : (c : goal.Then-eq) → c.args.self.now ≡ c.in-Some.entry.now ∷ on_workstation c.loop-entry.self-inside.ws c.in-Some.others.now
left_is c = sym c.loop-entry.invariant ∙ first_on c.loop-entry.self-inside.ws c.in-Some.ensures.cases.0 (sym c.eq.ensures ∙ c.if-eq.true)

pub returns-then-eq-clause-steps : goal.returns-then-eq-clause-steps
returns-then-eq-clause-steps c = left_is c

pub returns-then-eq-clause-goes : goal.returns-then-eq-clause-goes
returns-then-eq-clause-goes c =
    let n = ap length (left_is c) in
    record { on = λ finite. (tt, tt, omega (arith, n)); keeps = tt; rests = λ finite. tt }

pub loop-entry-preserved : goal.loop-entry-preserved
loop-entry-preserved c = sym (first_off c.loop-entry.self-inside.ws c.in-Some.ensures.cases.0 (sym c.eq.ensures ∙ c.if-eq.false)) ∙ c.loop-entry.invariant
