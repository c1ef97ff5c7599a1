use Rattle.std.proofs.Common.{arith, ◌≡◌, subst, Bool, true, List, refl, sym, ◌∙◌, Some, slice_get}
use Rattle.std.specs.FinMap.{keys}
use Rattle.std.proofs.lemmas.Option.{same_Some}
use Rattle.start_choice.specs.StartGates.{Counted, counted}
use Rattle.plan_model.specs.Contents.{Operation}
use Rattle.start_choice.proofs.GateSteps.{cannot_on_shut}
use Rattle.start_choice.proofs.choice.StartGateGate.name.Goals as goal

pub returns-then-is_told_shut-clause-answered : goal.returns-then-is_told_shut-clause-answered
returns-then-is_told_shut-clause-answered c =
    let g : Counted = counted c.self.inside.records c.self.inside.at c.self.inside.given.items c.self.inside.holdings.held in
    rw (← c.self.view_is) (record {
      cannot = λ its row is. cannot_on_shut g c.args.entry.now.key.op c.args.entry.now.site c.self.inside.shut.items c.self.invariant (subst (λ (xs : List Bool). slice_get xs c.args.entry.now.site ≡ Some true) c.deref.ensures.value (c.is_told_shut.ensures.0 c.if-is_told_shut.true)) row
          (subst (λ (op : Operation). slice_get (keys g.contents.workstations) c.args.entry.now.site ≡ Some op.workstation) (same_Some its.0 row (sym its.1 ∙ is)) its.2.2);
      same = refl;
      looks = (omega arith, omega arith);
    })
