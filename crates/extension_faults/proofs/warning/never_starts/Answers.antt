use Rattle.std.proofs.Common.{◌≡◌, ◌↔◌, refl, sym, ap, ◌∙◌, None, Some, IsTrue}
use Rattle.std.specs.FinMap.{get, get-empty}
use Rattle.plan_basics.specs.Keys.{name_cmp}
use Rattle.plan_drafts.specs.plan_model.specs.Contents.{Contents}
use Rattle.extension_faults.proofs.Lasting.{never_at, never_there}
use Rattle.extension_faults.proofs.Looking.{false_is}
use Rattle.extension_faults.proofs.warning.never_starts.Goals as goal

pub returns-in_default : goal.returns-in_default
returns-in_default c =
    let w = c.args.operation.now.workstation in
    let none : get c.args.plan.now.plan.contents.workstations w ≡ None = ap (λ (C : Contents). get C.workstations w) (c.in_default.ensures.none refl) ∙ get-empty name_cmp w in
    false_is (never_there c.args.plan.now.plan c.args.operation.now none)

pub returns-in-Some-workstation : goal.returns-in-Some-workstation
returns-in-Some-workstation c =
    let w = c.args.operation.now.workstation in
    let is : get c.args.plan.now.plan.contents.workstations w ≡ Some c.in-Some-workstation.workstation.now.1 = ap (λ (C : Contents). get C.workstations w) (sym (c.contents.ensures.contents ∙ c.in-Some.ensures.contents)) ∙ c.in-Some-workstation.ensures.found.1 in
    never_at c.args.plan.now.plan c.args.operation.now c.in-Some-workstation.workstation.now.1 is c.never_holds.result (rw c.clock.ensures.value at c.never_holds.ensures)

pub returns-in-None : goal.returns-in-None
returns-in-None c =
    let w = c.args.operation.now.workstation in
    let none : get c.args.plan.now.plan.contents.workstations w ≡ None = ap (λ (C : Contents). get C.workstations w) (sym (c.contents.ensures.contents ∙ c.in-Some.ensures.contents)) ∙ c.in-None.ensures.absent refl in
    false_is (never_there c.args.plan.now.plan c.args.operation.now none)
