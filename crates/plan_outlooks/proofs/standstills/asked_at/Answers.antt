use Rattle.std.proofs.Common.{◌≡◌, sym, ap, subst, ◌∙◌, Some}
use Rattle.std.specs.FinMap.{get}
use Rattle.plan_basics.specs.declared.keys.OpKey.{OpKey}
use Rattle.plan_model.specs.Contents.{Contents, Operation}
use Rattle.plan_reasons.specs.plan_core.specs.plan_status.proofs.Workplaces.{workplace_found}
use Rattle.plan_outlooks.specs.Standstills.{IsLater}
use Rattle.plan_outlooks.proofs.standstills.asked_at.Goals as goal

pub unwrap-workstation-requires : goal.unwrap-workstation-requires
unwrap-workstation-requires c =
    let there = subst (λ (R : Contents). (o : OpKey) × (get R.operations o ≡ Some c.args.operation.now)) (sym c.contents-contents.ensures.contents) c.requires in
    workplace_found c.contents-contents.result.now c.workstation.ensures.sound.valid c.operation.view_is there c.workstation.result c.workstation.ensures.absent

pub returns : goal.returns
returns c =
    let found = rw c.unwrap-workstation.ensures at c.workstation.ensures.found in
    let known = ap (λ (op : Operation). get c.contents-contents.result.now.workstations op.workstation) (sym c.operation.view_is) ∙ found.1 in (
      c.unwrap-workstation.result.now.1,
      ap (λ (R : Contents). get R.workstations c.args.operation.now.workstation) (sym c.contents-contents.ensures.contents) ∙ known,
      (c.later.result, subst (λ n. IsLater c.args.from n c.later.result) (ap (λ (op : Operation). op.not_before) c.operation.view_is) c.later.ensures, c.open_first.ensures),
    )
