use Rattle.std.proofs.Common.{◌≡◌, refl, sym, subst, ◌∙◌, None}
use Rattle.std.specs.FinMap.{get}
use Rattle.plan_basics.proofs.Members.{tied_is}
use Rattle.plan_basics.specs.Keys.{operation_cmp-IsAntisymmetric}
use Rattle.plan_core.specs.derived_figures.specs.Reports.{IsOfStatus}
use Rattle.plan_model.specs.Contents.{Contents}
use Rattle.plan_reasons.proofs.Sharing.{is_known, others_apart}
use Rattle.plan_reasons.proofs.other_holders.other_of.Goals as goal

pub returns-then-is_own : goal.returns-then-is_own
returns-then-is_own c = tied_is operation_cmp-IsAntisymmetric c.args.holder.now.operation c.args.key.now (sym c.is_own.ensures ∙ c.if-is_own.true)

pub unwrap-status-requires : goal.unwrap-status-requires
unwrap-status-requires c =
    let o = c.args.holder.now.operation in
    is_known c.args.loaded.now o c.requires c.status_of.result (λ none. subst (λ (P : Contents). get P.operations o ≡ None) c.outline.ensures (c.status_of.ensures.absent none))

pub returns : goal.returns
returns c =
    let o = c.args.holder.now.operation in
    let told = rw c.unwrap-status.ensures at c.status_of.ensures.found in
    (others_apart o c.args.key.now (sym c.is_own.ensures ∙ c.if-is_own.false), refl, subst (λ (P : Contents). IsOfStatus P o c.unwrap-status.result) c.outline.ensures told)
