-- The status of an operation by its standing.
use Rattle.std.proofs.Common.{◌≡◌, refl, subst, Some}
use Rattle.std.specs.FinMap.{get}
use Rattle.plan_basics.specs.declared.Attr.{Attr}
use Rattle.plan_basics.specs.declared.keys.OpKey.{OpKey}
use Rattle.plan_laws.specs.plan_drafts.proofs.Needed.{mapped}
use Rattle.plan_laws.proofs.Tables.{status_is}
use Rattle.plan_model.specs.Contents.{Contents, HasAttribute, Operation}
use Rattle.plan_model.specs.Status.{ArePreds, HasStatus}
use Rattle.status_rules.specs.Table.{status_by}
use Rattle.status_rules.specs.declared.Preds.{Preds}

pub status_on : (P : Contents) (o : OpKey) (op : Operation) (a : Attr) (p : Preds)
    → get P.operations o ≡ Some op → HasAttribute P op.workstation a → ArePreds P o p → HasStatus P o (status_by op.mark op.held op.nop a p)
status_on P o op a p is on are =
    let ws = mapped (λ ws. ws.attribute) (get P.workstations op.workstation) a on in
    subst (λ b. HasStatus P o (status_by op.mark op.held op.nop b p)) ws.2 (status_is P o op ws.0 p is ws.1 are op.mark refl)
