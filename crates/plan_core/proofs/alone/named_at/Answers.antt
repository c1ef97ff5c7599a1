use Rattle.std.proofs.Common.{sym, subst, IfOk}
use Rattle.plan_records.specs.plan_drafts.specs.PlanGraphs.{IsGraphFor}
use Rattle.plan_model.specs.Ready.{IsChosen}
use Rattle.plan_opening.specs.counted_records.specs.States.{CountedState}
use Rattle.plan_core.proofs.alone.named_at.Goals as goal

pub named_in-records-requires : goal.named_in-records-requires
named_in-records-requires c = subst (λ (s : CountedState). IsGraphFor s.contents c.args.graph.now) (sym c.of-records.ensures) c.requires

pub returns-clause-chosen : goal.returns-clause-chosen
returns-clause-chosen c = subst (λ (s : CountedState). IfOk c.named_in-records.result.1 (λ keys. IsChosen s.contents c.args.at keys.items)) c.of-records.ensures c.named_in-records.ensures.chosen
