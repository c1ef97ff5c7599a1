use Rattle.std.proofs.Common.{sym, subst, IfOk}
use Rattle.plan_model.specs.Contents.{Contents}
use Rattle.plan_model.specs.Ready.{IsChosen}
use Rattle.plan_opening.specs.derived_figures.specs.Afresh.{IsDerivedAfresh}
use Rattle.plan_core.proofs.alone.named_in.Goals as goal

pub named_by-requires : goal.named_by-requires
named_by-requires c = subst (λ (P : Contents). IsDerivedAfresh P c.in-Ok.derived_afresh) (sym c.in-Ok.ensures.contents) c.in-Ok.ensures.derived_afresh

pub returns-in-Ok-clause-chosen : goal.returns-in-Ok-clause-chosen
returns-in-Ok-clause-chosen c = subst (λ (P : Contents). IfOk c.named_by.result.1 (λ keys. IsChosen P c.args.at keys.items)) c.in-Ok.ensures.contents c.named_by.ensures.chosen
