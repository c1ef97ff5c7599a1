use Rattle.std.proofs.Common.{◌∙◌, sym, ap, subst, IfSome}
use Rattle.std.specs.FinMap.{get}
use Rattle.plan_model.specs.Contents.{Contents}
use Rattle.derived_figures.specs.Reports.{IsOfStatus}
use Rattle.derived_figures.proofs.outlines.Outline.status_of.Goals as goal

pub returns-clause-found : goal.returns-clause-found
returns-clause-found c = subst (λ (P : Contents). IfSome c.status_of.result (IsOfStatus P c.args.key.now)) c.known.ensures c.status_of.ensures.found

pub returns-clause-absent : goal.returns-clause-absent
returns-clause-absent c none = ap (λ (P : Contents). get P.operations c.args.key.now) (sym c.known.ensures) ∙ c.status_of.ensures.absent none
