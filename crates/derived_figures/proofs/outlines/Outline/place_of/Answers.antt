use Rattle.std.proofs.Common.{◌≡◌, ◌∙◌, sym, ap, subst, Some, IfSome, slice_get}
use Rattle.std.specs.FinMap.{entries, get}
use Rattle.plan_model.specs.Contents.{Contents, Operation}
use Rattle.derived_figures.proofs.outlines.Outline.place_of.Goals as goal

pub returns-clause-found : goal.returns-clause-found
returns-clause-found c = subst (λ (P : Contents). IfSome c.place_of.result (λ i. (op : Operation) × (slice_get (entries P.operations) i ≡ Some (c.args.key.now, op)))) c.known.ensures c.place_of.ensures.found

pub returns-clause-absent : goal.returns-clause-absent
returns-clause-absent c none = ap (λ (P : Contents). get P.operations c.args.key.now) (sym c.known.ensures) ∙ c.place_of.ensures.absent none
