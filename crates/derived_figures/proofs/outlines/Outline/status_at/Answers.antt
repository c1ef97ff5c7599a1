use Rattle.std.proofs.Common.{◌≡◌, ◌<◌, sym, subst, length, slice_get, Some}
use Rattle.std.specs.FinMap.{entries}
use Rattle.plan_model.specs.Contents.{Contents}
use Rattle.derived_figures.specs.Reports.{IsOfStatus}
use Rattle.derived_figures.proofs.outlines.Outline.status_at.Goals as goal

pub status_at-requires : goal.status_at-requires
status_at-requires c = subst (λ (P : Contents). c.args.place < length (entries P.operations)) (sym c.known.ensures) c.requires

pub returns : goal.returns
returns c o op at =
    subst (λ (P : Contents). IsOfStatus P o c.status_at.result) c.known.ensures
    (c.status_at.ensures o op (subst (λ (P : Contents). slice_get (entries P.operations) c.args.place ≡ Some (o, op)) (sym c.known.ensures) at))
