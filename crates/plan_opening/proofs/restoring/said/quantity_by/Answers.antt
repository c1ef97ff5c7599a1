use Rattle.std.proofs.Common.{refl, sym, ap, ◌∙◌}
use Rattle.std.specs.Option.{unwrap_or}
use Rattle.std.proofs.lemmas.Option.{get_or_from_slice_get}
use Rattle.plan_basics.specs.Keys.{name_cmp, name_cmp_total, name_cmp-IsAntisymmetric}
use Rattle.plan_basics.specs.declared.limits.TheConstants.{MOST_QUANTITY}
use Rattle.plan_drafts.proofs.RowPlaces.{get_at}
use Rattle.plan_opening.proofs.restoring.said.quantity_by.Goals as goal

pub returns-in-Some : goal.returns-in-Some
returns-in-Some c =
    let rows = c.args.quantities.now in
    let name = c.args.name.now in
    let at = c.in-Some.ensures.found in
    ap (λ row. row.1) (get_or_from_slice_get rows c.in-Some.place (name, at.0) c.index-quantities-place.result at.1)
    ∙ ap (λ x. unwrap_or x MOST_QUANTITY) (sym (get_at name_cmp name_cmp_total name_cmp-IsAntisymmetric rows c.requires c.in-Some.place name at.0 at.1))

pub returns-in-None : goal.returns-in-None
returns-in-None c = ap (λ x. unwrap_or x MOST_QUANTITY) (sym (c.in-None.ensures.absent refl))
