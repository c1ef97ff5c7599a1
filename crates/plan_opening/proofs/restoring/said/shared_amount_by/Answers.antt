use Rattle.std.proofs.Common.{refl, sym, ap, ◌∙◌}
use Rattle.std.specs.Option.{unwrap_or}
use Rattle.std.proofs.lemmas.Option.{get_or_from_slice_get}
use Rattle.plan_denotation.proofs.OwnNeeds.{need_cmp_total, need_cmp-IsAntisymmetric}
use Rattle.plan_drafts.proofs.RowPlaces.{get_at}
use Rattle.plan_drafts.specs.PlanItems.{need_cmp}
use Rattle.plan_opening.proofs.restoring.said.shared_amount_by.Goals as goal

pub returns-in-Some : goal.returns-in-Some
returns-in-Some c =
    let rows = c.args.amounts.now in
    let key = c.args.key.now in
    let at = c.in-Some.ensures.found in
    ap (λ row. row.1) (get_or_from_slice_get rows c.in-Some.place (key, at.0) c.index-amounts-place.result at.1)
    ∙ ap (λ x. unwrap_or x 1) (sym (get_at need_cmp need_cmp_total need_cmp-IsAntisymmetric rows c.requires c.in-Some.place key at.0 at.1))

pub returns-in-None : goal.returns-in-None
returns-in-None c = ap (λ x. unwrap_or x 1) (sym (c.in-None.ensures.absent refl))
