use Rattle.std.proofs.Common.{sym, ap, ◌∙◌, Some}
use Rattle.std.proofs.lemmas.Option.{get_or_from_slice_get}
use Rattle.plan_basics.specs.Keys.{name_cmp, name_cmp_total, name_cmp-IsAntisymmetric}
use Rattle.plan_drafts.proofs.RowPlaces.{get_at}
use Rattle.plan_denotation.proofs.needs.stock_of.Goals as goal

pub returns : goal.returns
returns c =
    let rows = c.args.resources.now in
    let key = c.args.name.now in
    let at = c.in_ok-place.ensures.found in
    ap (λ row. Some row.1) (get_or_from_slice_get rows c.in_ok-place.place (key, at.0) c.index-resources-place.result at.1)
    ∙ sym (get_at name_cmp name_cmp_total name_cmp-IsAntisymmetric rows c.requires c.in_ok-place.place key at.0 at.1)
