use Rattle.std.proofs.Common.{sym, subst, [], ◌∷◌, All}
use Rattle.plan_model.specs.Contents.{Contents, IsInPlan}
use Rattle.small_requests.proofs.KeyedPlaces.{all_of_one, places_of_one}
use Rattle.small_requests.proofs.edited_places.one_place.Goals as goal
use Rattle.small_requests.specs.RequestEdits.{ArePlacesOf}

pub places_of-requires : goal.places_of-requires
places_of-requires c = subst (λ (P : Contents). All (IsInPlan P) (c.args.key ∷ [])) (sym c.uncounted.ensures.contents) (all_of_one c.args.outline.now c.args.key c.requires)

pub returns-clause-places : goal.returns-clause-places
returns-clause-places c =
    let places = c.in_ok-places_of.field-0.items in
    places_of_one c.args.outline.now c.args.key places (subst (λ (P : Contents). ArePlacesOf P (c.args.key ∷ []) places) c.uncounted.ensures.contents c.in_ok-places_of.ensures)
