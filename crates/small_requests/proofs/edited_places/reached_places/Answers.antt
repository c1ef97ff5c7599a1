use Rattle.std.proofs.Common.{◌≡◌, sym, subst, true, List, All}
use Rattle.plan_basics.specs.declared.keys.OpKey.{OpKey}
use Rattle.plan_model.specs.Contents.{Contents, IsInPlan}
use Rattle.plan_model.specs.Starts.{Reaches}
use Rattle.plan_checks.proofs.ReachedKeys.{all_in_plan}
use Rattle.ready_list.specs.Choice.{is_among}
use Rattle.small_requests.proofs.KeyedPlaces.{places_alike}
use Rattle.small_requests.proofs.edited_places.reached_places.Goals as goal
use Rattle.small_requests.specs.RequestEdits.{ArePlacesOf}

pub places_of-requires : goal.places_of-requires
places_of-requires c =
    let P = c.args.outline.now in
    subst (λ (Q : Contents). All (IsInPlan Q) c.deref.result.now) (sym c.uncounted.ensures.contents)
    (subst (λ (ks : List OpKey). All (IsInPlan P) ks) (sym c.deref.ensures.value) (all_in_plan P c.args.key.now c.in_ok-reached.reached.items c.requires c.in_ok-reached.ensures.reached))

pub returns-clause-places : goal.returns-clause-places
returns-clause-places c =
    let P = c.args.outline.now in
    let found = c.in_ok-reached.reached.items in
    let places = c.in_ok-places_of.field-0.items in
    let reached = c.in_ok-reached.ensures.reached in
    places_alike P (λ o. is_among found o ≡ true) (Reaches P c.args.key.now) places (λ o. (reached o).0) (λ o. (reached o).1)
    (subst (λ (ks : List OpKey). ArePlacesOf P ks places) c.deref.ensures.value
    (subst (λ (Q : Contents). ArePlacesOf Q c.deref.result.now places) c.uncounted.ensures.contents c.in_ok-places_of.ensures))
