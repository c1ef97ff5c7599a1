use Rattle.std.proofs.Common.{sym, subst, All}
use Rattle.small_requests.proofs.ChosenEntries.{chosen_are_ready}
use Rattle.small_requests.specs.RequestEdits.{ArePlacesOf}
use Rattle.plan_model.specs.Contents.{IsInPlan}
use Rattle.small_requests.proofs.namings.naming_of.Goals as goal

pub places_of-requires : goal.places_of-requires
places_of-requires c =
    let P = c.args.uncounted.now.contents.now in
    subst (All (IsInPlan P)) (sym c.deref.ensures.value) (chosen_are_ready P c.requires.0 c.args.choice.named.items c.requires.1.chosen).1

pub returns-clause-naming : goal.returns-clause-naming
returns-clause-naming c at is =
    let P = c.args.uncounted.now.contents.now in
    record {
      sound = c.are_sound.ensures;
      chosen = is.chosen;
      places = subst (λ ks. ArePlacesOf P ks c.in_ok-places.places.items) c.deref.ensures.value c.in_ok-places.ensures;
      allocations = record { given = is.given; holders = is.holders };
    }
