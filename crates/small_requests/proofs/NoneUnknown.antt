-- What follows where nothing was edited but what is named.
use Rattle.std.proofs.Common.{◌≡◌, inl, inr, sym, ap, ◌∙◌, not, true≢false, List, [], ℕ}
use Rattle.plan_checks.specs.derived_figures.specs.UnknownPlaces.{unknown_places}
use Rattle.plan_drafts.proofs.Lists.{no_members}
use Rattle.small_requests.proofs.Looked.{is_beside, told_among}
use Rattle.small_requests.specs.StepLooks.{AreBoth}
use Rattle.ready_list.proofs.Members.{contains_from_filter}

-- nothing is touched beside that
pub none_beside : (places touched : List ℕ) → AreBoth places places touched → unknown_places places touched ≡ []
none_beside places touched both = no_members (unknown_places places touched) (λ i has.
    let from = contains_from_filter (is_beside places) touched i has in
    elim ((both.both i).0 from.0) [
      | inl one ↦ true≢false (sym from.1 ∙ ap not (told_among places i one))
      | inr other ↦ true≢false (sym from.1 ∙ ap not (told_among places i other))
    ])
