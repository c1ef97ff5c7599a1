-- The indices of what a request edits that isn't a rerun: that of its target, if it has one.
use Rattle.std.proofs.Common.{◌≡◌, refl, sym, ◌∙◌, ℕ, List, [], Some, None}
use Rattle.std.proofs.lemmas.Option.{none-some}
use Rattle.std.specs.List.Sorted.{IsStrictlySortedBy}
use Rattle.std.specs.Ordering.{nat_cmp}
use Rattle.plan_basics.proofs.Members.{contains_none}
use Rattle.plan_basics.specs.declared.keys.OpKey.{OpKey}
use Rattle.plan_model.specs.Contents.{Contents}
use Rattle.plan_records.specs.declared.What.{What}
use Rattle.plan_records.specs.declared.What.TheVariants as what
use Rattle.small_requests.proofs.KeyedPlaces.{places_alike}
use Rattle.small_requests.proofs.Targets.{edits_target}
use Rattle.small_requests.specs.RequestEdits.{ArePlacesWhere, Edits, IsEditedAt, IsRerun, target_of}

pub not_rerun : (w : What) → ((o : OpKey) → w ≡ what.Rerun o → ⊥) → ¬ IsRerun w
not_rerun (what.Rerun o) never = λ rerun. never o refl
not_rerun w never = λ rerun. rerun

target_edits : (P : Contents) (w : What) (q : OpKey) → target_of w ≡ Some q → Edits P w q
target_edits P (what.Rerun o) q is = absurd (none-some q is)
target_edits P w q is = is

module _ (P : Contents) (w : What) (never : ¬ IsRerun w) where
  pub edited_at_target : (o : OpKey) → target_of w ≡ Some o → (places : List ℕ) → ArePlacesWhere P (λ q. Some o ≡ Some q) places → IsEditedAt P w places
  edited_at_target o is places are =
      places_alike P (λ q. Some o ≡ Some q) (Edits P w) places (λ q same. target_edits P w q (is ∙ same)) (λ q edits. sym is ∙ edits_target P w q never edits) are

  ascending : IsStrictlySortedBy nat_cmp []
  unfolding IsStrictlySortedBy
  ascending = tt

  pub edited_nowhere : target_of w ≡ None → IsEditedAt P w []
  edited_nowhere none = record {
    ascend = ascending;
    within = λ i has. absurd (contains_none i has);
    each = λ i o op at. (λ has. absurd (contains_none i has), λ edits. absurd (none-some o (sym none ∙ edits_target P w o never edits)));
  }
