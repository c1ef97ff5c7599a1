-- What may be wrong with a record of what is added beside what may be with a plan's: one thing at most.
use Rattle.std.proofs.Common.{◌≡◌, ◌↔◌, refl, sym, ap, subst, ◌∙◌, arith, ℕ, ◌<◌, ◌≤◌, length, slice_get, Option, Some, None, IfSome}
use Rattle.std.specs.Prelude.{IfNone}
use Rattle.std.proofs.lemmas.Option.{none-some, same_Some, slice_get_within}
use Rattle.plan_items.specs.declared.Item.{Item}
use Rattle.plan_items.specs.declared.Item.TheVariants as item
use Rattle.plan_drafts.specs.ExtensionItems.{MayComeIn}
use Rattle.record_faults.specs.Sayings.{Sayings, SaysAt}
use Rattle.text_faults.specs.declared.additions.faults.AddedText.{AddedText}
use Rattle.text_faults.specs.declared.additions.faults.AddedText.TheVariants as text
use Rattle.text_faults.specs.declared.additions.faults.AddedFault.{AddedFault}
use Rattle.text_faults.specs.declared.additions.faults.AddedFault.TheVariants as of_added
use Rattle.text_faults.specs.AddedFaults.{SaysOccurrence, IsFirstOccurrence, IsFirstIfAny, IsElsewhere, IsAdditionFault}
use Rattle.text_faults.proofs.ComingIn.{says_one, only_occurrence, one_first}

-- an occurrence may come in
may_occurrence : (said : Sayings) (place : ℕ) (x : Item) → SaysAt said place x → SaysOccurrence said place → MayComeIn x
may_occurrence said place x at h = subst MayComeIn (sym (only_occurrence said place x at h)) tt

-- a second occurrence is told of an addition where the first is before it
pub another_told : (added : AddedText) (said : Sayings) (first : Option ℕ) (place : ℕ) → added ≡ text.Addition → SaysOccurrence said place → IsFirstIfAny said first
    → (r : Option ℕ) → IfSome r (λ n. (first ≡ Some n) × (n < place)) → IfNone r ((n : ℕ) → first ≡ Some n → place ≤ n)
    → (n : ℕ) → (r ≡ Some n) ↔ IsAdditionFault added said place (of_added.AnotherOccurrence n)
another_told added said None place one says is None some none n =
    let within = slice_get_within said place (Some (item.Occurrence says.0 says.1 says.2)) says.3 in
    (λ e. absurd (none-some n e), λ h. absurd (is place within says))
another_told added said None place one says is (Some m) some none n = absurd (none-some m some.0)
another_told added said (Some f) place one says is None some none n = (
  λ e. absurd (none-some n e),
  λ h.
      let before = h.3 in
      let after = none n (ap Some (one_first said f n is h.2)) in
      absurd (omega (arith, before, after)),
)
another_told added said (Some f) place one says is (Some m) some none n = (
  λ e. (one, says, subst (IsFirstOccurrence said) (same_Some f n (some.0 ∙ e)) is, subst (λ z. z < place) (same_Some m n e) some.1),
  λ h. sym some.0 ∙ ap Some (one_first said f n is h.2),
)

-- one thing at most
pub one_beside : (added : AddedText) (said : Sayings) (place : ℕ) (f g : AddedFault) → IsAdditionFault added said place f → IsAdditionFault added said place g → f ≡ g
one_beside added said place (of_added.OfRecord f) g h k = absurd h
one_beside added said place f (of_added.OfRecord g) h k = absurd k
one_beside added said place of_added.NotAdded of_added.NotAdded h k = refl
one_beside added said place of_added.NotAdded (of_added.AnotherOccurrence n) h k = absurd (h.2 (may_occurrence said place h.0 h.1 k.1))
one_beside added said place of_added.NotAdded of_added.Elsewhere h k = absurd (h.2 (subst MayComeIn (says_one said place (item.Dependency k.0 k.1) h.0 k.2 h.1) tt))
one_beside added said place (of_added.AnotherOccurrence m) of_added.NotAdded h k = absurd (k.2 (may_occurrence said place k.0 k.1 h.1))
one_beside added said place (of_added.AnotherOccurrence m) (of_added.AnotherOccurrence n) h k = ap of_added.AnotherOccurrence (one_first said m n h.2 k.2)
one_beside added said place (of_added.AnotherOccurrence m) of_added.Elsewhere h k = absurd (cc (only_occurrence said place (item.Dependency k.0 k.1) k.2 h.1))
one_beside added said place of_added.Elsewhere of_added.NotAdded h k = absurd (k.2 (subst MayComeIn (says_one said place (item.Dependency h.0 h.1) k.0 h.2 k.1) tt))
one_beside added said place of_added.Elsewhere (of_added.AnotherOccurrence n) h k = absurd (cc (only_occurrence said place (item.Dependency h.0 h.1) h.2 k.1))
one_beside added said place of_added.Elsewhere of_added.Elsewhere h k = refl

-- what is told where it is so
pub told_beside : (added : AddedText) (said : Sayings) (place : ℕ) (g : AddedFault) → IsAdditionFault added said place g → (f : AddedFault) → (Some g ≡ Some f) ↔ IsAdditionFault added said place f
told_beside added said place g is f = (λ e. subst (IsAdditionFault added said place) (same_Some g f e) is, λ h. ap Some (one_beside added said place g f is h))

-- and where nothing is
pub none_beside : (added : AddedText) (said : Sayings) (place : ℕ) (x : Item) → SaysAt said place x → ¬ ¬ MayComeIn x → ((n : ℕ) → ¬ IsAdditionFault added said place (of_added.AnotherOccurrence n)) → ¬ IsElsewhere said place → (f : AddedFault) → ¬ IsAdditionFault added said place f
none_beside added said place x at may never_another never_elsewhere (of_added.OfRecord f) h = h
none_beside added said place x at may never_another never_elsewhere of_added.NotAdded h = may (λ m. h.2 (subst MayComeIn (says_one said place x h.0 at h.1) m))
none_beside added said place x at may never_another never_elsewhere (of_added.AnotherOccurrence n) h = never_another n h
none_beside added said place x at may never_another never_elsewhere of_added.Elsewhere h = never_elsewhere h

-- a record that says nothing has none of it
pub silent_beside : (added : AddedText) (said : Sayings) (place : ℕ) → slice_get said place ≡ Some None → (f : AddedFault) → ¬ IsAdditionFault added said place f
silent_beside added said place none (of_added.OfRecord f) h = h
silent_beside added said place none of_added.NotAdded h = none-some h.0 (same_Some None (Some h.0) (sym none ∙ h.1))
silent_beside added said place none (of_added.AnotherOccurrence n) h =
    let there : SaysOccurrence said place = h.1 in
    none-some (item.Occurrence there.0 there.1 there.2) (same_Some None (Some (item.Occurrence there.0 there.1 there.2)) (sym none ∙ there.3))
silent_beside added said place none of_added.Elsewhere h = none-some (item.Dependency h.0 h.1) (same_Some None (Some (item.Dependency h.0 h.1)) (sym none ∙ h.2))

-- it is of a record
pub beside_within : (added : AddedText) (said : Sayings) (place : ℕ) (f : AddedFault) → IsAdditionFault added said place f → place < length said
beside_within added said place (of_added.OfRecord f) h = absurd h
beside_within added said place of_added.NotAdded h = slice_get_within said place (Some h.0) h.1
beside_within added said place (of_added.AnotherOccurrence n) h = let there : SaysOccurrence said place = h.1 in slice_get_within said place (Some (item.Occurrence there.0 there.1 there.2)) there.3
beside_within added said place of_added.Elsewhere h = slice_get_within said place (Some (item.Dependency h.0 h.1)) h.2
