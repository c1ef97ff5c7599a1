-- Operations that never start, place by place.
use Rattle.std.proofs.Common.{◌≡◌, ◌↔◌, ◌⊎◌, inl, inr, refl, sym, ap, subst, ◌∙◌, arith, ℕ, ◌+◌, IsTrue, List, [], length, Contains, Option, Some, None}
use Rattle.std.proofs.lemmas.Bool.{cases_lt}
use Rattle.std.proofs.lemmas.Option.{none-some, same_Some, slice_get_within}
use Rattle.plan_basics.proofs.Members.{contains_none}
use Rattle.plan_drafts.specs.plan_model.specs.Plan.{Plan}
use Rattle.plan_items.specs.Items.{Fields}
use Rattle.record_faults.specs.Sayings.{Sayings, AreSayings}
use Rattle.record_faults.proofs.Finding.{one_saying}
use Rattle.extension_faults.specs.Warned.{AreNeverBelow, NeverStartsAt, NeverStartsIn}

module _ (P : Plan) (said : Sayings) where
  pub never_first : AreNeverBelow P said 0 []
  never_first p = (λ has. absurd (contains_none p has), λ h. let lt = h.0 in absurd (omega (arith, lt)))

  pub never_next : (n : ℕ) (old new : List ℕ) → AreNeverBelow P said n old → ((p : ℕ) → Contains new p ↔ (Contains old p ⊎ ((p ≡ n) × NeverStartsAt P said n))) → AreNeverBelow P said (n + 1) new
  never_next n old new below told p = (
    λ h. elim ((told p).0 h) [
      | inl before ↦ let is = (below p).0 before in let lt = is.0 in (omega (arith, lt), is.1)
      | inr here ↦ let at = here.0 in (omega (arith, at), subst (NeverStartsAt P said) (sym at) here.1)
    ],
    λ h. elim (cases_lt p n) [
      | inl less ↦ (told p).1 (inl ((below p).1 (less, h.1)))
      | inr le ↦ let lt = h.0 in let at : p ≡ n = omega (arith, lt, le) in (told p).1 (inr (at, subst (NeverStartsAt P said) at h.1))
    ],
  )

-- what is told of a place by a test is what is so there
pub by_test : {A O E S X : Type 0} → S ↔ X → A ↔ (O ⊎ (E × S)) → A ↔ (O ⊎ (E × X))
by_test is a = (
  λ h. elim (a.0 h) [ inl o ↦ inl o | inr both ↦ inr (both.0, is.0 both.1) ],
  λ h. elim h [ inl o ↦ a.1 (inl o) | inr both ↦ a.1 (inr (both.0, is.1 both.1)) ],
)

-- records say one thing
pub never_all : (P : Plan) (records : List Fields) (said : Sayings) → AreSayings records said → (same : Sayings) → same ≡ said → (found : List ℕ) → AreNeverBelow P same (length same) found
    → (p : ℕ) → Contains found p ↔ NeverStartsIn P records p
never_all P records said are same is found below p = (
  λ h. (said, are, subst (λ z. NeverStartsAt P z p) is ((below p).0 h).1),
  λ h.
      let one : h.0 ≡ same = one_saying records h.0 said h.1 are ∙ sym is in
      let at : NeverStartsAt P same p = subst (λ z. NeverStartsAt P z p) one h.2 in
      (below p).1 (slice_get_within same p (Some _) at.1, at),
)
