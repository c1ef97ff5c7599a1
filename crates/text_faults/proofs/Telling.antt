-- Faults of what is added that are told one after another.
use Rattle.std.proofs.Common.{◌≡◌, ◌↔◌, ◌⊎◌, inl, inr, sym, subst, arith, ℕ, ◌+◌, List, [], ◌∷◌, ◌++◌, Contains}
use Rattle.std.proofs.lemmas.Bool.{cases_lt}
use Rattle.std.proofs.lemmas.List.Elements.{Contains-append_left, Contains-append_right, Contains-append_cases}
use Rattle.plan_basics.proofs.Members.{contains_head, contains_cases, contains_none}
use Rattle.text_faults.specs.declared.additions.faults.PlacedFault.{PlacedFault}
use Rattle.text_faults.specs.AddedFaults.{AreToldBelow}

-- one more at the end: what is told is what has the property
pub one_more : (P : PlacedFault → Type 0) (faults : List PlacedFault) (r : PlacedFault) → P r → ((f : PlacedFault) → P f → f ≡ r) → (f : PlacedFault) → Contains (faults ++ r ∷ []) f ↔ (Contains faults f ⊎ P f)
one_more P faults r is only f = (
  λ has. elim (Contains-append_cases faults (r ∷ []) f has) [
    | inl before ↦ inl before
    | inr last ↦ elim (contains_cases r [] f last) [ inl same ↦ inr (subst P same is) | inr none ↦ absurd (contains_none f none) ]
  ],
  elim [
    | inl before ↦ Contains-append_left faults (r ∷ []) f before
    | inr h ↦ Contains-append_right faults (r ∷ []) f (subst (Contains (r ∷ [])) (sym (only f h)) (contains_head r []))
  ],
)

-- none more: nothing has the property
pub none_more : (P : PlacedFault → Type 0) (faults : List PlacedFault) → ((f : PlacedFault) → ¬ P f) → (f : PlacedFault) → Contains faults f ↔ (Contains faults f ⊎ P f)
none_more P faults never f = (λ has. inl has, elim [ inl has ↦ has | inr h ↦ absurd (never f h) ])

-- faults of the same place and kind are the same
pub same_fault : (f g : PlacedFault) → f.place ≡ g.place → f.fault ≡ g.fault → f ≡ g
same_fault f g places kinds = λ i. record { place = places i; fault = kinds i }

-- ---- place by place
pub told_none : (P : ℕ → PlacedFault → Type 0) → AreToldBelow P 0 []
told_none P f = (λ has. absurd (contains_none f has), λ h. let lt = h.1 in absurd (omega (arith, lt)))

pub told_more : (P : ℕ → PlacedFault → Type 0) (n : ℕ) (old new : List PlacedFault) → AreToldBelow P n old → ((f : PlacedFault) → Contains new f ↔ (Contains old f ⊎ P n f)) → AreToldBelow P (n + 1) new
told_more P n old new are more f = (
  λ has. elim ((more f).0 has) [ inl before ↦ (let h = (are f).0 before in let lt = h.1 in (h.0, omega (arith, lt), h.2)) | inr h ↦ (n, omega arith, h) ],
  λ h. elim (cases_lt h.0 n) [
    | inl less ↦ (more f).1 (inl ((are f).1 (h.0, less, h.2)))
    | inr le ↦ let lt = h.1 in let same : h.0 ≡ n = omega (arith, lt, le) in (more f).1 (inr (subst (λ i. P i f) same h.2))
  ],
)
