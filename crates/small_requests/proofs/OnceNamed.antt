-- Statuses once some operations are named, one after the other.
use Rattle.std.proofs.Common.{inl, inr, ap, subst, ◌∙◌, ℕ, List, [], ◌∷◌, ◌++◌}
use Rattle.std.proofs.lemmas.List.{map-append}
use Rattle.std.proofs.lemmas.List.Elements.{Contains-push_cases}
use Rattle.small_requests.specs.Effects.{AreStatusesOnceNamed, IsStatusOnceNamed}
use Rattle.status_rules.specs.declared.Status.{Status}

-- one place more
pub one_once : (statuses : List Status) (named places : List ℕ) (values : List (ℕ × Status)) (place : ℕ) (s : Status) → AreStatusesOnceNamed statuses places named values → IsStatusOnceNamed statuses named (place, s)
    → AreStatusesOnceNamed statuses (places ++ place ∷ []) named (values ++ (place, s) ∷ [])
one_once statuses named places values place s are is = record {
  in_order = map-append (λ (value : ℕ × Status). value.0) values ((place, s) ∷ []) ∙ ap (λ ps. ps ++ place ∷ []) are.in_order;
  each = λ value has. elim (Contains-push_cases values (place, s) value has) [ inl old ↦ are.each value old | inr new ↦ subst (IsStatusOnceNamed statuses named) new is ];
}
