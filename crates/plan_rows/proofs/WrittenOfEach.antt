-- What is written of each element of a list and added to another, as far as it has come.
use Rattle.std.proofs.Common.{◌≡◌, sym, ap, subst, ◌∙◌, ℕ, ◌+◌, ◌<◌, ◌≤◌, List, ◌++◌, length, take, get_or, Contains, Option}
use Rattle.std.proofs.lemmas.List.{append-nil, append_assoc, take_all}
use Rattle.std.proofs.lemmas.List.Elements.{Contains-get_or}
use Rattle.std.specs.List.{filter_map}
use Rattle.std.specs.Option.{option_to_list}
use Rattle.derived_figures.specs.plan_laws.proofs.SomeOfEach.{some_more}

-- after what is in old, new has what is written of the first k of these
abbrev pub IsWrittenOf : {X Row : Type 0} → (X → Option Row → Type 0) → List X → ℕ → List Row → List Row → Type 0
IsWrittenOf {X} {Row} Writes xs k old new = (f : X → Option Row) → ((x : X) (r : Option Row) → Contains xs x → Writes x r → r ≡ f x) → new ≡ old ++ filter_map f (take k xs)

module _ {X Row : Type 0} (Writes : X → Option Row → Type 0) (xs : List X) where
  pub written_none : (old : List Row) → IsWrittenOf Writes xs 0 old old
  written_none old f gives = sym (append-nil old)

  pub written_next : (k : ℕ) (old so_far new : List Row) (x : X) (r : Option Row) → k < length xs → x ≡ get_or xs k x → IsWrittenOf Writes xs k old so_far → Writes x r → new ≡ so_far ++ option_to_list r → IsWrittenOf Writes xs (k + 1) old new
  written_next k old so_far new x r lt is h writes rows f gives =
      let has : Contains xs x = subst (Contains xs) (sym is) (Contains-get_or xs k x lt) in
      let same : r ≡ f (get_or xs k x) = gives x r has writes ∙ ap f is in
      let before = filter_map f (take k xs) in
      rows
      ∙ ap (λ ys. ys ++ option_to_list r) (h f gives)
      ∙ append_assoc old before (option_to_list r)
      ∙ ap (λ zs. old ++ zs) (ap (λ a. before ++ option_to_list a) same ∙ sym (some_more f xs k x lt))

  pub written_all : (k : ℕ) (old new : List Row) → length xs ≤ k → IsWrittenOf Writes xs k old new → (f : X → Option Row) → ((x : X) (r : Option Row) → Contains xs x → Writes x r → r ≡ f x) → new ≡ old ++ filter_map f xs
  written_all k old new end h f gives = h f gives ∙ ap (λ ys. old ++ filter_map f ys) (take_all k xs end)
