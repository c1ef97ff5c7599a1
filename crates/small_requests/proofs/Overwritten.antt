-- Values written at their places, and put back.
use Rattle.std.proofs.Common.{◌≡◌, ◌≢◌, inl, inr, refl, sym, ap, subst, ◌∙◌, arith, ℕ, zero, suc, ◌<◌, List, [], ◌∷◌, length, ◌++◌, map, set, slice_get, Contains, Some, length-set, ◌⊎◌, All, Vec, Global}
use Rattle.std.proofs.lemmas.Bool.{cases_eq}
use Rattle.std.proofs.lemmas.List.{map-append, with_items_is}
use Rattle.std.proofs.lemmas.Option.{slice_get_within, same_Some}
use Rattle.std.proofs.lemmas.List.Elements.{Contains-append_left, Contains-push, Contains-push_cases}
use Rattle.std.specs.Vec.{with_items}
use Rattle.plan_basics.proofs.Members.{all_by_members, contains_cases, contains_head, contains_later, contains_none}
use Rattle.plan_checks.specs.derived_figures.specs.Overwritten.{overwritten}
use Rattle.small_requests.specs.Values.{AreValuesAt, LeadsTo}

-- two lists with the same at each index are one
pub same_lists : {X : Type 0} (xs ys : List X) → ((i : ℕ) → slice_get xs i ≡ slice_get ys i) → xs ≡ ys
same_lists [] [] same = refl
same_lists [] (y ∷ ys) same = absurd (let e = same 0 in cc)
same_lists (x ∷ xs) [] same = absurd (let e = same 0 in cc)
same_lists (x ∷ xs) (y ∷ ys) same =
    let first : x ≡ y = same_Some x y (same 0) in
    let rest : xs ≡ ys = same_lists xs ys (λ i. same (suc i)) in
    λ j. first j ∷ rest j

-- what is at an index of a list in which one is written
pub set_here : {X : Type 0} (xs : List X) (i : ℕ) (x : X) → i < length xs → slice_get (set xs i x) i ≡ Some x
set_here [] i x lt = absurd (omega (arith, lt))
set_here (y ∷ xs) zero x lt = refl
set_here (y ∷ xs) (suc i) x lt = set_here xs i x (omega (arith, lt))

pub set_there : {X : Type 0} (xs : List X) (i k : ℕ) (x : X) → k ≢ i → slice_get (set xs i x) k ≡ slice_get xs k
set_there [] i k x ne = refl
set_there (y ∷ xs) zero zero x ne = absurd (ne refl)
set_there (y ∷ xs) zero (suc k) x ne = refl
set_there (y ∷ xs) (suc i) zero x ne = refl
set_there (y ∷ xs) (suc i) (suc k) x ne = set_there xs i k x (λ e. ne (ap suc e))

-- a list in which one is written agrees with another wherever that has the same
agree_set : {X : Type 0} (to from : List X) (e : ℕ × X) (others : ℕ → Type 0) → slice_get to e.0 ≡ Some e.1 → length from ≡ length to
    → ((i : ℕ) → i ≢ e.0 → ¬ others i → slice_get from i ≡ slice_get to i) → (i : ℕ) → ¬ others i → slice_get (set from e.0 e.1) i ≡ slice_get to i
agree_set to from e others there size agree i out = by_place (cases_eq i e.0)
  where
    by_place : (i ≡ e.0) ⊎ (i ≢ e.0) → slice_get (set from e.0 e.1) i ≡ slice_get to i
    by_place (inl same) =
        let lt = slice_get_within to e.0 e.1 there in
        ap (slice_get (set from e.0 e.1)) same ∙ set_here from e.0 e.1 (omega (arith, lt, size)) ∙ sym there ∙ ap (slice_get to) (sym same)
    by_place (inr other) = set_there from e.0 i e.1 other ∙ agree i other out

-- to write what a list has at some places into one that agrees with it at all others makes it of that one
pub overwritten_is : {X : Type 0} (to : List X) (values : List (ℕ × X)) → ((e : ℕ × X) → Contains values e → slice_get to e.0 ≡ Some e.1)
    → (from : List X) → length from ≡ length to → ((i : ℕ) → ¬ Contains (map (λ (e : ℕ × X). e.0) values) i → slice_get from i ≡ slice_get to i) → overwritten values from ≡ to
overwritten_is to [] there from size agree = same_lists from to (λ i. agree i (contains_none i))
overwritten_is {X} to (e ∷ values) there from size agree =
    overwritten_is to values (λ f has. there f (contains_later e values f has)) (set from e.0 e.1) (length-set from e.0 e.1 ∙ size)
    (agree_set to from e (Contains (map (λ (f : ℕ × X). f.0) values)) (there e (contains_head e values)) size
    (λ i other out. agree i (λ has. elim (contains_cases e.0 (map (λ (f : ℕ × X). f.0) values) i has) [ inl here ↦ other (sym here) | inr later ↦ out later ])))

-- one place more
pub one_value : {X : Type 0} (list : List X) (places : List ℕ) (values : List (ℕ × X)) (place : ℕ) (x : X) → AreValuesAt list (Contains places) values → slice_get list place ≡ Some x
    → AreValuesAt list (Contains (places ++ place ∷ [])) (values ++ (place, x) ∷ [])
one_value {X} list places values place x are at = record {
  there = λ e has. elim (Contains-push_cases values (place, x) e has) [ inl old ↦ are.there e old | inr new ↦ subst (λ (f : ℕ × X). slice_get list f.0 ≡ Some f.1) new at ];
  all = λ i has. subst (λ ps. Contains ps i) (sym (map-append (λ (e : ℕ × X). e.0) values ((place, x) ∷ []))) (elim (Contains-push_cases places place i has) [
    | inl old ↦ Contains-append_left (map (λ (e : ℕ × X). e.0) values) (place ∷ []) i (are.all i old)
    | inr new ↦ subst (Contains (map (λ (e : ℕ × X). e.0) values ++ place ∷ [])) new (Contains-push (map (λ (e : ℕ × X). e.0) values) place)
  ]);
}

-- so it is where they lead from the one to the other
pub leads_there : {X : Type 0} (values : List (ℕ × X)) (from to : List X) → LeadsTo values from to → overwritten values from ≡ to
leads_there values from to leads = overwritten_is to values leads.there from leads.size leads.elsewhere

-- and each of their places is one of the list
pub leads_within : {X : Type 0} (values : List (ℕ × X)) (from to : List X) → LeadsTo values from to → All (λ (e : ℕ × X). e.0 < length from) values
leads_within values from to leads = all_by_members (λ e. e.0 < length from) values (λ e has.
    let at = leads.there e has in
    let lt = slice_get_within to e.0 e.1 at in
    let size = leads.size in
    omega (arith, lt, size))

-- what a list has where it is meant leads to it from one that agrees with it wherever it isn't
pub values_lead : {X : Type 0} (is_meant : ℕ → Type 0) (values : List (ℕ × X)) (from to : List X) → AreValuesAt to is_meant values → length from ≡ length to
    → ((i : ℕ) → ¬ is_meant i → slice_get from i ≡ slice_get to i) → LeadsTo values from to
values_lead is_meant values from to are size agree = record { size = size; there = are.there; elsewhere = λ i out. agree i (λ meant. out (are.all i meant)) }

-- what is lent of them is within too
pub lent_within : {X : Type 0} (values : List (ℕ × X)) (from to : List X) → LeadsTo values from to → (vs : List (ℕ × X)) (xs : List X) → vs ≡ values → xs ≡ from → All (λ (e : ℕ × X). e.0 < length xs) vs
lent_within {X} values from to leads vs xs v x =
    subst (λ ws. All (λ (e : ℕ × X). e.0 < length xs) ws) (sym v) (subst (λ ys. All (λ (e : ℕ × X). e.0 < length ys) values) (sym x) (leads_within values from to leads))

-- a list stays as long
pub length-overwritten : {X : Type 0} (values : List (ℕ × X)) (list : List X) → length (overwritten values list) ≡ length list
length-overwritten [] list = refl
length-overwritten (e ∷ values) list = length-overwritten values (set list e.0 e.1) ∙ length-set list e.0 e.1

-- a vector into which values are written
pub vector_overwritten : {X : Type 0} (values : List (ℕ × X)) (v : Vec X Global) (vs : List (ℕ × X)) (xs new : List X) → vs ≡ values → xs ≡ v.items → new ≡ overwritten vs xs
    → (with_items v new).items ≡ overwritten values v.items
vector_overwritten values v vs xs new v_is x_is is =
    let made : new ≡ overwritten values v.items = is ∙ ap (λ ws. overwritten ws xs) v_is ∙ ap (overwritten values) x_is in
    let same : length new ≡ length v.items = ap length made ∙ length-overwritten values v.items in
    with_items_is v new (omega (arith, same, v.ok.0)) ∙ made

-- it holds what was made of what was lent of it
pub vector_written : {X : Type 0} (values : List (ℕ × X)) (v : Vec X Global) (vs : List (ℕ × X)) (xs new : List X) → vs ≡ values → xs ≡ v.items → new ≡ overwritten vs xs → (with_items v new).items ≡ new
vector_written values v vs xs new v_is x_is is =
    let same : length new ≡ length v.items = ap length is ∙ length-overwritten vs xs ∙ ap length x_is in
    with_items_is v new (omega (arith, same, v.ok.0))

-- it holds the other list
pub led_there : {X : Type 0} (values : List (ℕ × X)) (v : Vec X Global) (to : List X) → LeadsTo values v.items to → (vs : List (ℕ × X)) (xs new : List X) → vs ≡ values → xs ≡ v.items → new ≡ overwritten vs xs → (with_items v new).items ≡ to
led_there values v to leads vs xs new v_is x_is is = vector_overwritten values v vs xs new v_is x_is is ∙ leads_there values v.items to leads

-- what is read off what is lent of a list is so of the list, and where fewer are meant
pub meant_too : {X : Type 0} (list xs : List X) (is_meant also : ℕ → Type 0) (values : List (ℕ × X)) → xs ≡ list → ((i : ℕ) → also i → is_meant i) → AreValuesAt xs is_meant values → AreValuesAt list also values
meant_too list xs is_meant also values same f are = record { there = λ e has. subst (λ ys. slice_get ys e.0 ≡ Some e.1) same (are.there e has); all = λ i has. are.all i (f i has) }

-- a vector into which the same was written
pub vector_unchanged : {X : Type 0} (v : Vec X Global) (xs new : List X) → xs ≡ v.items → new ≡ xs → (with_items v new).items ≡ v.items
vector_unchanged v xs new x_is is = let same : length new ≡ length v.items = ap length (is ∙ x_is) in with_items_is v new (omega (arith, same, v.ok.0)) ∙ is ∙ x_is
