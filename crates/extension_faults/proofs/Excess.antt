-- How many records are of a group, which is the last of them, and what is told where they are too many.
use Rattle.std.proofs.Common.{◌≡◌, ◌↔◌, ◌⊎◌, inl, inr, sym, ap, subst, ◌∙◌, true≢false, arith, ℕ, ◌+◌, ◌<◌, ◌≤◌, Bool, true, false, List, [], ◌∷◌, ◌++◌, length, take, get_or, slice_get, Contains, Option, Some, None, option_map}
use Rattle.std.specs.Prelude.{if◌then◌else◌}
use Rattle.std.proofs.lemmas.Bool.{cases_lt}
use Rattle.std.proofs.lemmas.List.{length-map, map_more}
use Rattle.std.proofs.lemmas.List.Elements.{Contains-append_left, Contains-push, Contains-push_cases}
use Rattle.std.proofs.lemmas.Option.{same_Some, slice_get-get_or, slice_get-map}
use Rattle.plan_basics.proofs.Members.{contains_none, tied_is}
use Rattle.plan_drafts.proofs.Tables.{itself}
use Rattle.plan_items.specs.declared.Item.{Item}
use Rattle.record_faults.proofs.Counting.{count_more, count_within}
use Rattle.record_faults.proofs.GroupOrder.{exact}
use Rattle.record_faults.specs.Groups.{IsLast, IsLastIfAny, count_of, group_of, grouped, is_of, most_of}
use Rattle.record_faults.specs.Sayings.{Sayings, IsGiven}
use Rattle.record_faults.specs.contracts.groups.GroupOrd.TheImpl.Laws as laws
use Rattle.record_faults.specs.declared.faults.Fault.TheVariants as fault
use Rattle.record_faults.specs.declared.faults.RecordFault.{RecordFault}
use Rattle.record_faults.specs.declared.groups.Group.{Group}
use Rattle.extension_faults.specs.Limits.{IsExcess}

-- ---- counts
-- one record more
pub counted_more : (g : Group) (said : Sayings) (i : ℕ) (o : Option Item) → i < length said → o ≡ get_or said i o → count_of g (grouped (take (i + 1) said)) ≡ count_of g (grouped (take i said)) + (if is_of g (option_map group_of o) then 1 else 0)
counted_more g said i o lt at =
    ap (count_of g) (map_more (λ (x : Option Item). option_map group_of x) said i o lt ∙ ap (λ (x : Option Item). grouped (take i said) ++ option_map group_of x ∷ []) (sym at))
    ∙ count_more g (grouped (take i said)) (option_map group_of o)

-- no more than there are records
pub counted_within : (g : Group) (said : Sayings) → count_of g (grouped said) ≤ length said
counted_within g said =
    let within = count_within g (grouped said) in
    let long : length (grouped said) ≡ length said = length-map said (λ (x : Option Item). option_map group_of x) in
    omega (arith, within, long)

pub one_at_most : (b : Bool) → (if b then 1 else 0) ≤ 1
one_at_most true = omega arith
one_at_most false = omega arith

-- ---- the last
module _ (groups : List (Option Group)) (n : ℕ) (g : Group) where
  passed : (last : Option ℕ) → ¬ IsGiven groups g n → IsLastIfAny groups n g last → IsLastIfAny groups (n + 1) g last
  passed None other h = λ i lt at. elim (cases_lt i n) [
    | inl less ↦ h i less at
    | inr more ↦ let same : i ≡ n = omega (arith, lt, more) in other (subst (IsGiven groups g) same at)
  ]
  passed (Some p) other h = record {
    here = h.here;
    before = let lt = h.before in omega (arith, lt);
    none_after = λ i after lt at. elim (cases_lt i n) [
      | inl less ↦ h.none_after i after less at
      | inr more ↦ let same : i ≡ n = omega (arith, lt, more) in other (subst (IsGiven groups g) same at)
    ];
  }

  is_it : (o : Option Group) → is_of g o ≡ true → o ≡ Some g
  is_it None t = absurd (true≢false (sym t))
  is_it (Some other) t = ap Some (tied_is exact other g t)

  later_is : (b : Bool) (o : Option Group) (last new : Option ℕ) → slice_get groups n ≡ Some o → b ≡ is_of g o → new ≡ (if b then Some n else last) → IsLastIfAny groups n g last → IsLastIfAny groups (n + 1) g new
  later_is true o last new at is same h =
      let here : IsGiven groups g n = at ∙ ap Some (is_it o (sym is)) in
      subst (IsLastIfAny groups (n + 1) g) (sym same) (record { here = here; before = omega arith; none_after = λ i after lt. absurd (omega (arith, after, lt)) })
  later_is false o last new at is same h =
      subst (IsLastIfAny groups (n + 1) g) (sym same) (passed last (λ here.
      let one : o ≡ Some g = same_Some o (Some g) (sym at ∙ here) in
      true≢false (sym (itself laws.total-law exact g) ∙ sym (is ∙ ap (is_of g) one))) h)

pub last_more : (g : Group) (said : Sayings) (i : ℕ) (o : Option Item) (b : Bool) (last new : Option ℕ) → i < length said → o ≡ get_or said i o → b ≡ is_of g (option_map group_of o) → new ≡ (if b then Some i else last)
    → IsLastIfAny (grouped said) i g last → IsLastIfAny (grouped said) (i + 1) g new
last_more g said i o b last new lt at is same h =
    let here : slice_get said i ≡ Some o = slice_get-get_or said i o lt ∙ ap Some (sym at) in
    later_is (grouped said) i g b (option_map group_of o) last new (slice_get-map (λ (x : Option Item). option_map group_of x) said i ∙ ap (option_map (λ (x : Option Item). option_map group_of x)) here) is same h

one_last : (groups : List (Option Group)) (n : ℕ) (g : Group) (p q : ℕ) → IsLast groups n g p → IsLast groups n g q → p ≡ q
one_last groups n g p q a b = elim (cases_lt p q) [
  | inl lt ↦ absurd (a.none_after q lt b.before b.here)
  | inr le ↦ elim (cases_lt q p) [ inl lt ↦ absurd (b.none_after p lt a.before a.here) | inr more ↦ omega (arith, le, more) ]
]

-- ---- what is told
nothing_more : {V X : Type 0} → ¬ X → V ↔ (V ⊎ X)
nothing_more never = (λ v. inl v, elim [ inl v ↦ v | inr x ↦ absurd (never x) ])

module _ (said : Sayings) (g : Group) (staying : ℕ) where
  -- where no record is of the group
  pub none_there : (last : Option ℕ) → last ≡ None → IsLastIfAny (grouped said) (length said) g last → {V : Type 0} (f : RecordFault) → V ↔ (V ⊎ IsExcess said g staying f)
  none_there last none is f = nothing_more (λ x. (subst (IsLastIfAny (grouped said) (length said) g) none is) f.place x.last.before x.last.here)

  -- where they aren't too many
  pub few_there : (count most : ℕ) → count ≡ staying + count_of g (grouped said) → most ≡ most_of g → count ≤ most → {V : Type 0} (f : RecordFault) → V ↔ (V ⊎ IsExcess said g staying f)
  few_there count most is of le f = nothing_more (λ x. let beyond = x.beyond in absurd (omega (arith, is, of, le, beyond)))

  -- where they are, one fault more
  pub one_there : (count most place : ℕ) (old new : List RecordFault) → count ≡ staying + count_of g (grouped said) → most ≡ most_of g → most < count → IsLast (grouped said) (length said) g place
      → new ≡ old ++ record { place = place; fault = fault.TooMany g count } ∷ [] → (f : RecordFault) → Contains new f ↔ (Contains old f ⊎ IsExcess said g staying f)
  one_there count most place old new is of beyond last same f = (
    λ has. elim (Contains-push_cases old r f (subst (λ xs. Contains xs f) same has)) [
      | inl before ↦ inl before
      | inr e ↦ inr (record {
        last = subst (IsLast (grouped said) (length said) g) (ap (λ (x : RecordFault). x.place) e) last;
        told = sym (ap (λ (x : RecordFault). x.fault) e) ∙ ap (fault.TooMany g) is;
        beyond = omega (arith, is, of, beyond);
      })
    ],
    elim [
      | inl before ↦ subst (λ xs. Contains xs f) (sym same) (Contains-append_left old (r ∷ []) f before)
      | inr x ↦
          let at : r.place ≡ f.place = one_last (grouped said) (length said) g place f.place last x.last in
          let what : r.fault ≡ f.fault = ap (fault.TooMany g) is ∙ sym x.told in
          let e : r ≡ f = λ i. record { place = at i; fault = what i } in
          subst (λ xs. Contains xs f) (sym same) (subst (Contains (old ++ r ∷ [])) e (Contains-push old r))
    ],
  )
    where
      r : RecordFault
      r = record { place = place; fault = fault.TooMany g count }

-- none before, and then three
pub three_told : {A B C : Type 0} (none one two all : List RecordFault) (f : RecordFault) → none ≡ [] → (Contains one f ↔ (Contains none f ⊎ A)) → (Contains two f ↔ (Contains one f ⊎ B)) → (Contains all f ↔ (Contains two f ⊎ C)) → Contains all f ↔ (A ⊎ B ⊎ C)
three_told none one two all f empty a b c = (
  λ has. elim (c.0 has) [
    | inl h ↦ elim (b.0 h) [
      | inl k ↦ elim (a.0 k) [ inl never ↦ absurd (contains_none f (subst (λ xs. Contains xs f) empty never)) | inr x ↦ inl x ]
      | inr y ↦ inr (inl y)
    ]
    | inr z ↦ inr (inr z)
  ],
  elim [ inl x ↦ c.1 (inl (b.1 (inl (a.1 (inr x))))) | inr rest ↦ elim rest [ inl y ↦ c.1 (inl (b.1 (inr y))) | inr z ↦ c.1 (inr z) ] ],
)
