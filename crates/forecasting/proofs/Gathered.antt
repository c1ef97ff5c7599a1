-- Indices that are gathered one after another.
use Rattle.std.proofs.Common.{◌≡◌, ◌⊎◌, inl, inr, refl, sym, ◌∙◌, ap, subst, arith, ℕ, ◌+◌, ◌<◌, ◌≤◌, List, [], ◌∷◌, ◌++◌, All, Contains, length, Option, Some, None, IfSome, IsNone, slice_get}
use Rattle.std.proofs.lemmas.Bool.{cases_eq}
use Rattle.std.proofs.lemmas.List.Elements.{All-append, All-contains, All-contains_itself, Contains-append_cases, Contains-append_left, Contains-append_right}
use Rattle.std.proofs.lemmas.Option.{none-some, same_Some, slice_get_within}
use Rattle.std.specs.FinMap.{entries, get}
use Rattle.plan_basics.proofs.Members.{contains_cases, contains_head, contains_none, place_of}
use Rattle.plan_basics.specs.Keys.{operation_cmp, operation_cmp_total}
use Rattle.plan_basics.specs.declared.keys.OpKey.{OpKey}
use Rattle.derived_figures.specs.start_choice.specs.plan_status.proofs.Ascending.{one_place}
use Rattle.derived_figures.specs.start_choice.specs.plan_status.proofs.LoadedRows.{row_found}
use Rattle.plan_model.proofs.Entries.{entries_in_order}
use Rattle.plan_model.specs.Contents.{Contents, Operation}
use Rattle.plan_records.specs.declared.OperationRow.{OperationRow}
use Rattle.plan_records.specs.declared.PlanRow.{PlanRow}
use Rattle.plan_records.specs.declared.PlanRow.TheVariants as row
use Rattle.plan_forecast.specs.Ahead.{IsGoing}
use Rattle.forecasting.specs.Following.{AddsGoing, AreAll, AreGoingAmong, ArePlaces, AreTouched}

all_by : {X : Type 0} (P : X → Type 0) (xs : List X) → ((x : X) → Contains xs x → P x) → All P xs
all_by P xs each = λ k d less. each _ (All-contains_itself xs k d less)

none_held : {X : Type 0} (P : X → Type 0) → All P []
none_held P = λ k d less. absurd (omega (arith, less))

one_held : {X : Type 0} (P : X → Type 0) (x : X) → P x → All P (x ∷ [])
one_held P x is = all_by P (x ∷ []) (λ y has. elim (contains_cases x [] y has) [ inl e ↦ subst P e is | inr none ↦ absurd (contains_none y none) ])

last_or : {X : Type 0} (xs : List X) (x y : X) → Contains (xs ++ x ∷ []) y → Contains xs y ⊎ (y ≡ x)
last_or xs x y has = elim (Contains-append_cases xs (x ∷ []) y has) [
  | inl before ↦ inl before
  | inr last ↦ elim (contains_cases x [] y last) [ inl e ↦ inr (sym e) | inr none ↦ absurd (contains_none y none) ]
]

at_last : {X : Type 0} (xs : List X) (x : X) → Contains (xs ++ x ∷ []) x
at_last xs x = Contains-append_right xs (x ∷ []) x (contains_head x [])

-- all so many
pub all_first : (places : List ℕ) → places ≡ [] → AreAll 0 places
all_first places empty = record { within = subst (All (λ i. i < 0)) (sym empty) (none_held (λ i. i < 0)); all = λ i less. absurd (omega (arith, less)) }

pub all_next : (n : ℕ) (places next : List ℕ) → next ≡ places ++ n ∷ [] → AreAll n places → AreAll (n + 1) next
all_next n places next is so = record {
  within = subst (All (λ i. i < n + 1)) (sym is) (all_by (λ i. i < n + 1) (places ++ n ∷ []) (λ i has. elim (last_or places n i has) [
    | inl before ↦ (let less = All-contains (λ k. k < n) places i so.within before in omega (arith, less))
    | inr e ↦ omega (arith, e)
  ]));
  all = λ i less. subst (λ xs. Contains xs i) (sym is) (elim (cases_eq i n) [
    | inl e ↦ subst (Contains (places ++ n ∷ [])) (sym e) (at_last places n)
    | inr other ↦ Contains-append_left places (n ∷ []) i (so.all i (omega (arith, less, other)))
  ]);
}

-- of the rows before an index
pub record AreTouchedUpTo (P : Contents) (rows : List PlanRow) (n : ℕ) (places : List ℕ) : Type 0 where
  pub within : ArePlaces P places
  pub all : (k i : ℕ) (r : OperationRow) (op : Operation) → k < n → slice_get rows k ≡ Some (row.Operation r) → slice_get (entries P.operations) i ≡ Some (r.op, op) → Contains places i

module _ (P : Contents) (rows : List PlanRow) where
  pub touched_first : (places : List ℕ) → places ≡ [] → AreTouchedUpTo P rows 0 places
  touched_first places empty = record { within = subst (ArePlaces P) (sym empty) (none_held (λ i. i < length (entries P.operations))); all = λ k i r op less at there. absurd (omega (arith, less)) }

  module _ (n : ℕ) (x : PlanRow) (at_n : slice_get rows n ≡ Some x) (places : List ℕ) (so : AreTouchedUpTo P rows n places) where
    -- its row is another one's
    pub touched_passed : ((i : ℕ) (r : OperationRow) (op : Operation) → x ≡ row.Operation r → slice_get (entries P.operations) i ≡ Some (r.op, op) → ⊥) → AreTouchedUpTo P rows (n + 1) places
    touched_passed never = record {
      within = so.within;
      all = λ k i r op less at there. elim (cases_eq k n) [
        | inl e ↦ absurd (never i r op (same_Some x (row.Operation r) (sym at_n ∙ ap (slice_get rows) (sym e) ∙ at)) there)
        | inr other ↦ so.all k i r op (omega (arith, less, other)) at there
      ];
    }

    pub touched_next : (p : ℕ) (next : List ℕ) → next ≡ places ++ p ∷ [] → p < length (entries P.operations) → ((i : ℕ) (r : OperationRow) (op : Operation) → x ≡ row.Operation r → slice_get (entries P.operations) i ≡ Some (r.op, op) → i ≡ p) → AreTouchedUpTo P rows (n + 1) next
    touched_next p next is less its = record {
      within = subst (ArePlaces P) (sym is) (All-append (λ i. i < length (entries P.operations)) places (p ∷ []) so.within (one_held (λ i. i < length (entries P.operations)) p less));
      all = λ k i r op below at there. subst (λ xs. Contains xs i) (sym is) (elim (cases_eq k n) [
        | inl e ↦ subst (Contains (places ++ p ∷ [])) (sym (its i r op (same_Some x (row.Operation r) (sym at_n ∙ ap (slice_get rows) (sym e) ∙ at)) there)) (at_last places p)
        | inr other ↦ Contains-append_left places (p ∷ []) i (so.all k i r op (omega (arith, below, other)) at there)
      ]);
    }

  pub touched_all : (n : ℕ) (places : List ℕ) → length rows ≤ n → AreTouchedUpTo P rows n places → AreTouched P rows places
  touched_all n places enough so = record {
    within = so.within;
    all = λ i r op has there. (let k = place_of rows (row.Operation r) has in so.all k.0 i r op (let less = slice_get_within rows k.0 (row.Operation r) k.1 in omega (arith, less, enough)) k.1 there);
  }

-- where its key was looked for
module _ (P : Contents) (i : ℕ) (o : OpKey) (op : Operation) (at : slice_get (entries P.operations) i ≡ Some (o, op)) where
  pub place_found : (place : Option ℕ) → IfSome place (λ k. (v : Operation) × (slice_get (entries P.operations) k ≡ Some (o, v))) → (IsNone place → get P.operations o ≡ None) → place ≡ Some i
  place_found (Some k) found absent = ap Some (one_place operation_cmp_total (entries P.operations) (entries_in_order operation_cmp P.operations) k i o found.0 op found.1 at)
  place_found None found absent = absurd (none-some op (sym (absent refl) ∙ row_found P i o op at))

-- of the indices before an index
pub record AddsGoingUpTo (P : Contents) (places : List ℕ) (n : ℕ) (old new : List ℕ) : Type 0 where
  pub kept : (i : ℕ) → Contains old i → Contains new i
  pub within : (i : ℕ) → Contains new i → Contains old i ⊎ Contains places i
  pub all : (k i : ℕ) (o : OpKey) (op : Operation) → k < n → slice_get places k ≡ Some i → slice_get (entries P.operations) i ≡ Some (o, op) → IsGoing P o → Contains new i

module _ (P : Contents) (places : List ℕ) where
  pub adds_going_first : (old : List ℕ) → AddsGoingUpTo P places 0 old old
  adds_going_first old = record { kept = λ i has. has; within = λ i has. inl has; all = λ k i o op less at there is. absurd (omega (arith, less)) }

  module _ (n p : ℕ) (at_n : slice_get places n ≡ Some p) (old new : List ℕ) (so : AddsGoingUpTo P places n old new) where
    pub adds_going_passed : ((o : OpKey) (op : Operation) → slice_get (entries P.operations) p ≡ Some (o, op) → IsGoing P o → ⊥) → AddsGoingUpTo P places (n + 1) old new
    adds_going_passed never = record {
      kept = so.kept;
      within = so.within;
      all = λ k i o op less at there is. elim (cases_eq k n) [
        | inl e ↦ (
            let same : i ≡ p = same_Some i p (sym at ∙ ap (slice_get places) e ∙ at_n) in
            absurd (never o op (ap (slice_get (entries P.operations)) (sym same) ∙ there) is))
        | inr other ↦ so.all k i o op (omega (arith, less, other)) at there is
      ];
    }

    pub adds_going_next : Contains places p → (next : List ℕ) → next ≡ new ++ p ∷ [] → AddsGoingUpTo P places (n + 1) old next
    adds_going_next listed next e = record {
      kept = λ i has. subst (λ xs. Contains xs i) (sym e) (Contains-append_left new (p ∷ []) i (so.kept i has));
      within = λ i has. elim (last_or new p i (subst (λ xs. Contains xs i) e has)) [ inl before ↦ so.within i before | inr same ↦ inr (subst (Contains places) (sym same) listed) ];
      all = λ k i o op less at there is. subst (λ xs. Contains xs i) (sym e) (elim (cases_eq k n) [
        | inl last ↦ subst (Contains (new ++ p ∷ [])) (same_Some p i (sym at_n ∙ ap (slice_get places) (sym last) ∙ at)) (at_last new p)
        | inr other ↦ Contains-append_left new (p ∷ []) i (so.all k i o op (omega (arith, less, other)) at there is)
      ]);
    }

  pub adds_going_all : (n : ℕ) (old new : List ℕ) → length places ≤ n → AddsGoingUpTo P places n old new → AddsGoing P places old new
  adds_going_all n old new enough so = record {
    kept = so.kept;
    within = so.within;
    all = λ i o op has there is. (let k = place_of places i has in so.all k.0 i o op (let less = slice_get_within places k.0 i k.1 in omega (arith, less, enough)) k.1 there is);
  }

module _ (P : Contents) (first second none mid last : List ℕ) (empty : none ≡ []) (a : AddsGoing P first none mid) (b : AddsGoing P second mid last) (first_within : ArePlaces P first) (second_within : ArePlaces P second) where
  of_both : (i : ℕ) → Contains last i → i < length (entries P.operations)
  of_both i has = elim (b.within i has) [
    | inr here ↦ All-contains (λ k. k < length (entries P.operations)) second i second_within here
    | inl before ↦ elim (a.within i before) [
      | inr here ↦ All-contains (λ k. k < length (entries P.operations)) first i first_within here
      | inl never ↦ absurd (contains_none i (subst (λ (xs : List ℕ). Contains xs i) empty never))
    ]
  ]

  pub going_among : AreGoingAmong P first second last
  going_among = record {
    within = all_by (λ i. i < length (entries P.operations)) last of_both;
    all = λ i o op has there is. elim has [ inl here ↦ b.kept i (a.all i o op here there is) | inr here ↦ b.all i o op here there is ];
  }
