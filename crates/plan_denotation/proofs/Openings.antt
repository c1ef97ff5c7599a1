-- Workstations in order of their names, each open in the intervals that are its own.
use Rattle.std.proofs.Common.{◌≡◌, ◌≢◌, refl, sym, subst, ap, ◌∙◌, arith, ℕ, zero, suc, ◌+◌, ◌<◌, ◌≤◌, List, [], ◌∷◌, ◌++◌, map, take, length, get_or, All, Contains, Option, Some, None}
use Rattle.std.specs.List.{filter_map, cons_option}
use Rattle.std.specs.List.Sorted.{IsPermutation, IsStrictlySortedBy}
use Rattle.std.specs.Map.{keys_of}
use Rattle.std.proofs.lemmas.List.Elements.{All-contains}
use Rattle.std.proofs.lemmas.List.Sorted.{IsPermutation-map, IsPermutation-sym, Contains-permutation}
use Rattle.plan_basics.specs.declared.limits.TheConstants.{MOST_WORKSTATIONS}
use Rattle.plan_basics.specs.declared.Attr.{Attr}
use Rattle.plan_basics.specs.Keys.{Name, name_cmp, name_cmp_total, name_cmp-IsAntisymmetric}
use Rattle.plan_basics.specs.Intervals.{OpenInterval}
use Rattle.plan_model.specs.workstations.specs.Timetables.{NamedWorkstation}
use Rattle.plan_model.specs.workstations.specs.Workstations.{Workstation}
use Rattle.plan_drafts.specs.PlanItems.{own_interval, intervals_of, CanOpen, opened_in, AreOfThese, AreWorkstations, AreWorkstationsInOrder}
use Rattle.plan_drafts.specs.KeyOrder.{AreInKeyOrder}
use Rattle.plan_drafts.proofs.Lists.{all_by_members}
use Rattle.plan_drafts.proofs.Keyed.{key_to_row, row_to_key, own_is, own_not}

-- ---- the intervals of one workstation
filter_map_next :
    {X Y : Type 0} (f : X → Option Y) (xs : List X) (i : ℕ) (x : X) → i < length xs → x ≡ get_or xs i x →
    filter_map f (take (suc i) xs) ≡ filter_map f (take i xs) ++ cons_option (f x) []
filter_map_next f [] i x lt is = absurd (omega arith)
filter_map_next f (y ∷ xs) zero x lt is = ap (λ z. cons_option (f z) []) (sym is)
filter_map_next f (y ∷ xs) (suc i) x lt is = ap (cons_option (f y)) (filter_map_next f xs i x (omega arith) is) ∙ joined (f y)
  where
    joined : (o : Option _) → cons_option o (filter_map f (take i xs) ++ cons_option (f x) []) ≡ cons_option o (filter_map f (take i xs)) ++ cons_option (f x) []
    joined None = refl
    joined (Some z) = refl

module _ (name : Name) (intervals : List (Name × OpenInterval)) (i : ℕ) (said : Name × OpenInterval) (lt : i < length intervals) (is : said ≡ get_or intervals i said) where
  next_own : (o : Option OpenInterval) → own_interval name said ≡ o → intervals_of name (take (i + 1) intervals) ≡ intervals_of name (take i intervals) ++ cons_option o []
  next_own o e =
      let next : suc i ≡ i + 1 = omega arith in
      subst (λ n. intervals_of name (take n intervals) ≡ intervals_of name (take i intervals) ++ cons_option o []) next
      (filter_map_next (own_interval name) intervals i said lt is ∙ ap (λ p. intervals_of name (take i intervals) ++ cons_option p []) e)

  -- its own goes to the end
  pub own_more : said.0 ≡ name → intervals_of name (take (i + 1) intervals) ≡ intervals_of name (take i intervals) ++ said.1 ∷ []
  own_more same = next_own (Some said.1) (own_is name_cmp_total name_cmp-IsAntisymmetric name said same)

  -- another's doesn't
  pub own_passed : said.0 ≢ name → intervals_of name (take (i + 1) intervals) ≡ intervals_of name (take i intervals)
  own_passed apart = next_own None (own_not name_cmp_total name_cmp-IsAntisymmetric name said apart) ∙ append_none (intervals_of name (take i intervals))
    where
      append_none : (xs : List OpenInterval) → xs ++ [] ≡ xs
      append_none [] = refl
      append_none (x ∷ xs) = ap (λ ys. x ∷ ys) (append_none xs)

-- ---- rows, before and after they are opened and put in order
-- a workstation as it is open in those of these intervals that are its own
abbrev pub station_in : List (Name × OpenInterval) → Name × Attr → Workstation
station_in intervals said = (opened_in intervals said).1

module _ (intervals : List (Name × OpenInterval)) where
  keys-opened : (rows : List (Name × Attr)) → keys_of (map (opened_in intervals) rows) ≡ keys_of rows
  keys-opened [] = refl
  keys-opened (row ∷ rows) = ap (λ ks. row.0 ∷ ks) (keys-opened rows)

  -- opened in order of their names, they are so
  pub opened_ascend :
      (rows : List (Name × Attr)) (opened : List NamedWorkstation) → opened ≡ map (opened_in intervals) rows → IsStrictlySortedBy name_cmp (keys_of rows) →
      IsStrictlySortedBy name_cmp (keys_of opened)
  opened_ascend rows opened is up = subst (IsStrictlySortedBy name_cmp) (sym (ap keys_of is ∙ keys-opened rows)) up

  -- what can be open in one order can be in another
  pub opening_permuted : (xs ys : List (Name × Attr)) → IsPermutation xs ys → All (CanOpen intervals) xs → All (CanOpen intervals) ys
  opening_permuted xs ys same all = all_by_members (CanOpen intervals) ys (λ y has. All-contains (CanOpen intervals) xs y all (Contains-permutation ys xs y (IsPermutation-sym xs ys same) has))

  -- an interval is of none of those that are said
  pub others :
      (said rows : List (Name × Attr)) (opened : List NamedWorkstation) → IsPermutation said rows → opened ≡ map (opened_in intervals) rows →
      ¬ AreOfThese (keys_of opened) intervals → ¬ AreWorkstations said intervals
  others said rows opened same is none are =
      let moved : IsPermutation (map (opened_in intervals) said) opened = subst (IsPermutation (map (opened_in intervals) said)) (sym is) (IsPermutation-map (opened_in intervals) said rows same) in
      none (all_by_members (λ y. Contains (keys_of opened) y.0) intervals (λ y has. key_to_row (λ (row : Name × Attr). row.0) (station_in intervals) said opened moved y.0 (All-contains (λ z. Contains (keys_of said) z.0) intervals y are.no_others has)))

  pub stations_are :
      (said rows : List (Name × Attr)) (opened : List NamedWorkstation) → length said ≤ MOST_WORKSTATIONS → AreInKeyOrder name_cmp (λ row. row.0) said rows →
      All (CanOpen intervals) rows → opened ≡ map (opened_in intervals) rows → AreOfThese (keys_of opened) intervals → AreWorkstationsInOrder said intervals opened
  stations_are said rows opened few ordered opening is these =
      let same : IsPermutation said rows = ordered.same in
      let back : IsPermutation rows said = IsPermutation-sym said rows same in
      let moved : IsPermutation (map (opened_in intervals) said) opened = subst (IsPermutation (map (opened_in intervals) said)) (sym is) (IsPermutation-map (opened_in intervals) said rows same) in
      record {
        are = record {
          few = few;
          distinct = ordered.distinct;
          opening = opening_permuted rows said back opening;
          no_others = all_by_members (λ y. Contains (keys_of said) y.0) intervals (λ y has. row_to_key (λ (row : Name × Attr). row.0) (station_in intervals) said opened moved y.0 (All-contains (λ z. Contains (keys_of opened) z.0) intervals y these has));
        };
        same = moved;
        in_order = opened_ascend rows opened is ordered.in_order;
      }
