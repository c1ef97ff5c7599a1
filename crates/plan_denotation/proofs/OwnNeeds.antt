-- The needs of one operation among those of all, which are sorted by operation and then resource.
use Rattle.std.proofs.Common.{◌≡◌, refl, sym, ap, subst, ◌∙◌, true≢false, arith, ℕ, suc, ◌+◌, ◌<◌, ◌≤◌, Bool, true, false, cond, List, [], ◌∷◌, ◌++◌, map, take, drop, length, get_or, Some, None}
use Rattle.std.specs.List.{AllByRecursion, cons_option}
use Rattle.std.specs.List.Sorted.{IsStrictlySortedBy, IsPartitionedBy, IsPartitionPoint}
use Rattle.std.specs.Cmp.{IsTotalOrder, Equal-is, tied_itself}
use Rattle.std.specs.FinMap.{IsAntisymmetric, insert, len}
use Rattle.std.specs.Ordering.{eq_by_cmp, is_eq, is_le, is_lt, ordering_then}
use Rattle.std.specs.declared.cmp.Ordering.{Ordering}
use Rattle.std.specs.declared.cmp.Ordering.TheVariants.{Less, Equal, Greater}
use Rattle.std.proofs.lemmas.Cmp.{alike_right}
use Rattle.std.proofs.lemmas.List.{map_more, get_or-take, length-take, take-append-drop, append-nil}
use Rattle.std.proofs.lemmas.List.Elements.{filter_map-append, recursion_from_All}
use Rattle.std.proofs.Math.Seq.{drop-cons}
use Rattle.plan_basics.specs.declared.keys.OpKey.{OpKey}
use Rattle.plan_basics.specs.Keys.{Name, name_cmp, name_cmp_total, name_cmp-IsAntisymmetric, operation_cmp, operation_cmp_total, operation_cmp-IsAntisymmetric}
use Rattle.plan_basics.proofs.Members.{less_told}
use Rattle.plan_basics.proofs.PairOrders.{by_two_total, by_two-IsAntisymmetric}
use Rattle.plan_items.specs.special_resources.specs.declared.Need.{Need}
use Rattle.plan_items.specs.special_resources.specs.Holdings.{usage_of}
use Rattle.plan_items.specs.special_resources.specs.NeedCells.{len-usages_of}
use Rattle.plan_items.specs.special_resources.specs.Needs.{AreInNameOrder, ComeBefore, usages_of}
use Rattle.plan_items.specs.special_resources.proofs.Keyed.{sorted_before, sorted_left}
use Rattle.plan_items.specs.special_resources.proofs.MoreNeeds.{need_by_usage, pushed_usages}
use Rattle.plan_items.specs.special_resources.proofs.Splits.{before_point, from_point}
use Rattle.plan_model.specs.ready_list.proofs.Ordered.{partitioned_by}
use Rattle.plan_drafts.specs.PlanItems.{need_key, need_cmp, own_need, needs_of}
use Rattle.plan_drafts.proofs.Lists.{at_member, in_map, length_map}
use Rattle.plan_drafts.proofs.Pairs.{sorted_dropped}

abbrev Said : Type 0
Said = OpKey × Need

pub need_cmp_total : IsTotalOrder need_cmp
need_cmp_total = by_two_total operation_cmp_total name_cmp_total

pub need_cmp-IsAntisymmetric : IsAntisymmetric need_cmp
need_cmp-IsAntisymmetric = by_two-IsAntisymmetric operation_cmp-IsAntisymmetric name_cmp-IsAntisymmetric

-- the need itself
abbrev pub said_need : Said → Need
said_need said = said.1

abbrev name_of : Need → Name
name_of n = n.name

-- ---- where those of an operation are

-- whether it is of an operation before this one, and of this one or one before
abbrev pub is_before : OpKey → Said → Bool
is_before o said = is_lt (operation_cmp said.0 o)

abbrev pub is_up_to : OpKey → Said → Bool
is_up_to o said = is_le (operation_cmp said.0 o)

abbrev row_cmp : Said → Said → Ordering
row_cmp a b = need_cmp (need_key a) (need_key b)

rows_later : (x : Said) (xs : List Said) → AllByRecursion (λ k. need_cmp (need_key x) k ≡ Less) (map need_key xs) → AllByRecursion (λ y. row_cmp x y ≡ Less) xs
rows_later x [] h = tt
rows_later x (y ∷ ys) h = (h.0, rows_later x ys h.1)

rows_sorted : (xs : List Said) → IsStrictlySortedBy need_cmp (map need_key xs) → IsStrictlySortedBy row_cmp xs
unfolding IsStrictlySortedBy
rows_sorted [] up = tt
rows_sorted (x ∷ xs) up = (rows_later x xs up.0, rows_sorted xs up.1)

module _ (o : OpKey) (a b : Said) (less : row_cmp a b ≡ Less) where
  before_down : is_before o b ≡ true → is_before o a ≡ true
  before_down e = by_order (operation_cmp a.0 b.0) refl less
    where
      by_order : (r : Ordering) → operation_cmp a.0 b.0 ≡ r → ordering_then r (name_cmp a.1.name b.1.name) ≡ Less → is_lt (operation_cmp a.0 o) ≡ true
      by_order Less is then = ap is_lt (operation_cmp_total.trans a.0 b.0 o is (less_told (operation_cmp b.0 o) e))
      by_order Equal is then = ap is_lt (operation_cmp_total.congr a.0 b.0 o is) ∙ e
      by_order Greater is then = cc

  up_to_down : is_up_to o b ≡ true → is_up_to o a ≡ true
  up_to_down e = by_order (operation_cmp a.0 b.0) refl less
    where
      by_end : (r : Ordering) → operation_cmp b.0 o ≡ r → operation_cmp a.0 b.0 ≡ Less → is_le r ≡ true → is_le (operation_cmp a.0 o) ≡ true
      by_end Less end is t = ap is_le (operation_cmp_total.trans a.0 b.0 o is end)
      by_end Equal end is t = ap is_le (sym (alike_right operation_cmp_total b.0 o a.0 end) ∙ is)
      by_end Greater end is t = absurd (true≢false (sym t))

      by_order : (r : Ordering) → operation_cmp a.0 b.0 ≡ r → ordering_then r (name_cmp a.1.name b.1.name) ≡ Less → is_le (operation_cmp a.0 o) ≡ true
      by_order Less is then = by_end (operation_cmp b.0 o) refl is e
      by_order Equal is then = ap is_le (operation_cmp_total.congr a.0 b.0 o is) ∙ e
      by_order Greater is then = cc

none_own : (o : OpKey) (xs : List Said) → AllByRecursion (λ said. own_need o said ≡ None) xs → needs_of o xs ≡ []
none_own o [] h = refl
none_own o (x ∷ xs) h = ap (λ r. cons_option r (needs_of o xs)) h.0 ∙ none_own o xs h.1

all_own : (o : OpKey) (xs : List Said) → AllByRecursion (λ said. own_need o said ≡ Some said.1) xs → needs_of o xs ≡ map said_need xs
all_own o [] h = refl
all_own o (x ∷ xs) h = ap (λ r. cons_option r (needs_of o xs)) h.0 ∙ ap (λ ns. x.1 ∷ ns) (all_own o xs h.1)

before_not : (r : Ordering) → is_lt r ≡ true → is_eq r ≡ false
before_not Less e = refl
before_not Equal e = cc
before_not Greater e = refl

after_not : (r : Ordering) → is_le r ≡ false → is_eq r ≡ false
after_not Less e = cc
after_not Equal e = cc
after_not Greater e = refl

between_is : (r : Ordering) → is_lt r ≡ false → is_le r ≡ true → is_eq r ≡ true
between_is Less e f = cc
between_is Equal e f = refl
between_is Greater e f = cc

abbrev Splits : (Said → Bool) → List Said → ℕ → Type 0
Splits p xs i = IsPartitionPoint (λ said. p said ≡ true) (λ said. p said ≡ false) xs i

module _ (o : OpKey) (xs : List Said) (up : IsStrictlySortedBy need_cmp (map need_key xs)) where
  pub before_parted : IsPartitionedBy (is_before o) xs
  before_parted = partitioned_by row_cmp (is_before o) xs (rows_sorted xs up) (λ a b less e. before_down o a b less e)

  pub up_to_parted : (from : ℕ) → IsPartitionedBy (is_up_to o) (drop from xs)
  up_to_parted from = partitioned_by row_cmp (is_up_to o) (drop from xs) (sorted_dropped row_cmp from xs (rows_sorted xs up)) (λ a b less e. up_to_down o a b less e)

module _ (o : OpKey) (xs : List Said) (from : ℕ) (le : from ≤ length xs) (begin : Splits (is_before o) xs from) (number : ℕ) (within : number ≤ length (drop from xs)) (end : Splits (is_up_to o) (drop from xs) number) where
  in_front : needs_of o (take from xs) ≡ []
  in_front =
      none_own o (take from xs) (recursion_from_All (λ said. own_need o said ≡ None) (take from xs)
      (λ k d lt. ap (λ t. cond t (Some (get_or (take from xs) k d).1) None) (before_not _ (before_point (λ said. is_before o said ≡ true) (λ said. is_before o said ≡ false) xs from begin le k d lt))))

  behind : needs_of o (drop number (drop from xs)) ≡ []
  behind =
      none_own o (drop number (drop from xs)) (recursion_from_All (λ said. own_need o said ≡ None) (drop number (drop from xs))
      (λ k d lt. ap (λ t. cond t (Some (get_or (drop number (drop from xs)) k d).1) None) (after_not _ (from_point (λ said. is_up_to o said ≡ true) (λ said. is_up_to o said ≡ false) (drop from xs) number end k d lt))))

  middle : needs_of o (take number (drop from xs)) ≡ map said_need (take number (drop from xs))
  middle =
      all_own o (take number (drop from xs)) (recursion_from_All (λ said. own_need o said ≡ Some said.1) (take number (drop from xs)) (λ k d lt.
      let low : k < number = omega (arith, lt, length-take number (drop from xs), within) in
      let late : is_before o (get_or (take number (drop from xs)) k d) ≡ false =
      subst (λ (y : Said). is_before o y ≡ false) (sym (get_or-take number (drop from xs) k d low)) (from_point (λ said. is_before o said ≡ true) (λ said. is_before o said ≡ false) xs from begin k d (omega (arith, low, within))) in
      let early = before_point (λ said. is_up_to o said ≡ true) (λ said. is_up_to o said ≡ false) (drop from xs) number end within k d lt in
      ap (λ t. cond t (Some (get_or (take number (drop from xs)) k d).1) None) (between_is _ late early)))

  -- those between the two indices are the operation's
  pub part_is : map said_need (take number (drop from xs)) ≡ needs_of o xs
  part_is =
      sym middle
      ∙ sym (append-nil (needs_of o (take number (drop from xs))))
      ∙ ap (λ ns. needs_of o (take number (drop from xs)) ++ ns) (sym behind)
      ∙ sym (filter_map-append (own_need o) (take number (drop from xs)) (drop number (drop from xs)))
      ∙ ap (needs_of o) (take-append-drop number (drop from xs))
      ∙ ap (λ ns. ns ++ needs_of o (drop from xs)) (sym in_front)
      ∙ sym (filter_map-append (own_need o) (take from xs) (drop from xs))
      ∙ ap (needs_of o) (take-append-drop from xs)

-- ---- those of an operation are by name
same_operation : (r s : Ordering) → r ≡ Equal → ordering_then r s ≡ Less → s ≡ Less
same_operation Less s e less = cc
same_operation Equal s e less = less
same_operation Greater s e less = cc

module _ (o : OpKey) where
  is_own : (said : Said) → eq_by_cmp operation_cmp said.0 o ≡ true → operation_cmp said.0 o ≡ Equal
  is_own said e = (Equal-is (operation_cmp said.0 o)).0 e

  names_later : (x : Said) → operation_cmp x.0 o ≡ Equal → (xs : List Said) → AllByRecursion (λ k. need_cmp (need_key x) k ≡ Less) (map need_key xs) → AllByRecursion (λ m. name_cmp x.1.name m ≡ Less) (map name_of (needs_of o xs))
  names_later x is [] h = tt
  names_later x is (y ∷ ys) h = by_test (eq_by_cmp operation_cmp y.0 o) refl (names_later x is ys h.1)
    where
      by_test : (t : Bool) → eq_by_cmp operation_cmp y.0 o ≡ t → AllByRecursion (λ m. name_cmp x.1.name m ≡ Less) (map name_of (needs_of o ys)) → AllByRecursion (λ m. name_cmp x.1.name m ≡ Less) (map name_of (cons_option (cond t (Some y.1) None) (needs_of o ys)))
      by_test true e rest =
          let one : x.0 ≡ o = operation_cmp-IsAntisymmetric x.0 o is in
          let two : y.0 ≡ o = operation_cmp-IsAntisymmetric y.0 o (is_own y e) in
          let tied : operation_cmp x.0 y.0 ≡ Equal = ap (operation_cmp x.0) (two ∙ sym one) ∙ tied_itself operation_cmp_total x.0 in
          (same_operation (operation_cmp x.0 y.0) (name_cmp x.1.name y.1.name) tied h.0, rest)
      by_test false e rest = rest

  pub own_in_order : (xs : List Said) → IsStrictlySortedBy need_cmp (map need_key xs) → AreInNameOrder (needs_of o xs)
  unfolding IsStrictlySortedBy
  own_in_order [] up = tt
  own_in_order (x ∷ xs) up = by_test (eq_by_cmp operation_cmp x.0 o) refl (own_in_order xs up.1)
    where
      by_test : (t : Bool) → eq_by_cmp operation_cmp x.0 o ≡ t → AreInNameOrder (needs_of o xs) → AreInNameOrder (cons_option (cond t (Some x.1) None) (needs_of o xs))
      by_test true e rest = (names_later x (is_own x e) xs up.0, rest)
      by_test false e rest = rest

-- ---- needs taken in one after another
-- those in front come before the next
come_earlier : (ns ms : List Need) (n : Need) → AreInNameOrder (ns ++ n ∷ ms) → ComeBefore (usages_of ns) n.name
come_earlier ns ms n up = λ r usage e.
    let found = need_by_usage ns (sorted_left name_cmp name_of ns (n ∷ ms) up) r usage e in
    subst (λ z. name_cmp z n.name ≡ Less) found.2 (at_member (λ y. name_cmp y n.name ≡ Less) (map name_of ns) found.0.name (sorted_before name_cmp name_of ns ms n up) (in_map name_of ns found.0 found.1))

needs_append : (xs ys : List Said) → map said_need (xs ++ ys) ≡ map said_need xs ++ map said_need ys
needs_append [] ys = refl
needs_append (x ∷ xs) ys = ap (λ ns. x.1 ∷ ns) (needs_append xs ys)

-- those before an index are as many usages
pub so_many : (xs : List Said) → AreInNameOrder (map said_need xs) → (i : ℕ) → i ≤ length xs → len (usages_of (map said_need (take i xs))) ≡ i
so_many xs up i le =
    let whole = subst AreInNameOrder (sym (ap (map said_need) (take-append-drop i xs)) ∙ needs_append (take i xs) (drop i xs)) up in
    let count = len-usages_of (map said_need (take i xs)) (sorted_left name_cmp name_of (map said_need (take i xs)) (map said_need (drop i xs)) whole) in
    omega (arith, count, length_map said_need (take i xs), length-take i xs, le)

module _ (xs : List Said) (up : AreInNameOrder (map said_need xs)) (i : ℕ) (said : Said) (lt : i < length xs) (is : said ≡ get_or xs i said) where
  around : map said_need (take i xs) ++ said.1 ∷ map said_need (drop (suc i) xs) ≡ map said_need xs
  around =
      sym (needs_append (take i xs) (said ∷ drop (suc i) xs))
      ∙ ap (map said_need) (ap (λ z. take i xs ++ z ∷ drop (suc i) xs) is ∙ ap (λ l. take i xs ++ l) (sym (drop-cons xs i said lt)) ∙ take-append-drop i xs)

  in_order : AreInNameOrder (map said_need (take i xs) ++ said.1 ∷ map said_need (drop (suc i) xs))
  in_order = subst AreInNameOrder (sym around) up

  front_in_order : AreInNameOrder (map said_need (take i xs))
  front_in_order = sorted_left name_cmp name_of (map said_need (take i xs)) (said.1 ∷ map said_need (drop (suc i) xs)) in_order

  -- those before an index come before what is there
  pub comes_next : ComeBefore (usages_of (map said_need (take i xs))) said.1.name
  comes_next = come_earlier (map said_need (take i xs)) (map said_need (drop (suc i) xs)) said.1 in_order

  -- with it, they are one more usage
  pub one_more : usages_of (map said_need (take (i + 1) xs)) ≡ insert (usages_of (map said_need (take i xs))) said.1.name (usage_of said.1)
  one_more =
      ap usages_of (map_more said_need xs i said lt ∙ ap (λ (z : Said). map said_need (take i xs) ++ z.1 ∷ []) (sym is))
      ∙ pushed_usages (map said_need (take i xs)) front_in_order said.1 comes_next
