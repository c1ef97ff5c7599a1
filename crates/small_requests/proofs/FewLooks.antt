-- A request that looks at few operation records of what it touches is within its allowance.
use Rattle.std.proofs.Common.{zero, suc, ◌<◌, ◌≡◌, ◌≢◌, ◌⊎◌, inl, inr, refl, sym, ◌∙◌, ap, subst, true≢false, arith, ℕ, ◌+◌, ◌*◌, ◌≤◌, Bool, true, false, not, cond, ◌||◌, List, [], ◌∷◌, ◌++◌, length, map, filter, flat_map, sum_by, count_by, Contains, length-append}
use Rattle.std.specs.List.{IsDistinct, list_any}
use Rattle.std.specs.Ordering.{eq_by_cmp}
use Rattle.std.specs.Cmp.{Equal-is}
use Rattle.std.specs.FinMap.{len}
use Rattle.std.specs.FinSet as set
use Rattle.std.proofs.lemmas.Cmp.{eq_by_cmp_equiv}
use Rattle.std.proofs.lemmas.List.Concat.{length-flat_map}
use Rattle.std.proofs.lemmas.List.Elements.{Contains-append_left, Contains-append_right, Contains-append_cases}
use Rattle.std.proofs.lemmas.List.Sums.{sum_by-cons, sum_by-le-sum_by, length-filter}
use Rattle.std.proofs.lemmas.Map.Made.{length-le_from_is_member}
use Rattle.plan_basics.specs.declared.keys.OpKey.{OpKey}
use Rattle.plan_basics.specs.Keys.{operation_cmp, operation_cmp-IsAntisymmetric, operation_cmp_total}
use Rattle.plan_drafts.proofs.Lists.{at_member, contains_cases, contains_head, contains_later, contains_none, in_map, length_map}
use Rattle.plan_model.proofs.Members.{if_member, in_items, member_if}
use Rattle.plan_model.specs.Contents.{Contents, Precedes}
use Rattle.plan_model.specs.Ready.{IsReadyList}
use Rattle.plan_model.specs.Valid.{IsAcyclic}
use Rattle.operation_graph.specs.Paths.{by_edge}
use Rattle.ready_list.proofs.Members.{all_by_members, contains_filter, contains_from_filter}
use Rattle.ready_list.specs.declared.ReadyKey.{ReadyKey}
use Rattle.plan_records.specs.Work.{IsAllowanceByChange, by_whole_plan, neighbours}
use Rattle.plan_records.specs.declared.What.{What}
use Rattle.plan_checks.specs.plan_laws.proofs.Choice.{one_ready_list}
use Rattle.plan_checks.specs.plan_laws.proofs.Pairs.{pair_cmp-IsAntisymmetric, pair_cmp_total}
use Rattle.small_requests.specs.FewLooks.{AreOnce, FollowsWork, IsFollower, IsTouching}

-- the two keys are one
abbrev same : OpKey → OpKey → Bool
same = eq_by_cmp operation_cmp

same_itself : (o : OpKey) → same o o ≡ true
same_itself o = (eq_by_cmp_equiv operation_cmp_total).refl o

-- whether the list has the key
abbrev has : List OpKey → OpKey → Bool
has ks k = list_any (same k) ks

-- those of the list that the other doesn't have
abbrev without : List OpKey → List OpKey → List OpKey
without ks xs = filter (λ k. not (has ks k)) xs

in_without : (ks xs : List OpKey) (k : OpKey) → Contains xs k → Contains ks k ⊎ Contains (without ks xs) k
in_without ks xs k h = by_test (has ks k) refl
  where
    by_test : (b : Bool) → has ks k ≡ b → Contains ks k ⊎ Contains (without ks xs) k
    by_test true e = inl (member_if operation_cmp-IsAntisymmetric ks k e)
    by_test false e = inr (contains_filter (λ x. not (has ks x)) xs k (ap not e) h)

from_without : (ks xs : List OpKey) (k : OpKey) → Contains (without ks xs) k → Contains xs k × ¬ Contains ks k
from_without ks xs k h =
    let r = contains_from_filter (λ x. not (has ks x)) xs k h in
    (r.0, λ there. true≢false (sym r.1 ∙ ap not (if_member operation_cmp_total ks k there)))

once_without : (ks xs : List OpKey) → AreOnce xs → AreOnce (without ks xs)
unfolding IsDistinct
once_without ks [] once = tt
once_without ks (x ∷ xs) once = by_test (not (has ks x)) (once_without ks xs once.1)
  where
    by_test : (b : Bool) → AreOnce (without ks xs) → AreOnce (cond b (x ∷ without ks xs) (without ks xs))
    by_test true rest = (all_by_members (λ y. same x y ≡ false) (without ks xs) (λ y h. at_member (λ z. same x z ≡ false) xs y once.0 (from_without ks xs y h).0), rest)
    by_test false rest = rest

pub not_same : (a b : OpKey) → a ≢ b → same a b ≡ false
not_same a b apart = by_test (same a b) refl
  where
    by_test : (t : Bool) → same a b ≡ t → t ≡ false
    by_test true e = absurd (apart (operation_cmp-IsAntisymmetric a b ((Equal-is (operation_cmp a b)).0 e)))
    by_test false e = refl

-- two lists that share nothing, end to end
pub once_both : (xs ys : List OpKey) → AreOnce xs → AreOnce ys → ((k : OpKey) → Contains xs k → ¬ Contains ys k) → AreOnce (xs ++ ys)
unfolding IsDistinct
once_both [] ys a b apart = b
once_both (x ∷ xs) ys a b apart = (
  all_by_members (λ y. same x y ≡ false) (xs ++ ys) (λ y h. elim (Contains-append_cases xs ys y h) [
    | inl left ↦ at_member (λ z. same x z ≡ false) xs y a.0 left
    | inr right ↦ not_same x y (λ e. apart x (contains_head x xs) (subst (Contains ys) (sym e) right))
  ]),
  once_both xs ys a.1 b (λ k h. apart k (contains_later x xs k h)),
)

-- a list without repeats is no longer than one that has all of it
pub length_within : (xs ys : List OpKey) → AreOnce xs → ((k : OpKey) → Contains xs k → Contains ys k) → length xs ≤ length ys
length_within xs ys once within = length-le_from_is_member (eq_by_cmp_equiv operation_cmp_total) xs ys once
    (λ k h. if_member operation_cmp_total ys k (within k (member_if operation_cmp-IsAntisymmetric xs k h)))

in_both : (xs ys : List OpKey) (k : OpKey) → Contains xs k ⊎ Contains ys k → Contains (xs ++ ys) k
in_both xs ys k (inl left) = Contains-append_left xs ys k left
in_both xs ys k (inr right) = Contains-append_right xs ys k right

-- nor longer than two that have it between them
pub length_within_both : (zs xs ys : List OpKey) → AreOnce zs → ((k : OpKey) → Contains zs k → Contains xs k ⊎ Contains ys k) → length zs ≤ length xs + length ys
length_within_both zs xs ys once within = omega (arith, length-append xs ys, length_within zs (xs ++ ys) once (λ k h. in_both xs ys k (within k h)))

in_flat_map : {X A : Type 0} (f : X → List A) (xs : List X) (x : X) (a : A) → Contains xs x → Contains (f x) a → Contains (flat_map f xs) a
in_flat_map f [] x a h k = absurd (contains_none x h)
in_flat_map f (y ∷ xs) x a h k = elim (contains_cases y xs x h) [
  | inl e ↦ Contains-append_left (f y) (flat_map f xs) a (subst (λ z. Contains (f z) a) (sym e) k)
  | inr later ↦ Contains-append_right (f y) (flat_map f xs) a (in_flat_map f xs x a later k)
]

sum_with_ones : {X : Type 0} (f : X → ℕ) (xs : List X) → sum_by (λ x. 1 + f x) xs ≡ length xs + sum_by f xs
sum_with_ones f [] = refl
sum_with_ones f (x ∷ xs) = omega (arith, sum_by-cons (λ y. 1 + f y) x xs, sum_by-cons f x xs, sum_with_ones f xs)

sum_of_both : {X : Type 0} (f g h : X → ℕ) (xs : List X) → ((x : X) → f x ≡ g x + h x) → sum_by f xs ≡ sum_by g xs + sum_by h xs
sum_of_both f g h [] each = refl
sum_of_both f g h (x ∷ xs) each = omega (arith, sum_by-cons f x xs, sum_by-cons g x xs, sum_by-cons h x xs, each x, sum_of_both f g h xs each)

-- where no member passes both tests, those that pass either are those that pass the one and those that pass the other
count_apart : {X : Type 0} (p q : X → Bool) (xs : List X) → ((x : X) → Contains xs x → p x ≡ true → q x ≡ false) → count_by (λ x. p x || q x) xs ≡ count_by p xs + count_by q xs
count_apart p q [] apart = refl
count_apart p q (x ∷ xs) apart = omega (
  arith,
  sum_by-cons (λ y. cond (p y) 1 0) x xs,
  sum_by-cons (λ y. cond (q y) 1 0) x xs,
  sum_by-cons (λ y. cond (p y || q y) 1 0) x xs,
  by_tests (p x) (q x) (apart x (contains_head x xs)),
  count_apart p q xs (λ y h. apart y (contains_later x xs y h)),
)
  where
    by_tests : (a b : Bool) → (a ≡ true → b ≡ false) → cond (a || b) 1 0 ≡ cond a 1 0 + cond b 1 0
    by_tests true true e = absurd (true≢false (e refl))
    by_tests true false e = omega arith
    by_tests false b e = omega arith

-- a list has one at least, where it has this one
not_empty : {X : Type 0} (xs : List X) (x : X) → Contains xs x → 0 < length xs
not_empty [] x h = absurd (contains_none x h)
not_empty (y ∷ xs) x h = omega arith

-- whether it is another number than 0
abbrev is_some_number : ℕ → Bool
is_some_number zero = false
is_some_number (suc n) = true

some_test : (n : ℕ) → 0 < n → is_some_number n ≡ true
some_test zero h = absurd (omega (arith, h))
some_test (suc n) h = refl

some_few : (n : ℕ) → cond (is_some_number n) 1 0 ≤ n
some_few zero = omega arith
some_few (suc n) = omega arith

-- what pairs lead to from one operation
abbrev successors : Contents → OpKey → List OpKey
successors Q o = map (λ (x : OpKey × OpKey). x.1) (filter (λ x. same o x.0) (set.items Q.pairs))

in_successors : (Q : Contents) (c o : OpKey) → Precedes Q c o → Contains (successors Q c) o
in_successors Q c o pair =
    in_map (λ (x : OpKey × OpKey). x.1) (filter (λ x. same c x.0) (set.items Q.pairs)) (c, o)
    (contains_filter (λ x. same c x.0) (set.items Q.pairs) (c, o) (same_itself c) ((in_items pair_cmp_total pair_cmp-IsAntisymmetric Q.pairs (c, o)).0 pair))

-- how many they are
abbrev following : Contents → OpKey → ℕ
following Q o = count_by (λ x. same o x.0) (set.items Q.pairs)

-- how many pairs lead to it
abbrev preceding : Contents → OpKey → ℕ
preceding Q o = count_by (λ x. same o x.1) (set.items Q.pairs)

few_successors : (Q : Contents) (o : OpKey) → length (successors Q o) ≤ following Q o
few_successors Q o =
    let whole = length_map (λ (x : OpKey × OpKey). x.1) (filter (λ x. same o x.0) (set.items Q.pairs)) in
    let wait_states = length-filter (λ x. same o x.0) (set.items Q.pairs) in
    omega (arith, whole, wait_states)

-- no pair leads from an operation to itself, so none is counted twice
both_ways : (Q : Contents) → IsAcyclic Q.pairs → (o : OpKey) → neighbours Q o ≡ following Q o + preceding Q o
both_ways Q acyclic o = count_apart (λ x. same o x.0) (λ x. same o x.1) (set.items Q.pairs) (λ x h e. by_test x h e (same o x.1) refl)
  where
    by_test : (x : OpKey × OpKey) → Contains (set.items Q.pairs) x → same o x.0 ≡ true → (b : Bool) → same o x.1 ≡ b → b ≡ false
    by_test x h e true f =
        let pair : Precedes Q x.0 x.1 = (in_items pair_cmp_total pair_cmp-IsAntisymmetric Q.pairs x).1 h in
        let from : o ≡ x.0 = operation_cmp-IsAntisymmetric o x.0 ((Equal-is (operation_cmp o x.0)).0 e) in
        let to : o ≡ x.1 = operation_cmp-IsAntisymmetric o x.1 ((Equal-is (operation_cmp o x.1)).0 f) in
        absurd (acyclic o (by_edge (subst (λ z. Precedes Q o z) (sym to) (subst (λ z. Precedes Q z x.1) (sym from) pair))))
    by_test x h e false f = refl

some_precede : (Q : Contents) (p o : OpKey) → Precedes Q p o → 0 < preceding Q o
some_precede Q p o pair =
    let there = contains_filter (λ x. same o x.1) (set.items Q.pairs) (p, o) (same_itself o) ((in_items pair_cmp_total pair_cmp-IsAntisymmetric Q.pairs (p, o)).0 pair) in
    omega (arith, not_empty (filter (λ x. same o x.1) (set.items Q.pairs)) (p, o) there, length-filter (λ x. same o x.1) (set.items Q.pairs))

-- those of these operations that some pair leads to
abbrev led : Contents → List OpKey → List OpKey
led Q os = filter (λ o. is_some_number (preceding Q o)) os

few_led : (Q : Contents) (os : List OpKey) → length (led Q os) ≤ sum_by (preceding Q) os
few_led Q os = omega (
  arith,
  length-filter (λ o. is_some_number (preceding Q o)) os,
  sum_by-le-sum_by (λ o. cond (is_some_number (preceding Q o)) 1 0) (preceding Q) os (λ o. some_few (preceding Q o)),
)

-- what follows one of these operations
abbrev after_these : Contents → List OpKey → List OpKey
after_these Q os = flat_map (successors Q) os

few_after : (Q : Contents) (os : List OpKey) → length (after_these Q os) ≤ sum_by (following Q) os
few_after Q os =
    let long = length-flat_map (successors Q) os in
    let few = sum_by-le-sum_by (λ o. length (successors Q o)) (following Q) os (few_successors Q) in
    omega (arith, long, few)

module _ {P : Contents} {w : What} {Q : Contents} {n : ℕ} (acyclic : IsAcyclic Q.pairs) (a : IsAllowanceByChange P w Q n) where
  in_led : (o : OpKey) → IsFollower P w Q o → Contains (led Q a.operations) o
  in_led o f = contains_filter (λ x. is_some_number (preceding Q x)) a.operations o (some_test (preceding Q o) (some_precede Q f.1.0 o f.1.1)) ((a.worked_on o).1 f.0)

  in_after : (o : OpKey) → FollowsWork P w Q o → Contains (after_these Q a.operations) o
  in_after o f = in_flat_map (successors Q) a.operations f.0 o ((a.worked_on f.0).1 f.1) (in_successors Q f.0 o f.2)

  -- predecessors and successors of what is worked on are its neighbours
  all_neighbours : sum_by (neighbours Q) a.operations ≡ sum_by (following Q) a.operations + sum_by (preceding Q) a.operations
  all_neighbours = sum_of_both (neighbours Q) (following Q) (preceding Q) a.operations (both_ways Q acyclic)

  module _ {first edited followers zeros named touched : List OpKey} (t : IsTouching P w Q first edited followers zeros named touched) where
    -- the edited but for the first
    abbrev others : List OpKey
    others = without first edited

    -- the named that aren't edited
    abbrev new : List OpKey
    new = without edited named

    -- the touched that are neither
    abbrev next : List OpKey
    next = without (edited ++ named) touched

    few_edited : length edited ≤ length first + length others
    few_edited = length_within_both edited first others t.edited_once (in_without first edited)

    few_named : length named ≤ length edited + length new
    few_named = length_within_both named edited new t.named_once (in_without edited named)

    few_touched : length touched ≤ length edited + length new + length next
    few_touched = omega (
      arith,
      length-append edited new,
      length_within_both touched (edited ++ new) next t.touched_once (λ o h. elim (in_without (edited ++ named) touched o h) [
        | inl there ↦ inl (elim (Contains-append_cases edited named o there) [
          | inl e ↦ Contains-append_left edited new o e
          | inr s ↦ in_both edited new o (in_without edited named o s)
        ])
        | inr rest ↦ inr rest
      ]),
    )

    -- the edited and the named are worked on
    many_operations : length edited + length new ≤ length a.operations
    many_operations = omega (
      arith,
      length-append edited new,
      length_within (edited ++ new) a.operations
          (once_both edited new t.edited_once (once_without edited named t.named_once) (λ o e s. (from_without edited named o s).1 e))
          (λ o h. (a.worked_on o).1 (elim (Contains-append_cases edited new o h) [
            | inl e ↦ t.edited_is_work o e
            | inr s ↦ t.named_is_work o (from_without edited named o s).0
          ])),
    )

    others_follow : (o : OpKey) → Contains others o → FollowsWork P w Q o
    others_follow o h =
        let r = from_without first edited o h in
        elim (t.edited_in_turn o r.0) [ inl e ↦ absurd (r.1 e) | inr f ↦ f ]

    next_follow : (o : OpKey) → Contains next o → FollowsWork P w Q o
    next_follow o h =
        let r = from_without (edited ++ named) touched o h in
        elim (t.touched_by o r.0) [
          | inl e ↦ absurd (r.1 (Contains-append_left edited named o e))
          | inr later ↦ elim later [ inl f ↦ f | inr s ↦ absurd (r.1 (Contains-append_right edited named o s)) ]
        ]

    -- a pair leads from what is worked on to each of the others and the next
    many_after : length others + length next ≤ sum_by (following Q) a.operations
    many_after = omega (
      arith,
      length-append others next,
      few_after Q a.operations,
      length_within (others ++ next) (after_these Q a.operations)
          (once_both others next (once_without first edited t.edited_once) (once_without (edited ++ named) touched t.touched_once)
          (λ o e m. (from_without (edited ++ named) touched o m).1 (Contains-append_left edited named o (from_without first edited o e).0)))
          (λ o h. in_after o (elim (Contains-append_cases others next o h) [ inl e ↦ others_follow o e | inr m ↦ next_follow o m ])),
    )

    many_led : length followers ≤ sum_by (preceding Q) a.operations
    many_led = omega (arith, few_led Q a.operations, length_within followers (led Q a.operations) t.followers_once (λ o h. in_led o (t.are_followers o h)))

    few_zeros : length zeros ≤ sum_by (following Q) a.operations + sum_by (preceding Q) a.operations
    few_zeros = omega (
      arith,
      few_led Q a.operations,
      few_after Q a.operations,
      length_within_both zeros (led Q a.operations) (after_these Q a.operations) t.zeros_once
          (λ o h. elim (t.zeros_in_turn o h) [ inl f ↦ inl (in_led o f) | inr s ↦ inr (in_after o s) ]),
    )

    -- a few looks to begin with, three at each edited operation, one more at each follower and each zero, one for each entry that the choice is asked of, and three at each touched one are within the allowance
    pub few_looks : (base asked work : ℕ) → base + 3 * length first ≤ 4 → asked ≤ length a.after + length named →
        work ≤ base + 3 * length edited + length followers + length zeros + asked + 3 * length touched → work ≤ n
    few_looks base asked work few_first few_asked few =
        omega (arith, few_edited, few_named, few_touched, many_operations, many_after, many_led, few_zeros, all_neighbours, sum_with_ones (neighbours Q) a.operations, a.is, few_first, few_asked, few)

    -- the same, with any ready list of the plan that is left
    pub few_looks_listed : (after : List ReadyKey) → IsReadyList Q after → (base asked work : ℕ) → base + 3 * length first ≤ 4 → asked ≤ length after + length named →
        work ≤ base + 3 * length edited + length followers + length zeros + asked + 3 * length touched → work ≤ n
    few_looks_listed after ready base asked work few_first few_asked few =
        let entries : length after ≡ length a.after = ap length (one_ready_list Q after a.after ready a.ready_after) in
        few_looks base asked work few_first (subst (λ k. asked ≤ k + length named) entries few_asked) few

-- a look, and four at each record of the plan that it leads to, are within the allowance by the whole plan
pub four_looks_each : (Q : Contents) (work : ℕ) → work ≤ 1 + 4 * len Q.operations → work ≤ by_whole_plan Q
four_looks_each Q work few = omega (arith, few)
