-- How much holders of a resource hold together, beside one of them.
use Rattle.std.proofs.Common.{◌≡◌, ◌≢◌, ◌⊎◌, ◌↔◌, inl, inr, refl, sym, ap, subst, ◌∙◌, true≢false, arith, ℕ, zero, suc, ◌+◌, ◌≤◌, ◌<◌}
use Rattle.std.proofs.Common.{Bool, true, false, cond, List, [], ◌∷◌, map, take, length, get_or, Contains, Some, ap₂, Less, Equal}
use Rattle.std.specs.List.{All, AllPairs, sum_by}
use Rattle.std.specs.Cmp.{tied_itself}
use Rattle.std.specs.Ordering.{eq_by_cmp, is_eq}
use Rattle.std.specs.FinMap.{get}
use Rattle.std.proofs.lemmas.List.Elements.{All-cons, All-contains, All-head, All-nil, All-tail, Contains-get_or}
use Rattle.std.proofs.lemmas.List.Kept.{AllPairs-cons}
use Rattle.std.proofs.lemmas.List.Sums.{sum_by-cons, sum_by-take-le, sum_by_more}
use Rattle.std.proofs.lemmas.List.{length-map, take_all}
use Rattle.std.proofs.lemmas.Map.Keys.{Less-from_sorted}
use Rattle.std.proofs.Math.ListN.{get_or-map}
use Rattle.std.proofs.lemmas.Option.{same_Some}
use Rattle.plan_basics.proofs.Members.{contains_cases, contains_head, contains_later, contains_none, tied_is}
use Rattle.plan_basics.specs.Keys.{Name, operation_cmp, operation_cmp_total, operation_cmp-IsAntisymmetric}
use Rattle.plan_basics.specs.declared.keys.OpKey.{OpKey}
use Rattle.special_resources.specs.Holders.{AreHolders, HoldNoMoreThan, HoldsAmount, LeavesEnough, OtherHolds, Usage, amount_held}
use Rattle.special_resources.specs.Holdings.{AreInOrder, Held, HoldsIn, amount_beside, holding_cmp, holding_of, usage_of}
use Rattle.special_resources.proofs.Orders.{holding_cmp_total}
use Rattle.special_resources.specs.declared.Claim.{Claim}
use Rattle.special_resources.specs.declared.Need.{Need}
use Rattle.special_resources.specs.declared.holders.Holder.{Holder}

-- ---- of a list, in which no key is twice, what stands at one key

-- the first of each pair isn't that of a later one
abbrev pub AreOnce : {K : Type 0} → List (K × ℕ) → Type 0
AreOnce hs = AllPairs (λ a b. a.0 ≢ b.0) hs

module _ {K : Type 0} where
  pub once_tail : (h : K × ℕ) (hs : List (K × ℕ)) → AreOnce (h ∷ hs) → AreOnce hs
  once_tail h hs once i j d lt within = once (suc i) (suc j) d (omega (arith, lt)) (omega (arith, within))

  pub once_head : (h : K × ℕ) (hs : List (K × ℕ)) → AreOnce (h ∷ hs) → All (λ g. h.0 ≢ g.0) hs
  once_head h hs once k d lt = once 0 (suc k) d (omega arith) (omega (arith, lt))

  -- one has the key, and so much is held by the others, of which none has it
  pub record TakenOut (k : K) (P : K × ℕ → Type 0) (hs : List (K × ℕ)) : Type 0 where
    pub amount : ℕ
    pub is : P (k, amount)
    pub rest : List (K × ℕ)
    pub once : AreOnce rest
    pub each : All (λ h. (h.0 ≢ k) × P h) rest
    pub sum : amount_held hs ≡ amount + amount_held rest

  module _ (told : (a b : K) → (a ≡ b) ⊎ (a ≢ b)) (k : K) where
    -- none has the key, or one has it
    pub take_out : (P : K × ℕ → Type 0) (hs : List (K × ℕ)) → AreOnce hs → All P hs → All (λ h. (h.0 ≢ k) × P h) hs ⊎ TakenOut k P hs
    take_out P [] once each = inl (All-nil (λ h. (h.0 ≢ k) × P h))
    take_out P (h ∷ hs) once each =
        let first = All-head P h hs each in
        let later = All-tail P h hs each in
        let apart = once_head h hs once in
        let Q : K × ℕ → Type 0 = λ g. (h.0 ≢ g.0) × P g in
        elim (told h.0 k) [
          | inl is ↦ inr (record {
            amount = h.1;
            is = subst (λ z. P (z, h.1)) is first;
            rest = hs;
            once = once_tail h hs once;
            each = λ i d lt. (λ e. apart i d lt (is ∙ sym e), later i d lt);
            sum = sum_by-cons (λ g. g.1) h hs;
          })
          | inr is_not ↦ elim (take_out Q hs (once_tail h hs once) (λ i d lt. (apart i d lt, later i d lt))) [
            | inl none ↦ inl (All-cons (λ g. (g.0 ≢ k) × P g) h hs (is_not, first) (λ i d lt. ((none i d lt).0, (none i d lt).1.1)))
            | inr one ↦ inr (record {
              amount = one.amount;
              is = one.is.1;
              rest = h ∷ one.rest;
              once = AllPairs-cons (λ a b. a.0 ≢ b.0) h one.rest (λ i d lt. (one.each i d lt).1.0) one.once;
              each = All-cons (λ g. (g.0 ≢ k) × P g) h one.rest (is_not, first) (λ i d lt. ((one.each i d lt).0, (one.each i d lt).1.1));
              sum = omega (arith, sum_by-cons (λ (g : K × ℕ). g.1) h hs, sum_by-cons (λ (g : K × ℕ). g.1) h one.rest, one.sum);
            })
          ]
        ]

-- some of these, each once, hold no more than all
module _ {K : Type 0} (told : (a b : K) → (a ≡ b) ⊎ (a ≢ b)) where
  in_later : (x : K × ℕ) (hs : List (K × ℕ)) (h : K × ℕ) → h.0 ≢ x.0 → Contains (x ∷ hs) h → Contains hs h
  in_later x hs h apart has = elim (contains_cases x hs h has) [ inl same ↦ absurd (apart (ap (λ (z : K × ℕ). z.0) (sym same))) | inr later ↦ later ]

  pub part_of : (hs : List (K × ℕ)) → AreOnce hs → (gs : List (K × ℕ)) → AreOnce gs → All (Contains hs) gs → amount_held gs ≤ amount_held hs
  part_of [] one [] once each = omega arith
  part_of [] one (g ∷ gs) once each = absurd (contains_none g (All-head (Contains []) g gs each))
  part_of (x ∷ hs) one gs once each =
      let cons = sum_by-cons (λ (h : K × ℕ). h.1) x hs in
      let rest = once_tail x hs one in
      elim (take_out told x.0 (Contains (x ∷ hs)) gs once each) [
        | inl none ↦
            let fewer = part_of hs rest gs once (λ i d lt. in_later x hs (get_or gs i d) (none i d lt).0 (none i d lt).1) in
            omega (arith, cons, fewer)
        | inr taken ↦
            let fewer = part_of hs rest taken.rest taken.once (λ i d lt. in_later x hs (get_or taken.rest i d) (taken.each i d lt).0 (taken.each i d lt).1) in
            let amount : taken.amount ≡ x.1 = elim (contains_cases x hs (x.0, taken.amount) taken.is) [
              | inl same ↦ ap (λ (z : K × ℕ). z.1) (sym same)
              | inr later ↦ absurd (All-contains (λ (g : K × ℕ). x.0 ≢ g.0) hs (x.0, taken.amount) (once_head x hs one) later refl)
            ] in
            omega (arith, cons, fewer, taken.sum, amount)
      ]

-- ---- of a resource's holders

pub same_operation : (a b : OpKey) → (a ≡ b) ⊎ (a ≢ b)
same_operation a b = by_test (eq_by_cmp operation_cmp a b) refl
  where
    by_test : (t : Bool) → eq_by_cmp operation_cmp a b ≡ t → (a ≡ b) ⊎ (a ≢ b)
    by_test true e = inl (tied_is operation_cmp-IsAntisymmetric a b e)
    by_test false e = inr (λ same. true≢false (sym (ap is_eq (ap (operation_cmp a) (sym same) ∙ tied_itself operation_cmp_total a)) ∙ e))

-- how much these take from o
abbrev pub taken_from : OpKey → List Holder → ℕ
taken_from o items = sum_by (amount_beside o) items

own_amount : (o : OpKey) (h : Holder) → h.operation ≡ o → amount_beside o h ≡ 0
own_amount o h e = ap (λ b. cond b 0 h.claim.amount) (ap is_eq (ap (operation_cmp h.operation) (sym e) ∙ tied_itself operation_cmp_total h.operation))

other_amount : (o : OpKey) (h : Holder) → h.operation ≢ o → amount_beside o h ≡ h.claim.amount
other_amount o h apart = by_test (eq_by_cmp operation_cmp h.operation o) refl
  where
    by_test : (t : Bool) → eq_by_cmp operation_cmp h.operation o ≡ t → amount_beside o h ≡ h.claim.amount
    by_test true e = absurd (apart (tied_is operation_cmp-IsAntisymmetric h.operation o e))
    by_test false e = ap (λ b. cond b 0 h.claim.amount) e

module _ (held : Held) (o : OpKey) (r : Name) where
  -- what is said of another that holds the resource, and that is one of these
  abbrev pub IsAmong : List Holder → OpKey × ℕ → Type 0
  IsAmong items h = HoldsAmount (OtherHolds (HoldsIn held) o) h.0 r h.1 × ((x : Holder) × Contains items x × (x.operation ≡ h.0))

  abbrev pub AreHeld : List Holder → Type 0
  AreHeld items = All (λ h. get held (r, h.operation) ≡ Some h.claim) items

  in_rest : (x : Holder) (items : List Holder) (h : OpKey × ℕ) → h.0 ≢ x.operation → IsAmong (x ∷ items) h → IsAmong items h
  in_rest x items h apart (holds, (y, there, e)) = elim (contains_parts x items y there) [
    | inl is ↦ absurd (apart (sym e ∙ ap (λ (z : Holder). z.operation) (sym is)))
    | inr later ↦ (holds, (y, later, e))
  ]
    where
      contains_parts : (x : Holder) (items : List Holder) (y : Holder) → Contains (x ∷ items) y → (x ≡ y) ⊎ Contains items y
      contains_parts x items y (zero, lt, e) = inl e
      contains_parts x items y (suc i, lt, e) = inr (i, omega (arith, lt), e)

  -- others that are among these hold no more than these take from o
  pub within : (items : List Holder) → AreHeld items → (hs : List (OpKey × ℕ)) → AreOnce hs → All (IsAmong items) hs → amount_held hs ≤ taken_from o items
  within [] are [] once each = omega arith
  within [] are (h ∷ hs) once each = absurd (contains_none _ (All-head (IsAmong []) h hs each).1.1)
  within (x ∷ items) are hs once each =
      let rest = All-tail (λ h. get held (r, h.operation) ≡ Some h.claim) x items are in
      let cons = sum_by-cons (amount_beside o) x items in
      elim (take_out same_operation x.operation (IsAmong (x ∷ items)) hs once each) [
        | inl none ↦
            let fewer = within items rest hs once (λ i d lt. in_rest x items (get_or hs i d) (none i d lt).0 (none i d lt).1) in
            omega (arith, cons, fewer)
        | inr one ↦
            let fewer = within items rest one.rest one.once (λ i d lt. in_rest x items (get_or one.rest i d) (one.each i d lt).0 (one.each i d lt).1) in
            let so = one.is.0 in
            let same : so.0.claim ≡ x.claim = same_Some so.0.claim x.claim (sym so.1.1 ∙ All-head (λ h. get held (r, h.operation) ≡ Some h.claim) x items are) in
            let its : amount_beside o x ≡ x.claim.amount = other_amount o x so.1.0 in
            let amount : x.claim.amount ≡ one.amount = ap (λ (c : Claim). c.amount) (sym same) ∙ so.2 in
            omega (arith, cons, fewer, one.sum, its, amount)
      ]

  -- the others among these
  abbrev pub others : List Holder → List (OpKey × ℕ)
  others [] = []
  others (x ∷ items) = cond (eq_by_cmp operation_cmp x.operation o) (others items) ((x.operation, x.claim.amount) ∷ others items)

  -- no operation is twice
  abbrev pub AreApart : List Holder → Type 0
  AreApart items = AllPairs (λ a b. a.operation ≢ b.operation) items

  -- what holds of each of these but o holds of the others among them
  pub all_others : (P : OpKey × ℕ → Type 0) (items : List Holder) → All (λ h. h.operation ≢ o → P (h.operation, h.claim.amount)) items → All P (others items)
  all_others P [] each = All-nil P
  all_others P (x ∷ items) each =
      let Q = λ (h : Holder). h.operation ≢ o → P (h.operation, h.claim.amount) in
      by_test (eq_by_cmp operation_cmp x.operation o) refl (All-head Q x items each) (all_others P items (All-tail Q x items each))
    where
      by_test : (t : Bool) → eq_by_cmp operation_cmp x.operation o ≡ t → (x.operation ≢ o → P (x.operation, x.claim.amount)) → All P (others items)
          → All P (cond t (others items) ((x.operation, x.claim.amount) ∷ others items))
      by_test true e first later = later
      by_test false e first later = All-cons P _ (others items) (first (λ same. true≢false (sym (ap is_eq (ap (operation_cmp x.operation) (sym same) ∙ tied_itself operation_cmp_total x.operation)) ∙ e))) later

  pub others_once : (items : List Holder) → AreApart items → AreOnce (others items)
  others_once [] apart = λ i j d lt within. absurd (omega (arith, within))
  others_once (x ∷ items) apart =
      let first : All (λ (h : Holder). x.operation ≢ h.operation) items = λ k d lt. apart 0 (suc k) d (omega arith) (omega (arith, lt)) in
      by_test (eq_by_cmp operation_cmp x.operation o) (all_others (λ h. x.operation ≢ h.0) items (λ k d lt _. first k d lt))
      (others_once items (λ i j d lt within. apart (suc i) (suc j) d (omega (arith, lt)) (omega (arith, within))))
    where
      by_test : (t : Bool) → All (λ (h : OpKey × ℕ). x.operation ≢ h.0) (others items) → AreOnce (others items)
          → AreOnce (cond t (others items) ((x.operation, x.claim.amount) ∷ others items))
      by_test true first later = later
      by_test false first later = AllPairs-cons (λ a b. a.0 ≢ b.0) _ (others items) first later

  -- they hold just what these take from o
  pub amount_others : (items : List Holder) → amount_held (others items) ≡ taken_from o items
  amount_others [] = refl
  amount_others (x ∷ items) = by_test (eq_by_cmp operation_cmp x.operation o) (amount_others items) ∙ sym (sum_by-cons (amount_beside o) x items)
    where
      by_test : (t : Bool) → amount_held (others items) ≡ taken_from o items
          → amount_held (cond t (others items) ((x.operation, x.claim.amount) ∷ others items)) ≡ cond t 0 x.claim.amount + taken_from o items
      by_test true e = let zero_more : 0 + taken_from o items ≡ taken_from o items = omega arith in e ∙ sym zero_more
      by_test false e = sum_by-cons (λ (h : OpKey × ℕ). h.1) (x.operation, x.claim.amount) (others items) ∙ ap (λ n. x.claim.amount + n) e

-- ---- what a need finds beside the holders of its resource

-- holders of one resource are different operations
pub holding_apart : (items : List Holder) → AreInOrder items → (r : Name) → ((h : Holder) → Contains items h → h.resource ≡ r) → AllPairs (λ a b. a.operation ≢ b.operation) items
holding_apart items sorted r same i j d lt inside e =
    let here = get_or items i d in
    let there = get_or items j d in
    let up = Less-from_sorted holding_cmp (map holding_of items) i j (holding_of d) sorted lt (omega (arith, inside, length-map items holding_of)) in
    let later : holding_cmp (holding_of here) (holding_of there) ≡ Less =
    ap₂ holding_cmp (sym (get_or-map holding_of items i d)) (sym (get_or-map holding_of items j d)) ∙ up in
    let resource : here.resource ≡ there.resource = same here (Contains-get_or items i d (omega (arith, lt, inside))) ∙ sym (same there (Contains-get_or items j d inside)) in
    let one : holding_of here ≡ holding_of there = λ k. (resource k, e k) in
    less_not_equal (sym later ∙ ap (λ z. holding_cmp z (holding_of there)) one ∙ (tied_itself holding_cmp_total (holding_of there)))
  where
    less_not_equal : Less ≡ Equal → ⊥
    less_not_equal e = cc

module _ (held : Held) (o : OpKey) (need : Need) (items : List Holder) (sorted : AreInOrder items)
    (members : (h : Holder) → Contains items h ↔ ((h.resource ≡ need.name) × (get held (holding_of h) ≡ Some h.claim))) where
  each_held : AreHeld held o need.name items
  each_held = λ k d lt.
      let h = get_or items k d in
      let it = (members h).0 (Contains-get_or items k d lt) in
      subst (λ z. get held (z, h.operation) ≡ Some h.claim) it.0 it.1

  -- where what they take and the need are at most the quantity, enough is left
  pub enough_by : (quantity : ℕ) → taken_from o items + need.amount ≤ quantity → LeavesEnough quantity (HoldsIn held) o need.name (usage_of need)
  enough_by quantity fits hs are =
      let few = within held o need.name items each_held hs are.once (λ k d lt.
      let h = get_or hs k d in
      let it = are.hold k d lt in
      let x : Holder = record { resource = need.name; operation = h.0; claim = it.0.claim } in
      (it, (x, (members x).1 (refl, it.1.1), refl))) in
      omega (arith, few, fits)

  -- and only there
  pub by_enough : (quantity : ℕ) → LeavesEnough quantity (HoldsIn held) o need.name (usage_of need) → taken_from o items + need.amount ≤ quantity
  by_enough quantity enough =
      let them = others held o need.name items in
      let apart = holding_apart items sorted need.name (λ h has. ((members h).0 has).0) in
      let most : amount_held them + need.amount ≤ quantity = enough them (record {
        once = others_once held o need.name items apart;
        hold = all_others held o need.name (λ h. HoldsAmount (OtherHolds (HoldsIn held) o) h.0 need.name h.1) items (λ k d lt differs. (record { claim = (get_or items k d).claim; keep = false }, (differs, each_held k d lt), refl));
      }) in
      omega (arith, most, amount_others held o need.name items)

-- how much the first of them take, and one more
pub taken_more : (o : OpKey) (items : List Holder) (i : ℕ) (d : Holder) → i < length items → taken_from o (take (i + 1) items) ≡ taken_from o (take i items) + amount_beside o (get_or items i d)
taken_more o = sum_by_more (amount_beside o)

pub taken_most : (o : OpKey) (items : List Holder) (i : ℕ) → taken_from o (take i items) ≤ taken_from o items
taken_most o = sum_by-take-le (amount_beside o)

pub taken_all : (o : OpKey) (items : List Holder) (i : ℕ) → length items ≤ i → taken_from o (take i items) ≡ taken_from o items
taken_all o items i past = ap (taken_from o) (take_all i items past)

-- ---- who holds what, before and after a change

module _ {K : Type 0} (told : (a b : K) → (a ≡ b) ⊎ (a ≢ b)) (r : Name) (quantity : ℕ) where
  -- where none holds more than before
  pub no_more : (before after : K → Name → Usage → Type 0) → ((k : K) (u : Usage) → after k r u → before k r u) → HoldNoMoreThan quantity before r → HoldNoMoreThan quantity after r
  no_more before after was bound hs are = bound hs (record { once = are.once; hold = λ i d lt. let h = are.hold i d lt in (h.0, was _ h.0 h.1, h.2) })

  -- where none holds any
  pub none_held : (holds : K → Name → Usage → Type 0) → ((k : K) (u : Usage) → ¬ holds k r u) → HoldNoMoreThan quantity holds r
  none_held holds none [] are = omega (arith)
  none_held holds none (h ∷ hs) are = let first = All-head (λ h. HoldsAmount holds h.0 r h.1) h hs are.hold in absurd (none _ first.0 first.1)

  -- and where o alone may, for whom enough is left
  pub one_more : (before after : K → Name → Usage → Type 0) (o : K) → ((k : K) (u : Usage) → k ≢ o → after k r u → before k r u) → ((u : Usage) → after o r u → LeavesEnough quantity before o r u)
      → HoldNoMoreThan quantity before r → HoldNoMoreThan quantity after r
  one_more before after o was leaves bound hs are = elim (take_out told o (λ h. HoldsAmount after h.0 r h.1) hs are.once are.hold) [
    | inl none ↦ bound hs (record { once = are.once; hold = λ i d lt. let h = none i d lt in (h.1.0, was _ h.1.0 h.0 h.1.1, h.1.2) })
    | inr one ↦
        let rest = leaves one.is.0 one.is.1 one.rest (record { once = one.once; hold = λ i d lt. let h = one.each i d lt in (h.1.0, (h.0, was _ h.1.0 h.0 h.1.1), h.1.2) }) in
        omega (arith, rest, one.sum, one.is.2)
  ]

  -- what o holds already is left for it
  pub leaves_own : (holds : K → Name → Usage → Type 0) (o : K) (u : Usage) → holds o r u → HoldNoMoreThan quantity holds r → LeavesEnough quantity holds o r u
  leaves_own holds o u own bound others are =
      let all = bound ((o, u.claim.amount) ∷ others) (record {
        once = AllPairs-cons (λ (a b : K × ℕ). a.0 ≢ b.0) (o, u.claim.amount) others (λ i d lt e. (are.hold i d lt).1.0 (sym e)) are.once;
        hold = All-cons (λ (h : K × ℕ). HoldsAmount holds h.0 r h.1) (o, u.claim.amount) others (u, own, refl) (λ i d lt. let h = are.hold i d lt in (h.0, h.1.1, h.2));
      }) in
      omega (arith, all, sum_by-cons (λ (h : K × ℕ). h.1) (o, u.claim.amount) others)

  -- it is left by those who hold, and as much, however their usages are told
  pub leaves_alike : (before after : K → Name → Usage → Type 0) (o : K) (u : Usage) → ((k : K) (x : Usage) → after k r x → (y : Usage) × before k r y × (y.claim.amount ≡ x.claim.amount))
      → LeavesEnough quantity before o r u → LeavesEnough quantity after o r u
  leaves_alike before after o u was leaves others are = leaves others (record {
    once = are.once;
    hold = λ i d lt. let h = are.hold i d lt in let b = was _ h.0 h.1.1 in (b.0, (h.1.0, b.1), b.2 ∙ h.2);
  })

-- ---- all holders of a resource, found among these keys

module _ {K : Type 0} (told : (a b : K) → (a ≡ b) ⊎ (a ≢ b)) (holds : K → Name → Usage → Type 0) (r : Name) where
  -- all that hold it, each once, and how much each holds
  pub record AreAllHolders (holders : List (K × ℕ)) : Type 0 where
    pub are : AreHolders holds r holders
    pub all : (k : K) (u : Usage) → holds k r u → Contains holders (k, u.claim.amount)

  module _ (hs : List (K × ℕ)) (all : AreAllHolders hs) where
    -- whichever of them are taken together hold no more than all
    pub some_of_all : (gs : List (K × ℕ)) → AreHolders holds r gs → amount_held gs ≤ amount_held hs
    some_of_all gs are = part_of told hs all.are.once gs are.once (λ i d lt.
        let h = are.hold i d lt in
        subst (λ n. Contains hs ((get_or gs i d).0, n)) h.2 (all.all (get_or gs i d).0 h.0 h.1))

  module _ (find : (k : K) → ((u : Usage) × holds k r u) ⊎ ((u : Usage) → ¬ holds k r u)) (one : (k : K) (u v : Usage) → holds k r u → holds k r v → u ≡ v) where
    -- those of the keys of a list
    record AreHoldersAmong (ks : List K) (holders : List (K × ℕ)) : Type 0 where
      pub are : AreHolders holds r holders
      pub among : All (λ h. Contains ks h.0) holders
      pub all : (k : K) (u : Usage) → Contains ks k → holds k r u → Contains holders (k, u.claim.amount)

    among_more : (k : K) (ks : List K) (hs : List (K × ℕ)) → All (λ h. Contains ks h.0) hs → All (λ h. Contains (k ∷ ks) h.0) hs
    among_more k ks hs among i d lt = contains_later k ks (get_or hs i d).0 (among i d lt)

    found_among : (ks : List K) → AllPairs (λ a b. a ≢ b) ks → (hs : List (K × ℕ)) × AreHoldersAmong ks hs
    found_among [] apart = (
      [],
      record {
        are = record { once = λ i j d lt within. absurd (omega (arith, within)); hold = All-nil (λ h. HoldsAmount holds h.0 r h.1) };
        among = All-nil (λ h. Contains [] h.0);
        all = λ k u has. absurd (contains_none k has);
      },
    )
    found_among (k ∷ ks) apart =
        let later = found_among ks (λ i j d lt within. apart (suc i) (suc j) d (omega (arith, lt)) (omega (arith, within))) in
        let hs = later.0 in
        let first : All (λ q. k ≢ q) ks = λ i d lt. apart 0 (suc i) d (omega arith) (omega (arith, lt)) in
        elim (find k) [
          | inl held ↦ (
            (k, held.0.claim.amount) ∷ hs,
            record {
              are = record {
                once = AllPairs-cons (λ (a b : K × ℕ). a.0 ≢ b.0) (k, held.0.claim.amount) hs (λ i d lt. All-contains (λ q. k ≢ q) ks (get_or hs i d).0 first (later.1.among i d lt)) later.1.are.once;
                hold = All-cons (λ (h : K × ℕ). HoldsAmount holds h.0 r h.1) (k, held.0.claim.amount) hs (held.0, held.1, refl) later.1.are.hold;
              };
              among = All-cons (λ (h : K × ℕ). Contains (k ∷ ks) h.0) (k, held.0.claim.amount) hs (contains_head k ks) (among_more k ks hs later.1.among);
              all = λ q u has holding. elim (contains_cases k ks q has) [
                | inl same ↦ subst (λ (h : K × ℕ). Contains ((k, held.0.claim.amount) ∷ hs) h) (its k q held.0 u same held.1 holding) (contains_head (k, held.0.claim.amount) hs)
                | inr other ↦ contains_later (k, held.0.claim.amount) hs (q, u.claim.amount) (later.1.all q u other holding)
              ];
            },
          )
          | inr none ↦ (
            hs,
            record {
              are = later.1.are;
              among = among_more k ks hs later.1.among;
              all = λ q u has holding. elim (contains_cases k ks q has) [
                | inl same ↦ absurd (none u (subst (λ z. holds z r u) (sym same) holding))
                | inr other ↦ later.1.all q u other holding
              ];
            },
          )
        ]
      where
        its : (k q : K) (x u : Usage) → k ≡ q → holds k r x → holds q r u → ◌≡◌ {A = K × ℕ} (k, x.claim.amount) (q, u.claim.amount)
        its k q x u same held holding =
            let usage = one q x u (subst (λ z. holds z r x) same held) holding in
            λ i. (same i, (usage i).claim.amount)

    -- all holders, where only keys of the list hold anything
    pub all_holders : (ks : List K) → AllPairs (λ a b. a ≢ b) ks → ((k : K) (u : Usage) → holds k r u → Contains ks k) → (hs : List (K × ℕ)) × AreAllHolders hs
    all_holders ks apart within =
        let found = found_among ks apart in
        (found.0, record { are = found.1.are; all = λ k u holding. found.1.all k u (within k u holding) holding })
