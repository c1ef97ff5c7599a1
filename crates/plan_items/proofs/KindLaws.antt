-- What the fields of a record are, kind by kind.
use Rattle.std.proofs.Common.{◌≡◌, ℕ, Bool, suc, ◌+◌, ◌≤◌, ◌<◌, List, [], ◌∷◌, ◌++◌, length, drop, get_or, replicate, Vec, Global, refl, ap, sym, subst, arith, ◌∙◌, add-zero}
use Rattle.std.specs.Prelude.{codes, decimal}
use Rattle.std.proofs.Math.Seq.{drop-cons}
use Rattle.std.proofs.lemmas.List.{length-map}
use Rattle.std.proofs.Common.{Option, Some, None, MatchOption, inl, inr}
use Rattle.std.proofs.lemmas.List.{drop_all}
use Rattle.plan_basics.specs.declared.limits.TheConstants.{HIGHEST_PRIORITY, LONGEST_DURATION, LOWEST_PRIORITY, MOST_FIXED, MOST_QUANTITY, SHORTEST_DURATION}
use Rattle.plan_basics.specs.declared.keys.OccKey.{OccKey}
use Rattle.plan_basics.specs.declared.keys.OpKey.{OpKey}
use Rattle.plan_basics.specs.Names.{IsName, IsResourceName}
use Rattle.plan_basics.specs.Keys.{Name, IsOperationKey}
use Rattle.plan_basics.specs.Minutes.{IsMoment, IsMomentText}
use Rattle.plan_basics.specs.Intervals.{OpenInterval}
use Rattle.special_resources.specs.Holders.{IsAmount}
use Rattle.special_resources.specs.declared.Mode.{Mode}
use Rattle.special_resources.specs.declared.Mode.TheVariants.{Shared, Exclusive}
use Rattle.special_resources.specs.declared.Need.{Need}
use Rattle.plan_items.specs.declared.OperationItem.{OperationItem}
use Rattle.plan_items.specs.declared.Item.{Item}
use Rattle.plan_items.specs.declared.Item.TheVariants as item
use Rattle.plan_items.specs.Parts.{available_letter, mode_letter, keep_letter, IsWithin, IsNumberText, IsMomentOrEmpty, IsNotBefore, IsQuantityText, IsAmountText, IsOccurrenceAt, IsOperationAt, IsIntervalAt, IsNeedAt}
use Rattle.plan_items.specs.Items.{Fields, fields_of, Says}

abbrev pub text_at : Fields → ℕ → List ℕ
text_at fields i = get_or fields i []

pub ten_fields : (fields : List (Vec ℕ Global)) → length fields ≡ 10 → length (fields_of fields) ≡ 10
ten_fields fields ten = rw length-map ten

-- from an index on the fields are these
abbrev pub HasFront : Fields → ℕ → Fields → Type 0
HasFront fields i [] = Unit {0}
HasFront fields i (t ∷ ts) = (text_at fields i ≡ t) × HasFront fields (suc i) ts

front_from : (fields : Fields) (i : ℕ) (front : Fields) → i + length front ≤ length fields → HasFront fields i front → drop i fields ≡ front ++ drop (i + length front) fields
front_from fields i [] fits h = rw add-zero refl
front_from fields i (t ∷ ts) fits h =
    let lt : i < length fields = omega arith in
    let first = drop-cons fields i [] lt in
    let others = front_from fields (suc i) ts (omega arith) h.1 in
    let place : suc i + length ts ≡ i + suc (length ts) = omega arith in
    first ∙ (ap (λ (x : List ℕ). x ∷ drop (suc i) fields) h.0 ∙ ap (λ (xs : Fields). t ∷ xs) (others ∙ ap (λ (n : ℕ). ts ++ drop n fields) place))

-- the whole of the fields, from those in front and the rest
pub whole : (fields front rest : Fields) → length front ≤ length fields → HasFront fields 0 front → drop (length front) fields ≡ rest → fields ≡ front ++ rest
whole fields front rest fits h e =
    let place : 0 + length front ≡ length front = omega arith in
    front_from fields 0 front (omega arith) h ∙ (ap (λ (n : ℕ). front ++ drop n fields) place ∙ ap (λ (xs : Fields). front ++ xs) e)

-- the letter of an item's kind
abbrev pub kind_letter : Item → ℕ
kind_letter (item.Workstation n a) = 87
kind_letter (item.Interval w x) = 73
kind_letter (item.Resource n a q) = 88
kind_letter (item.Occurrence k p d) = 79
kind_letter (item.Operation o) = 80
kind_letter (item.Dependency p s) = 68
kind_letter (item.Need o n) = 78

-- the first field is the letter of the item's kind
pub said_kind : (fields : Fields) (x : Item) → Says fields x → text_at fields 0 ≡ kind_letter x ∷ []
said_kind fields (item.Workstation n a) h = ap (λ f. text_at f 0) h.1
said_kind fields (item.Interval w x) h = ap (λ f. text_at f 0) h.1.4
said_kind fields (item.Resource n a q) h = ap (λ f. text_at f 0) h.1.2
said_kind fields (item.Occurrence k p d) h = ap (λ f. text_at f 0) h.1.4
said_kind fields (item.Operation o) h = ap (λ f. text_at f 0) h.1.6
said_kind fields (item.Dependency p s) h = ap (λ f. text_at f 0) h.1.4
said_kind fields (item.Need o n) h = ap (λ f. text_at f 0) h.1.4

one_letter : (t : List ℕ) (a b : ℕ) → t ≡ a ∷ [] → t ≡ b ∷ [] → a ≡ b
one_letter t a b e f = cc

-- only an item of the kind of the first field's letter is said
pub same_kind : (fields : Fields) (letter : ℕ) (x : Item) → text_at fields 0 ≡ letter ∷ [] → Says fields x → letter ≡ kind_letter x
same_kind fields letter x k h = one_letter (text_at fields 0) letter (kind_letter x) k (said_kind fields x h)

in_range : (app arrival number : List ℕ) (key : OpKey) → IsOperationAt app arrival number key → IsOperationKey key
in_range app arrival number key h = ((h.0.0, h.0.2.0), omega (arith, h.1.0.0), omega (arith, h.1.0.1))

not_before_in_range : (t : List ℕ) (m : ℕ) → IsNotBefore t m → IsMoment m
not_before_in_range t m (inl e) = omega (arith, e.1)
not_before_in_range t m (inr h) = h.0

quantity_in_range : (t : List ℕ) (n : ℕ) → IsQuantityText t n → IsWithin 1 MOST_QUANTITY n
quantity_in_range t n (inl e) = (omega (arith, e.1), omega (arith, e.1))
quantity_in_range t n (inr h) = h.0

amount_in_range : (mode : Mode) (t : List ℕ) (n : ℕ) → IsAmountText mode t n → IsAmount mode n
amount_in_range Exclusive t n h = h.1
amount_in_range Shared t n (inl e) = (omega (arith, e.1), omega (arith, e.1))
amount_in_range Shared t n (inr h) = h.0

deadline_in_range : (t : List ℕ) (m : Option ℕ) → IsMomentOrEmpty t m → MatchOption m (Unit {0}) IsMoment
deadline_in_range t None e = tt
deadline_in_range t (Some m) h = h.0

module _ (fields : Fields) (ten : length fields ≡ 10) where
  pub made_interval : text_at fields 0 ≡ codes "I" → (w : Name) (x : OpenInterval) → IsName 4 w → text_at fields 1 ≡ w → IsIntervalAt (text_at fields 2) (text_at fields 3) (text_at fields 4) (text_at fields 5) (text_at fields 6) x → drop 7 fields ≡ replicate 3 [] → Says fields (item.Interval w x)
  made_interval k w x legal e h rest = (
    (legal, h.0),
    (
      text_at fields 2,
      text_at fields 3,
      h.1,
      h.2,
      whole fields (codes "I" ∷ w ∷ text_at fields 2 ∷ text_at fields 3 ∷ decimal x.servers ∷ decimal x.r1 ∷ decimal x.r2 ∷ []) (replicate 3 []) (omega arith) (k, (e, (refl, (refl, (h.3, (h.4, (h.5, tt))))))) rest,
    ),
  )

  pub made_resource : text_at fields 0 ≡ codes "X" → (r : Name) (available : Bool) (quantity : ℕ) → IsResourceName r → text_at fields 1 ≡ r → text_at fields 2 ≡ available_letter available → IsQuantityText (text_at fields 3) quantity → drop 4 fields ≡ replicate 6 [] → Says fields (item.Resource r available quantity)
  made_resource k r available quantity legal e a q rest = (
    (legal, quantity_in_range (text_at fields 3) quantity q),
    (text_at fields 3, q, whole fields (codes "X" ∷ r ∷ available_letter available ∷ text_at fields 3 ∷ []) (replicate 6 []) (omega arith) (k, (e, (a, (refl, tt)))) rest),
  )

  pub made_occurrence : text_at fields 0 ≡ codes "O" → (key : OccKey) (p d : ℕ) → IsOccurrenceAt (text_at fields 1) (text_at fields 2) key → IsNumberText LOWEST_PRIORITY HIGHEST_PRIORITY (text_at fields 3) p → IsMomentText (text_at fields 4) d → drop 5 fields ≡ replicate 5 [] → Says fields (item.Occurrence key p d)
  made_occurrence k key p d h n m rest = (
    ((h.0, h.2.0), n.0, m.0),
    (
      text_at fields 2,
      text_at fields 4,
      h.2,
      m,
      whole fields (codes "O" ∷ key.app ∷ text_at fields 2 ∷ decimal p ∷ text_at fields 4 ∷ []) (replicate 5 []) (omega arith) (k, (h.1, (refl, (n.1, (refl, tt))))) rest,
    ),
  )

  pub made_operation : text_at fields 0 ≡ codes "P" → (o : OperationItem) → IsOperationAt (text_at fields 1) (text_at fields 2) (text_at fields 3) o.key → IsName 4 o.workstation → text_at fields 4 ≡ o.workstation
      → IsNumberText SHORTEST_DURATION LONGEST_DURATION (text_at fields 5) o.duration → IsNumberText 0 MOST_FIXED (text_at fields 6) o.r1 → IsNumberText 0 MOST_FIXED (text_at fields 7) o.r2 → IsNotBefore (text_at fields 8) o.not_before → IsMomentOrEmpty (text_at fields 9) o.deadline → Says fields (item.Operation o)
  made_operation k o h legal e duration r1 r2 not_before deadline = (
    record { key = ((h.0.0, h.0.2.0), omega (arith, h.1.0.0), omega (arith, h.1.0.1)); workstation = legal; duration = duration.0; r1 = r1.0; r2 = r2.0; not_before = not_before_in_range (text_at fields 8) o.not_before not_before; deadline = deadline_in_range (text_at fields 9) o.deadline deadline },
    (
      text_at fields 2,
      text_at fields 8,
      text_at fields 9,
      h.0.2,
      not_before,
      deadline,
      whole fields (codes "P" ∷ o.key.occurrence.app ∷ text_at fields 2 ∷ decimal o.key.number ∷ o.workstation ∷ decimal o.duration ∷ decimal o.r1 ∷ decimal o.r2 ∷ text_at fields 8 ∷ text_at fields 9 ∷ []) [] (omega arith)
          (k, (h.0.1, (refl, (h.1.1, (e, (duration.1, (r1.1, (r2.1, (refl, (refl, tt)))))))))) (drop_all 10 fields (omega arith)),
    ),
  )

  pub made_dependency : text_at fields 0 ≡ codes "D" → (p s : OpKey) → IsOperationAt (text_at fields 1) (text_at fields 2) (text_at fields 3) p → IsOperationAt (text_at fields 4) (text_at fields 5) (text_at fields 6) s → drop 7 fields ≡ replicate 3 [] → Says fields (item.Dependency p s)
  made_dependency k p s h l rest = (
    (in_range (text_at fields 1) (text_at fields 2) (text_at fields 3) p h, in_range (text_at fields 4) (text_at fields 5) (text_at fields 6) s l),
    (
      text_at fields 2,
      text_at fields 5,
      h.0.2,
      l.0.2,
      whole fields (codes "D" ∷ p.occurrence.app ∷ text_at fields 2 ∷ decimal p.number ∷ s.occurrence.app ∷ text_at fields 5 ∷ decimal s.number ∷ []) (replicate 3 []) (omega arith) (k, (h.0.1, (refl, (h.1.1, (l.0.1, (refl, (l.1.1, tt))))))) rest,
    ),
  )

  pub made_need : text_at fields 0 ≡ codes "N" → (o : OpKey) (need : Need) → IsOperationAt (text_at fields 1) (text_at fields 2) (text_at fields 3) o → IsNeedAt (text_at fields 4) (text_at fields 5) (text_at fields 6) (text_at fields 7) need → drop 8 fields ≡ replicate 2 [] → Says fields (item.Need o need)
  made_need k o need h n rest = (
    (in_range (text_at fields 1) (text_at fields 2) (text_at fields 3) o h, n.0, amount_in_range need.mode (text_at fields 7) need.amount n.4),
    (
      text_at fields 2,
      text_at fields 7,
      h.0.2,
      n.4,
      whole fields (codes "N" ∷ o.occurrence.app ∷ text_at fields 2 ∷ decimal o.number ∷ need.name ∷ mode_letter need.mode ∷ keep_letter need.keep ∷ text_at fields 7 ∷ []) (replicate 2 []) (omega arith) (k, (h.0.1, (refl, (h.1.1, (n.1, (n.2, (n.3, (refl, tt)))))))) rest,
    ),
  )

-- what the fields spell, where the kind is known
module _ (fields : Fields) where
  moment_at : (i : ℕ) (t : List ℕ) (m : ℕ) → text_at fields i ≡ t → IsMomentText t m → IsMomentText (text_at fields i) m
  moment_at i t m e h = subst (λ (u : List ℕ). IsMomentText u m) (sym e) h

  pub interval_said : (w : Name) (x : OpenInterval) → Says fields (item.Interval w x) → (text_at fields 1 ≡ w) × IsIntervalAt (text_at fields 2) (text_at fields 3) (text_at fields 4) (text_at fields 5) (text_at fields 6) x
  interval_said w x h =
      let e = h.1.4 in
      (ap (λ f. text_at f 1) e, (h.0.1, moment_at 2 h.1.0 x.from (ap (λ f. text_at f 2) e) h.1.2, moment_at 3 h.1.1 x.end (ap (λ f. text_at f 3) e) h.1.3, ap (λ f. text_at f 4) e, ap (λ f. text_at f 5) e, ap (λ f. text_at f 6) e))

  pub resource_said : (r : Name) (available : Bool) (quantity : ℕ) → Says fields (item.Resource r available quantity) → (text_at fields 1 ≡ r) × (text_at fields 2 ≡ available_letter available) × IsQuantityText (text_at fields 3) quantity
  resource_said r available quantity h =
      let e = h.1.2 in
      (ap (λ f. text_at f 1) e, ap (λ f. text_at f 2) e, subst (λ (u : List ℕ). IsQuantityText u quantity) (sym (ap (λ f. text_at f 3) e)) h.1.1)

  pub occurrence_said : (key : OccKey) (p d : ℕ) → Says fields (item.Occurrence key p d) → IsOccurrenceAt (text_at fields 1) (text_at fields 2) key × IsNumberText LOWEST_PRIORITY HIGHEST_PRIORITY (text_at fields 3) p × IsMomentText (text_at fields 4) d
  occurrence_said key p d h =
      let e = h.1.4 in
      ((h.0.0.0, ap (λ f. text_at f 1) e, moment_at 2 h.1.0 key.arrival (ap (λ f. text_at f 2) e) h.1.2), (h.0.1, ap (λ f. text_at f 3) e), moment_at 4 h.1.1 d (ap (λ f. text_at f 4) e) h.1.3)

  pub operation_key_said : (i j k : ℕ) (o : OpKey) (arrival : List ℕ) → IsOperationKey o → text_at fields i ≡ o.occurrence.app → text_at fields j ≡ arrival → IsMomentText arrival o.occurrence.arrival → text_at fields k ≡ decimal o.number → IsOperationAt (text_at fields i) (text_at fields j) (text_at fields k) o
  operation_key_said i j k o arrival h app at_arrival m number = ((h.0.0, app, moment_at j arrival o.occurrence.arrival at_arrival m), ((omega (arith, h.1), omega (arith, h.2)), number))

  pub operation_said : (o : OperationItem) → Says fields (item.Operation o) → IsOperationAt (text_at fields 1) (text_at fields 2) (text_at fields 3) o.key × (text_at fields 4 ≡ o.workstation)
      × IsNumberText SHORTEST_DURATION LONGEST_DURATION (text_at fields 5) o.duration × IsNumberText 0 MOST_FIXED (text_at fields 6) o.r1 × IsNumberText 0 MOST_FIXED (text_at fields 7) o.r2 × IsNotBefore (text_at fields 8) o.not_before × IsMomentOrEmpty (text_at fields 9) o.deadline
  operation_said o h =
      let e = h.1.6 in (
        operation_key_said 1 2 3 o.key h.1.0 h.0.key (ap (λ f. text_at f 1) e) (ap (λ f. text_at f 2) e) h.1.3 (ap (λ f. text_at f 3) e),
        ap (λ f. text_at f 4) e,
        (h.0.duration, ap (λ f. text_at f 5) e),
        (h.0.r1, ap (λ f. text_at f 6) e),
        (h.0.r2, ap (λ f. text_at f 7) e),
        subst (λ (u : List ℕ). IsNotBefore u o.not_before) (sym (ap (λ f. text_at f 8) e)) h.1.4,
        subst (λ (u : List ℕ). IsMomentOrEmpty u o.deadline) (sym (ap (λ f. text_at f 9) e)) h.1.5,
      )

  pub dependency_said : (p s : OpKey) → Says fields (item.Dependency p s) → IsOperationAt (text_at fields 1) (text_at fields 2) (text_at fields 3) p × IsOperationAt (text_at fields 4) (text_at fields 5) (text_at fields 6) s
  dependency_said p s h =
      let e = h.1.4 in (
        operation_key_said 1 2 3 p h.1.0 h.0.0 (ap (λ f. text_at f 1) e) (ap (λ f. text_at f 2) e) h.1.2 (ap (λ f. text_at f 3) e),
        operation_key_said 4 5 6 s h.1.1 h.0.1 (ap (λ f. text_at f 4) e) (ap (λ f. text_at f 5) e) h.1.3 (ap (λ f. text_at f 6) e),
      )

  pub need_said : (o : OpKey) (need : Need) → Says fields (item.Need o need) → IsOperationAt (text_at fields 1) (text_at fields 2) (text_at fields 3) o × IsNeedAt (text_at fields 4) (text_at fields 5) (text_at fields 6) (text_at fields 7) need
  need_said o need h =
      let e = h.1.4 in (
        operation_key_said 1 2 3 o h.1.0 h.0.0 (ap (λ f. text_at f 1) e) (ap (λ f. text_at f 2) e) h.1.2 (ap (λ f. text_at f 3) e),
        (h.0.1, ap (λ f. text_at f 4) e, ap (λ f. text_at f 5) e, ap (λ f. text_at f 6) e, subst (λ (u : List ℕ). IsAmountText need.mode u need.amount) (sym (ap (λ f. text_at f 7) e)) h.1.3),
      )

  -- nothing is said where a field has no such part
  pub no_interval : text_at fields 0 ≡ codes "I" → ((x : OpenInterval) → ¬ IsIntervalAt (text_at fields 2) (text_at fields 3) (text_at fields 4) (text_at fields 5) (text_at fields 6) x) → (x : Item) → ¬ Says fields x
  no_interval k none (item.Interval w x) h = none x (interval_said w x h).1
  no_interval k none x h = absurd (omega (arith, same_kind fields 73 x k h))

  pub no_quantity : text_at fields 0 ≡ codes "X" → ((n : ℕ) → ¬ IsQuantityText (text_at fields 3) n) → (x : Item) → ¬ Says fields x
  no_quantity k none (item.Resource r a q) h = none q (resource_said r a q h).2
  no_quantity k none x h = absurd (omega (arith, same_kind fields 88 x k h))

  pub no_last : text_at fields 0 ≡ codes "O" → ((d : ℕ) → ¬ IsMomentText (text_at fields 4) d) → (x : Item) → ¬ Says fields x
  no_last k none (item.Occurrence key p d) h = none d (occurrence_said key p d h).2
  no_last k none x h = absurd (omega (arith, same_kind fields 79 x k h))

  pub no_not_before : text_at fields 0 ≡ codes "P" → ((m : ℕ) → ¬ IsNotBefore (text_at fields 8) m) → (x : Item) → ¬ Says fields x
  no_not_before k none (item.Operation o) h = none o.not_before (operation_said o h).5
  no_not_before k none x h = absurd (omega (arith, same_kind fields 80 x k h))

  pub no_successor : text_at fields 0 ≡ codes "D" → ((s : OpKey) → ¬ IsOperationAt (text_at fields 4) (text_at fields 5) (text_at fields 6) s) → (x : Item) → ¬ Says fields x
  no_successor k none (item.Dependency p s) h = none s (dependency_said p s h).1
  no_successor k none x h = absurd (omega (arith, same_kind fields 68 x k h))
