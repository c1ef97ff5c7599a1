-- The parts of a record: what their readers answer, and that a text spells one of each at most.
use Rattle.std.proofs.Common.{◌≡◌, ℕ, ◌<◌, ◌^◌, List, [], length, Bool, true, false, Option, Some, None, IsSome, IfSome, inl, inr, ◌⊎◌, refl, sym, ap, subst, arith, ◌∙◌, ◌==◌, ◌↔◌}
use Rattle.std.proofs.lemmas.List.{length-append}
use Rattle.std.proofs.lemmas.Fmt.{decimal_injective, decimal_nonempty}
use Rattle.plan_basics.specs.declared.limits.TheConstants.{GREATEST_NUMBER, LEAST_NUMBER, MOST_FIXED, MOST_QUANTITY, MOST_SERVERS}
use Rattle.plan_basics.specs.Minutes.{IsMomentText}
use Rattle.plan_basics.specs.Intervals.{OpenInterval, IsInterval, interval_by}
use Rattle.std.proofs.Common.{get_or}
use Rattle.plan_basics.specs.Attributes.{attribute_letter}
use Rattle.plan_basics.specs.declared.Attr.{Attr}
use Rattle.plan_basics.specs.declared.Attr.TheVariants as attribute
use Rattle.plan_basics.specs.declared.keys.OccKey.{OccKey}
use Rattle.plan_basics.specs.declared.keys.OpKey.{OpKey}
use Rattle.special_resources.specs.declared.Mode.{Mode}
use Rattle.special_resources.specs.declared.Mode.TheVariants as mode
use Rattle.special_resources.specs.declared.Need.{Need}
use Rattle.plan_items.specs.Parts.{IsReading, available_letter, mode_letter, keep_letter, IsNumberText, IsMomentOrEmpty, IsNotBefore, IsQuantityText, IsAmountText, IsOccurrenceAt, IsOperationAt, IsIntervalAt, IsNeedAt}
use Rattle.plan_basics.proofs.MinuteLaws.{one_moment}

-- what a reader answers, by when it answers something and what
pub as_reading : {A : Type 0} (P : A → Type 0) (r : Option A) → (IsSome r ↔ ((x : A) × P x)) → IfSome r P → IsReading P r
as_reading P None some value = λ x h. let found = some.1 (x, h) in absurd (cc)
as_reading P (Some x) some value = value

-- a number's text is that of one number alone
pub one_number : (least most : ℕ) (t : List ℕ) (m n : ℕ) → most < 2 ^ 64 → IsNumberText least most t m → IsNumberText least most t n → m ≡ n
one_number least most t m n small h k = decimal_injective m n (omega (arith, h.0.1)) (omega (arith, k.0.1)) (sym h.1 ∙ k.1)

-- no moment and no empty field: no deadline
pub deadline_unread : (t : List ℕ) → (length t == 0) ≡ false → ((m : ℕ) → ¬ IsMomentText t m) → (x : Option ℕ) → ¬ IsMomentOrEmpty t x
deadline_unread t filled none None e = let bad = rw e at filled in absurd (cc)
deadline_unread t filled none (Some m) h = none m h

-- an empty field means the number e, and another field one that it spells
module _ (t : List ℕ) (e : ℕ) (Spells : ℕ → Type 0) where
  abbrev pub IsSpeltOrEmpty : ℕ → Type 0
  IsSpeltOrEmpty n = ((t ≡ []) × (n ≡ e)) ⊎ Spells n

  spelt : (n : ℕ) → (length t == 0) ≡ false → IsSpeltOrEmpty n → Spells n
  spelt n filled (inl h) = let bad = rw h.0 at filled in absurd (cc)
  spelt n filled (inr h) = h

  -- where the field isn't empty, what is read is what it spells
  pub filled_read : (length t == 0) ≡ false → (r : Option ℕ) → IsReading Spells r → IsReading IsSpeltOrEmpty r
  filled_read filled None h = λ n s. h n (spelt n filled s)
  filled_read filled (Some n) h = inr h

  -- it means one number, since an empty field spells none
  pub one_or_empty : ((n : ℕ) → t ≡ [] → ¬ Spells n) → ((m n : ℕ) → Spells m → Spells n → m ≡ n) → (m n : ℕ) → IsSpeltOrEmpty m → IsSpeltOrEmpty n → m ≡ n
  one_or_empty none one m n (inl h) (inl k) = h.1 ∙ sym k.1
  one_or_empty none one m n (inl h) (inr k) = absurd (none n h.0 k)
  one_or_empty none one m n (inr h) (inl k) = absurd (none m k.0 h)
  one_or_empty none one m n (inr h) (inr k) = one m n h k

-- the text of a moment isn't empty
pub moment_filled : (m : ℕ) → ¬ IsMomentText [] m
moment_filled m h = absurd (omega (arith, simp length-append at (ap (length {A = ℕ}) h.1.9)))

module _ (from end servers r1 r2 : List ℕ) (a b s p q : ℕ) (at_from : IsMomentText from a) (at_end : IsMomentText end b) (at_servers : IsNumberText 0 MOST_SERVERS servers s) (at_r1 : IsNumberText 0 MOST_FIXED r1 p) (at_r2 : IsNumberText 0 MOST_FIXED r2 q) where
  same_interval : (x : OpenInterval) → IsIntervalAt from end servers r1 r2 x → x ≡ interval_by a b s p q
  same_interval x h =
      let bound = h.0 in
      let first = one_moment from x.from a h.1 at_from in
      let last = one_moment end x.end b h.2 at_end in
      let many = decimal_injective x.servers s (omega (arith, bound.servers)) (omega (arith, at_servers.0.1)) (sym h.3 ∙ at_servers.1) in
      let some_r1 = decimal_injective x.r1 p (omega (arith, bound.fixed.0)) (omega (arith, at_r1.0.1)) (sym h.4 ∙ at_r1.1) in
      let some_r2 = decimal_injective x.r2 q (omega (arith, bound.fixed.1)) (omega (arith, at_r2.0.1)) (sym h.5 ∙ at_r2.1) in
      λ i. record { from = first i; end = last i; servers = many i; r1 = some_r1 i; r2 = some_r2 i }

  -- the interval of the numbers that the fields spell, if it is one, is the one that they spell
  pub interval_read : (r : Option OpenInterval) → (IsSome r ↔ IsInterval (interval_by a b s p q)) → IfSome r (λ i. i ≡ interval_by a b s p q) → IsReading (IsIntervalAt from end servers r1 r2) r
  interval_read None some value = λ x h. let made = some.1 (subst IsInterval (same_interval x h) h.0) in absurd (cc)
  interval_read (Some x) some value = subst (IsIntervalAt from end servers r1 r2) (sym value) (some.0 refl, at_from, at_end, at_servers.1, at_r1.1, at_r2.1)

-- each part is spelt by its texts alone
pub one_interval : (from end servers r1 r2 : List ℕ) (x y : OpenInterval) → IsIntervalAt from end servers r1 r2 x → IsIntervalAt from end servers r1 r2 y → x ≡ y
one_interval from end servers r1 r2 x y h k = same_interval from end servers r1 r2 y.from y.end y.servers y.r1 y.r2 k.1 k.2 ((omega arith, omega (arith, k.0.servers)), k.3) ((omega arith, omega (arith, k.0.fixed)), k.4) ((omega arith, omega (arith, k.0.fixed)), k.5) x h

pub one_occurrence : (app arrival : List ℕ) (a b : OccKey) → IsOccurrenceAt app arrival a → IsOccurrenceAt app arrival b → a ≡ b
one_occurrence app arrival a b h k = let name = sym h.1 ∙ k.1 in let minute = one_moment arrival a.arrival b.arrival h.2 k.2 in λ i. record { app = name i; arrival = minute i }

pub one_operation : (app arrival number : List ℕ) (a b : OpKey) → IsOperationAt app arrival number a → IsOperationAt app arrival number b → a ≡ b
one_operation app arrival number a b h k =
    let key = one_occurrence app arrival a.occurrence b.occurrence h.0 k.0 in
    let n = one_number LEAST_NUMBER GREATEST_NUMBER number a.number b.number (omega arith) h.1 k.1 in
    λ i. record { occurrence = key i; number = n i }

pub one_attribute : (a b : Attr) → attribute_letter a ≡ attribute_letter b → a ≡ b
one_attribute attribute.Automatic attribute.Automatic e = refl
one_attribute attribute.StartAndCompletion attribute.StartAndCompletion e = refl
one_attribute attribute.CompletionOnly attribute.CompletionOnly e = refl
one_attribute attribute.Nonreporting attribute.Nonreporting e = refl
one_attribute a b e = absurd (omega (arith, e))

pub one_availability : (a b : Bool) → available_letter a ≡ available_letter b → a ≡ b
one_availability true true e = refl
one_availability false false e = refl
one_availability a b e = absurd (omega (arith, ap (λ t. get_or t 0 0) e))

one_mode : (a b : Mode) → mode_letter a ≡ mode_letter b → a ≡ b
one_mode mode.Shared mode.Shared e = refl
one_mode mode.Exclusive mode.Exclusive e = refl
one_mode a b e = absurd (omega (arith, ap (λ t. get_or t 0 0) e))

one_keeping : (a b : Bool) → keep_letter a ≡ keep_letter b → a ≡ b
one_keeping true true e = refl
one_keeping false false e = refl
one_keeping a b e = absurd (omega (arith, ap (λ t. get_or t 0 0) e))

-- an empty text is that of no number
pub empty_number : (least most : ℕ) (t : List ℕ) (n : ℕ) → most < 2 ^ 64 → t ≡ [] → ¬ IsNumberText least most t n
empty_number least most t n small e h =
    let some = decimal_nonempty n (omega (arith, h.0.1)) in
    absurd (omega (arith, some, ap (length {A = ℕ}) (sym e ∙ h.1)))

pub one_quantity : (t : List ℕ) (m n : ℕ) → IsQuantityText t m → IsQuantityText t n → m ≡ n
one_quantity t = one_or_empty t MOST_QUANTITY (IsNumberText 1 MOST_QUANTITY t) (λ n. empty_number 1 MOST_QUANTITY t n (omega arith)) (λ m n. one_number 1 MOST_QUANTITY t m n (omega arith))

one_amount : (mode : Mode) (t : List ℕ) (m n : ℕ) → IsAmountText mode t m → IsAmountText mode t n → m ≡ n
one_amount mode.Exclusive t m n h k = h.1 ∙ sym k.1
one_amount mode.Shared t m n h k = one_or_empty t 1 (IsNumberText 1 MOST_QUANTITY t) (λ n. empty_number 1 MOST_QUANTITY t n (omega arith)) (λ m n. one_number 1 MOST_QUANTITY t m n (omega arith)) m n h k

pub one_need : (name mode_text keep_text amount_text : List ℕ) (a b : Need) → IsNeedAt name mode_text keep_text amount_text a → IsNeedAt name mode_text keep_text amount_text b → a ≡ b
one_need name mode_text keep_text amount_text a b h k =
    let same_name = sym h.1 ∙ k.1 in
    let same_mode = one_mode a.mode b.mode (sym h.2 ∙ k.2) in
    let same_keep = one_keeping a.keep b.keep (sym h.3 ∙ k.3) in
    let same_amount = one_amount b.mode amount_text a.amount b.amount (subst (λ m. IsAmountText m amount_text a.amount) same_mode h.4) k.4 in
    λ i. record { name = same_name i; mode = same_mode i; amount = same_amount i; keep = same_keep i }

empty_moment : (t : List ℕ) (m : ℕ) → t ≡ [] → ¬ IsMomentText t m
empty_moment t m e h = moment_filled m (subst (λ (u : List ℕ). IsMomentText u m) e h)

pub one_not_before : (t : List ℕ) (m n : ℕ) → IsNotBefore t m → IsNotBefore t n → m ≡ n
one_not_before t = one_or_empty t 0 (IsMomentText t) (λ m. empty_moment t m) (one_moment t)

pub one_deadline : (t : List ℕ) (x y : Option ℕ) → IsMomentOrEmpty t x → IsMomentOrEmpty t y → x ≡ y
one_deadline t None None e f = refl
one_deadline t None (Some n) e k = absurd (empty_moment t n e k)
one_deadline t (Some m) None h f = absurd (empty_moment t m f h)
one_deadline t (Some m) (Some n) h k = ap Some (one_moment t m n h k)
