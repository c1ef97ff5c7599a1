-- A record whose fields are all of the forms of its kind says an item.
use Rattle.std.proofs.Common.{◌≡◌, ◌≢◌, ◌⊎◌, inl, inr, refl, ap, subst, ◌∙◌, arith, ℕ, zero, suc, ◌+◌, ◌<◌, List, [], ◌∷◌, length, drop, replicate, Bool, true, false, Option, Some, None}
use Rattle.std.specs.Prelude.{codes, slice_get}
use Rattle.std.proofs.Math.Seq.{drop-cons}
use Rattle.std.proofs.lemmas.List.{drop_all}
use Rattle.plan_basics.specs.Minutes.{IsMomentText}
use Rattle.plan_items.specs.declared.Item.{Item}
use Rattle.plan_items.specs.declared.Item.TheVariants as item
use Rattle.plan_items.specs.Items.{Fields, Says}
use Rattle.plan_items.specs.declared.OperationItem.{OperationItem}
use Rattle.plan_items.specs.Parts.{IsNumberText, IsOperationAt, IsNotBefore, IsMomentOrEmpty, IsQuantityText, IsAmountText, available_letter, mode_letter, keep_letter}
use Rattle.plan_basics.specs.Attributes.{attribute_letter}
use Rattle.plan_basics.specs.Names.{IsName}
use Rattle.plan_basics.specs.Intervals.{interval_by}
use Rattle.plan_basics.specs.declared.keys.OccKey.{OccKey}
use Rattle.plan_basics.specs.declared.keys.OpKey.{OpKey}
use Rattle.plan_basics.specs.declared.limits.TheConstants.{MOST_QUANTITY, MOST_SERVERS, SHORTEST_DURATION, LONGEST_DURATION, LOWEST_PRIORITY, HIGHEST_PRIORITY, LEAST_NUMBER, GREATEST_NUMBER}
use Rattle.std.proofs.lemmas.Bool.{cases_lt}
use Rattle.special_resources.specs.declared.Need.{Need}
use Rattle.special_resources.specs.declared.Mode.{Mode}
use Rattle.special_resources.specs.declared.Mode.TheVariants.{Shared, Exclusive}
use Rattle.plan_items.proofs.PartLaws.{empty_number}
use Rattle.plan_items.proofs.KindLaws.{made_interval, made_resource, made_occurrence, made_operation, made_dependency, made_need, whole}
use Rattle.record_faults.specs.declared.kinds.Kind.{Kind}
use Rattle.record_faults.specs.declared.kinds.Kind.TheVariants as kind
use Rattle.record_faults.specs.declared.kinds.Form.{Form}
use Rattle.record_faults.specs.declared.kinds.Form.TheVariants as form
use Rattle.record_faults.specs.Shapes.{text_at, forms_of, operation_number, fixed_amount, quantity, Reads, AreRead, IsOfKind, EndsEarly, HasExclusiveAmount}

-- a record that says an item has ten fields
pub said_ten : (fields : Fields) (x : Item) → Says fields x → length fields ≡ 10
said_ten fields (item.Workstation n a) h = ap length h.1
said_ten fields (item.Interval w x) h = ap length h.1.4
said_ten fields (item.Resource n a q) h = ap length h.1.2
said_ten fields (item.Occurrence k p d) h = ap length h.1.4
said_ten fields (item.Operation o) h = ap length h.1.6
said_ten fields (item.Dependency p s) h = ap length h.1.4
said_ten fields (item.Need o n) h = ap length h.1.4

-- nine fields follow a letter
pub nine : (k : Kind) → length (forms_of k) ≡ 9
nine kind.Workstation = refl
nine kind.Interval = refl
nine kind.Resource = refl
nine kind.Occurrence = refl
nine kind.Operation = refl
nine kind.Dependency = refl
nine kind.Need = refl

-- one field more is of its form
pub read_more : (forms : List Form) (n : ℕ) (fields : Fields) → AreRead forms n fields → ((f : Form) → slice_get forms n ≡ Some f → Reads f (text_at fields (n + 1))) → AreRead forms (n + 1) fields
read_more forms n fields before here i f lt e = elim (cases_lt i n) [
  | inl less ↦ before i f less e
  | inr more ↦ let same : n ≡ i = omega (arith, lt, more) in subst (λ k. slice_get forms k ≡ Some f → Reads f (text_at fields (k + 1))) same (here f) e
]

-- fields that are empty from an index on
abbrev Empties : Fields → ℕ → ℕ → Type 0
Empties fields i zero = Unit {0}
Empties fields i (suc n) = (text_at fields i ≡ []) × Empties fields (suc i) n

empties : (fields : Fields) (i n : ℕ) → length fields ≡ i + n → Empties fields i n → drop i fields ≡ replicate n []
empties fields i zero size h = drop_all i fields (omega (arith, size))
empties fields i (suc n) size h = drop-cons fields i [] (omega (arith, size)) ∙ ap (λ x. x ∷ drop (suc i) fields) h.0 ∙ ap (λ xs. [] ∷ xs) (empties fields (suc i) n (omega (arith, size)) h.1)

module _ (fields : Fields) where
  -- an operation's key, from three fields
  key_at : (i j k : ℕ) → IsName 16 (text_at fields i) → ((m : ℕ) × IsMomentText (text_at fields j) m) → ((n : ℕ) × IsNumberText LEAST_NUMBER GREATEST_NUMBER (text_at fields k) n) → (o : OpKey) × IsOperationAt (text_at fields i) (text_at fields j) (text_at fields k) o
  key_at i j k name moment number = (record { occurrence = record { app = text_at fields i; arrival = moment.0 }; number = number.0 }, ((name, refl, moment.1), number.1))

  available_at : (t : List ℕ) → (t ≡ 89 ∷ []) ⊎ (t ≡ 78 ∷ []) → (b : Bool) × (t ≡ available_letter b)
  available_at t (inl e) = (true, e)
  available_at t (inr e) = (false, e)

  mode_at : (t : List ℕ) → (t ≡ 83 ∷ []) ⊎ (t ≡ 88 ∷ []) → (m : Mode) × (t ≡ mode_letter m)
  mode_at t (inl e) = (Shared, e)
  mode_at t (inr e) = (Exclusive, e)

  keep_at : (t : List ℕ) → (t ≡ 75 ∷ []) ⊎ (t ≡ 70 ∷ []) → (b : Bool) × (t ≡ keep_letter b)
  keep_at t (inl e) = (true, e)
  keep_at t (inr e) = (false, e)

  not_before_at : (t : List ℕ) → (t ≡ []) ⊎ ((m : ℕ) × IsMomentText t m) → (m : ℕ) × IsNotBefore t m
  not_before_at t (inl e) = (0, inl (e, refl))
  not_before_at t (inr h) = (h.0, inr h.1)

  deadline_at : (t : List ℕ) → (t ≡ []) ⊎ ((m : ℕ) × IsMomentText t m) → (m : Option ℕ) × IsMomentOrEmpty t m
  deadline_at t (inl e) = (None, e)
  deadline_at t (inr h) = (Some h.0, h.1)

  quantity_at : (t : List ℕ) → (t ≡ []) ⊎ ((n : ℕ) × IsNumberText 1 MOST_QUANTITY t n) → (n : ℕ) × IsQuantityText t n
  quantity_at t (inl e) = (MOST_QUANTITY, inl (e, refl))
  quantity_at t (inr h) = (h.0, inr h.1)

  -- an exclusive need that has an amount has none that is of its form
  amount_at : (m : Mode) (t : List ℕ) → (t ≡ []) ⊎ ((n : ℕ) × IsNumberText 1 MOST_QUANTITY t n) → ((n : ℕ) × IsAmountText m t n) ⊎ ((m ≡ Exclusive) × (t ≢ []))
  amount_at Exclusive t (inl e) = inl (0, (e, refl))
  amount_at Exclusive t (inr h) = inr (refl, λ e. empty_number 1 MOST_QUANTITY t h.0 (omega arith) e h.1)
  amount_at Shared t (inl e) = inl (1, inl (e, refl))
  amount_at Shared t (inr h) = inl (h.0, inr h.1)

  abbrev Outcome : Kind → Type 0
  Outcome k = ((x : Item) × Says fields x) ⊎ ((k ≡ kind.Interval) × EndsEarly fields) ⊎ ((k ≡ kind.Need) × HasExclusiveAmount fields)

  -- a record whose fields are of the forms of its kind says an item of the kind, or an interval ends early, or an exclusive need has an amount
  pub says : (k : Kind) → IsOfKind k fields → AreRead (forms_of k) 9 fields → Outcome k
  says kind.Workstation is r =
      let ten : length fields ≡ 10 = is.0 in
      let name = r 0 form.WorkstationName (omega arith) refl in
      let attribute = r 1 form.Attribute (omega arith) refl in
      let e : (i : ℕ) → i < 9 → slice_get (forms_of kind.Workstation) i ≡ Some form.Empty → text_at fields (i + 1) ≡ [] = λ i lt f. r i form.Empty lt f in
      let rest = empties fields 3 7 ten (e 2 (omega arith) refl, (e 3 (omega arith) refl, (e 4 (omega arith) refl, (e 5 (omega arith) refl, (e 6 (omega arith) refl, (e 7 (omega arith) refl, (e 8 (omega arith) refl, tt))))))) in
      inl (item.Workstation (text_at fields 1) attribute.0, (name, whole fields (codes "W" ∷ text_at fields 1 ∷ (attribute_letter attribute.0 ∷ []) ∷ []) (replicate 7 []) (omega (arith, ten)) (is.1, (refl, (attribute.1, tt))) rest))
  says kind.Resource is r =
      let ten : length fields ≡ 10 = is.0 in
      let name = r 0 form.ResourceName (omega arith) refl in
      let available = available_at (text_at fields 2) (r 1 (form.OneOf 89 78) (omega arith) refl) in
      let amount = quantity_at (text_at fields 3) (r 2 quantity (omega arith) refl) in
      let e : (i : ℕ) → i < 9 → slice_get (forms_of kind.Resource) i ≡ Some form.Empty → text_at fields (i + 1) ≡ [] = λ i lt f. r i form.Empty lt f in
      let rest = empties fields 4 6 ten (e 3 (omega arith) refl, (e 4 (omega arith) refl, (e 5 (omega arith) refl, (e 6 (omega arith) refl, (e 7 (omega arith) refl, (e 8 (omega arith) refl, tt)))))) in
      inl (item.Resource (text_at fields 1) available.0 amount.0, made_resource fields ten is.1 (text_at fields 1) available.0 amount.0 name refl available.1 amount.1 rest)
  says kind.Occurrence is r =
      let ten : length fields ≡ 10 = is.0 in
      let name = r 0 form.ApplicationName (omega arith) refl in
      let arrival = r 1 form.Moment (omega arith) refl in
      let priority = r 2 (form.Number LOWEST_PRIORITY HIGHEST_PRIORITY) (omega arith) refl in
      let deadline = r 3 form.Moment (omega arith) refl in
      let e : (i : ℕ) → i < 9 → slice_get (forms_of kind.Occurrence) i ≡ Some form.Empty → text_at fields (i + 1) ≡ [] = λ i lt f. r i form.Empty lt f in
      let rest = empties fields 5 5 ten (e 4 (omega arith) refl, (e 5 (omega arith) refl, (e 6 (omega arith) refl, (e 7 (omega arith) refl, (e 8 (omega arith) refl, tt))))) in
      let key : OccKey = record { app = text_at fields 1; arrival = arrival.0 } in
      inl (item.Occurrence key priority.0 deadline.0, made_occurrence fields ten is.1 key priority.0 deadline.0 (name, refl, arrival.1) priority.1 deadline.1 rest)
  says kind.Operation is r =
      let o = key_at 1 2 3 (r 0 form.ApplicationName (omega arith) refl) (r 1 form.Moment (omega arith) refl) (r 2 operation_number (omega arith) refl) in
      let name = r 3 form.WorkstationName (omega arith) refl in
      let duration = r 4 (form.Number SHORTEST_DURATION LONGEST_DURATION) (omega arith) refl in
      let first = r 5 fixed_amount (omega arith) refl in
      let second = r 6 fixed_amount (omega arith) refl in
      let not_before = not_before_at (text_at fields 8) (r 7 form.MomentOrEmpty (omega arith) refl) in
      let deadline = deadline_at (text_at fields 9) (r 8 form.MomentOrEmpty (omega arith) refl) in
      let said : OperationItem = record { key = o.0; workstation = text_at fields 4; duration = duration.0; r1 = first.0; r2 = second.0; not_before = not_before.0; deadline = deadline.0 } in
      inl (item.Operation said, made_operation fields is.0 is.1 said o.1 name refl duration.1 first.1 second.1 not_before.1 deadline.1)
  says kind.Dependency is r =
      let ten : length fields ≡ 10 = is.0 in
      let p = key_at 1 2 3 (r 0 form.ApplicationName (omega arith) refl) (r 1 form.Moment (omega arith) refl) (r 2 operation_number (omega arith) refl) in
      let s = key_at 4 5 6 (r 3 form.ApplicationName (omega arith) refl) (r 4 form.Moment (omega arith) refl) (r 5 operation_number (omega arith) refl) in
      let rest = empties fields 7 3 ten (r 6 form.Empty (omega arith) refl, (r 7 form.Empty (omega arith) refl, (r 8 form.Empty (omega arith) refl, tt))) in
      inl (item.Dependency p.0 s.0, made_dependency fields ten is.1 p.0 s.0 p.1 s.1 rest)
  says kind.Need is r =
      let ten : length fields ≡ 10 = is.0 in
      let o = key_at 1 2 3 (r 0 form.ApplicationName (omega arith) refl) (r 1 form.Moment (omega arith) refl) (r 2 operation_number (omega arith) refl) in
      let name = r 3 form.ResourceName (omega arith) refl in
      let mode = mode_at (text_at fields 5) (r 4 (form.OneOf 83 88) (omega arith) refl) in
      let keep = keep_at (text_at fields 6) (r 5 (form.OneOf 75 70) (omega arith) refl) in
      let rest = empties fields 8 2 ten (r 7 form.Empty (omega arith) refl, (r 8 form.Empty (omega arith) refl, tt)) in
      elim (amount_at mode.0 (text_at fields 7) (r 6 quantity (omega arith) refl)) [
        | inl amount ↦
            let need : Need = record { name = text_at fields 4; mode = mode.0; amount = amount.0; keep = keep.0 } in
            inl (item.Need o.0 need, made_need fields ten is.1 o.0 need o.1 (name, refl, mode.1, keep.1, amount.1) rest)
        | inr more ↦ inr (inr (refl, (subst (λ m. text_at fields 5 ≡ mode_letter m) more.0 mode.1, more.1)))
      ]
  says kind.Interval is r =
      let ten : length fields ≡ 10 = is.0 in
      let name = r 0 form.WorkstationName (omega arith) refl in
      let from = r 1 form.Moment (omega arith) refl in
      let end = r 2 form.Moment (omega arith) refl in
      let servers = r 3 (form.Number 0 MOST_SERVERS) (omega arith) refl in
      let first = r 4 fixed_amount (omega arith) refl in
      let second = r 5 fixed_amount (omega arith) refl in
      let rest = empties fields 7 3 ten (r 6 form.Empty (omega arith) refl, (r 7 form.Empty (omega arith) refl, (r 8 form.Empty (omega arith) refl, tt))) in
      let x = interval_by from.0 end.0 servers.0 first.0 second.0 in
      elim (cases_lt from.0 end.0) [
        | inl lt ↦ inl (
          item.Interval (text_at fields 1) x,
          made_interval fields ten is.1 (text_at fields 1) x name refl
              (record { not_empty = lt; end = end.1.0; servers = servers.1.0.1; fixed = (first.1.0.1, second.1.0.1) }, from.1, end.1, servers.1.1, first.1.1, second.1.1) rest,
        )
        | inr le ↦ inr (inl (refl, (from.0, end.0, from.1, end.1, le)))
      ]
