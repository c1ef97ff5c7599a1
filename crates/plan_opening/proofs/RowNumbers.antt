-- What the rows of a plan say of quantities and amounts is so, and what they don't say is as where nothing is written.
use Rattle.std.proofs.Common.{◌≡◌, ◌==◌, ◌≢◌, refl, sym, subst, ap, ◌∙◌, ℕ, Bool, true, false, List, Contains, Option, Some, None}
use Rattle.std.proofs.lemmas.Bool.{eqb-false, eqb-true}
use Rattle.std.proofs.lemmas.Option.{none-some, same_Some}
use Rattle.std.proofs.lemmas.List.Sorted.{Contains-permutation, IsPermutation-sym}
use Rattle.std.specs.Cmp.{IsTotalOrder}
use Rattle.std.specs.FinMap.{IsAntisymmetric, from_entries, get}
use Rattle.std.specs.List.{filter_map}
use Rattle.std.specs.Option.{unwrap_or}
use Rattle.std.specs.declared.cmp.Ordering.{Ordering}
use Rattle.plan_basics.specs.Keys.{Name, name_cmp_total, name_cmp-IsAntisymmetric}
use Rattle.plan_basics.specs.declared.keys.OpKey.{OpKey}
use Rattle.plan_basics.specs.declared.limits.TheConstants.{MOST_QUANTITY}
use Rattle.plan_drafts.proofs.Lists.{differ_filter, differ_from_pairs, differ_weaken, from_filter, in_filter, pairs_from_differ, Differ}
use Rattle.plan_denotation.proofs.OwnNeeds.{need_cmp_total, need_cmp-IsAntisymmetric}
use Rattle.plan_drafts.proofs.Tables.{get_row, row_found, rows_apart}
use Rattle.plan_drafts.specs.KeyOrder.{AreInKeyOrder}
use Rattle.plan_drafts.specs.declared.RowKey.TheVariants as key
use Rattle.plan_rows.specs.plan_laws.proofs.RowsListed.{one_of_key}
use Rattle.special_resources.specs.Holders.{IsAmount, Usage}
use Rattle.plan_model.specs.Contents.{Operation}
use Rattle.plan_model.specs.Plan.{Plan}
use Rattle.plan_model.specs.Valid.{IsValid}
use Rattle.plan_model.specs.declared.Stock.{Stock}
use Rattle.special_resources.specs.declared.Mode.{Mode}
use Rattle.special_resources.specs.declared.Mode.TheVariants.{Exclusive, Shared}
use Rattle.plan_records.specs.Rows.{AreRows, IsRow, key_of}
use Rattle.plan_records.specs.declared.PlanRow.{PlanRow}
use Rattle.plan_records.specs.declared.PlanRow.TheVariants as row
use Rattle.plan_opening.specs.Restoring.{AreSaid, SayEachOnce, amount_by, as_amount, as_quantity, quantity_by}
use Rattle.plan_opening.specs.declared.restoring.said.Said.{Said}

-- which row says a quantity, and which an amount
quantity_row : (r : PlanRow) (x : Name × ℕ) → as_quantity r ≡ Some x → r ≡ row.Quantity x.0 x.1
quantity_row (row.Quantity name quantity) x e = ap (λ (z : Name × ℕ). row.Quantity z.0 z.1) (same_Some (name, quantity) x e)
quantity_row r x e = absurd (cc)

amount_row : (r : PlanRow) (x : (OpKey × Name) × ℕ) → as_amount r ≡ Some x → r ≡ row.Amount x.0.0 x.0.1 x.1
amount_row (row.Amount o name amount) x e = ap (λ (z : (OpKey × Name) × ℕ). row.Amount z.0.0 z.0.1 z.1) (same_Some ((o, name), amount) x e)
amount_row r x e = absurd (cc)

-- ---- a number that is said of a key

module _ {K : Type 0} {R : K → K → Ordering} (total : IsTotalOrder R) (exact : IsAntisymmetric R) (listed said : List (K × ℕ)) (are : AreInKeyOrder R (λ x. x.0) listed said) (k : K) where
  -- where it is listed it is found
  found : (n : ℕ) → Contains listed (k, n) → get {R = R} (from_entries said) k ≡ Some n
  found n has = get_row total exact said k n (rows_apart total exact said are.in_order) (Contains-permutation listed said (k, n) are.same has)

  -- and what is found is listed
  listed_where : (n : ℕ) → get {R = R} (from_entries said) k ≡ Some n → Contains listed (k, n)
  listed_where n e = Contains-permutation said listed (k, n) (IsPermutation-sym listed said are.same) (row_found total exact said k n e)

  -- where all that is listed of the key is this number, and it is listed unless it is the other, what is found or else the other is this number
  pub number_told : (other number : ℕ) → ((n : ℕ) → Contains listed (k, n) → n ≡ number) → (number ≢ other → Contains listed (k, number)) → unwrap_or (get {R = R} (from_entries said) k) other ≡ number
  number_told other number one there = by_found (get {R = R} (from_entries said) k) refl
    where
      by_test : (b : Bool) → (number == other) ≡ b → get {R = R} (from_entries said) k ≡ None → other ≡ number
      by_test true same none = sym (eqb-true number other same)
      by_test false differs none = absurd (none-some number (sym none ∙ found number (there (eqb-false number other differs))))

      by_found : (x : Option ℕ) → get {R = R} (from_entries said) k ≡ x → unwrap_or x other ≡ number
      by_found (Some n) is = one n (listed_where n is)
      by_found None is = by_test (number == other) refl is

-- ---- the rows of a plan

module _ (P : Plan) (valid : IsValid P.contents) (rows : List PlanRow) (are : AreRows P rows) where
  -- no two rows have one key
  pub keys_differ : Differ (λ a b. key_of a ≢ key_of b) rows
  keys_differ =
      differ_weaken (λ a b. a ≢ b) (λ a b. key_of a ≢ key_of b) rows
      (λ a b in_a in_b apart same. apart (one_of_key P valid a b ((are.has_all a).0 in_a) ((are.has_all b).0 in_b) same))
      (differ_from_pairs (λ a b. a ≢ b) rows are.once)

  pub say_each_once : SayEachOnce rows
  say_each_once = record {
    quantities =
        pairs_from_differ (λ x y. x.0 ≢ y.0) (filter_map as_quantity rows)
        (differ_filter as_quantity (λ a b. key_of a ≢ key_of b) (λ x y. x.0 ≢ y.0)
        (λ a b x y e k apart same. apart (ap key_of (quantity_row a x e) ∙ ap key.Quantity same ∙ sym (ap key_of (quantity_row b y k)))) rows keys_differ);
    amounts =
        pairs_from_differ (λ x y. x.0 ≢ y.0) (filter_map as_amount rows)
        (differ_filter as_amount (λ a b. key_of a ≢ key_of b) (λ x y. x.0 ≢ y.0)
        (λ a b x y e k apart same. apart (ap key_of (amount_row a x e) ∙ ap (λ (z : OpKey × Name). key.Amount z.0 z.1) same ∙ sym (ap key_of (amount_row b y k)))) rows keys_differ);
  }

  module _ (said : Said) (is_said : AreSaid rows said) where
    pub quantity_told : (name : Name) (stock : Stock) → get P.contents.resources name ≡ Some stock → quantity_by said.quantities.items name ≡ stock.quantity
    quantity_told name stock there =
        number_told name_cmp_total name_cmp-IsAntisymmetric (filter_map as_quantity rows) said.quantities.items is_said.quantities name MOST_QUANTITY stock.quantity
        (λ n has.
        let r = from_filter as_quantity rows (name, n) has in
        let h : IsRow P (row.Quantity name n) = subst (IsRow P) (quantity_row r.0 (name, n) r.2) ((are.has_all r.0).0 r.1) in
        sym h.2 ∙ ap (λ (s : Stock). s.quantity) (same_Some h.0 stock (sym h.1 ∙ there)))
        (λ differs. in_filter as_quantity rows (row.Quantity name stock.quantity) (name, stock.quantity) ((are.has_all (row.Quantity name stock.quantity)).1 (stock, there, refl, differs)) refl)

    shared_told : (o : OpKey) (op : Operation) → get P.contents.operations o ≡ Some op → (r : Name) (usage : Usage) → get op.needs r ≡ Some usage → usage.claim.mode ≡ Shared → amount_by said.amounts.items o r Shared ≡ usage.claim.amount
    shared_told o op is r usage needs shared =
        number_told need_cmp_total need_cmp-IsAntisymmetric (filter_map as_amount rows) said.amounts.items is_said.amounts (o, r) 1 usage.claim.amount
        (λ n has.
        let x = from_filter as_amount rows ((o, r), n) has in
        let h : IsRow P (row.Amount o r n) = subst (IsRow P) (amount_row x.0 ((o, r), n) x.2) ((are.has_all x.0).0 x.1) in
        let same : h.0 ≡ op = same_Some h.0 op (sym h.1 ∙ is) in
        let one : h.2.0 ≡ usage = same_Some h.2.0 usage (sym h.2.1 ∙ ap (λ (z : Operation). get z.needs r) same ∙ needs) in
        sym (ap (λ c. c.amount) h.2.2) ∙ ap (λ (u : Usage). u.claim.amount) one)
        (λ differs. in_filter as_amount rows (row.Amount o r usage.claim.amount) ((o, r), usage.claim.amount)
        ((are.has_all (row.Amount o r usage.claim.amount)).1 (op, is, (usage, needs, λ i. record { mode = shared i; amount = usage.claim.amount }, differs))) refl)

    pub amount_told : (o : OpKey) (op : Operation) → get P.contents.operations o ≡ Some op → (r : Name) (usage : Usage) → get op.needs r ≡ Some usage → amount_by said.amounts.items o r usage.claim.mode ≡ usage.claim.amount
    amount_told o op is r usage needs = by_mode usage.claim.mode refl
      where
        by_mode : (mode : Mode) → usage.claim.mode ≡ mode → amount_by said.amounts.items o r mode ≡ usage.claim.amount
        by_mode Exclusive same = sym (subst (λ m. IsAmount m usage.claim.amount) same ((valid.occurrences.each_operation o op is).0.needs r usage needs).1)
        by_mode Shared same = shared_told o op is r usage needs same
