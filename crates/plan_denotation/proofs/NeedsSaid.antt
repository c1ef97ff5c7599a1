-- The needs that are said, and those of one operation: which resources they are of, and how these are used.
use Rattle.std.proofs.Common.{◌≡◌, ◌≢◌, sym, subst, ap, ◌∙◌, arith, ℕ, ◌≤◌, true, List, map, length, Contains, Option, Some, None, unwrap_or, MatchOption}
use Rattle.std.specs.List.Sorted.{IsPermutation}
use Rattle.std.specs.List.{filter_map}
use Rattle.std.specs.Cmp.{IsTotalOrder}
use Rattle.std.specs.declared.cmp.Ordering.{Ordering}
use Rattle.std.specs.FinMap.{IsAntisymmetric, get, contains_key, len}
use Rattle.std.proofs.lemmas.List.Sorted.{Contains-permutation, IsPermutation-sym}
use Rattle.plan_basics.specs.declared.limits.TheConstants.{MOST_NEEDS}
use Rattle.plan_basics.specs.declared.keys.OpKey.{OpKey}
use Rattle.plan_basics.specs.Keys.{Name, name_cmp_total, name_cmp-IsAntisymmetric, operation_cmp_total, operation_cmp-IsAntisymmetric}
use Rattle.plan_basics.specs.Minutes.{IsMoment}
use Rattle.plan_basics.specs.Names.{IsResourceName}
use Rattle.plan_items.specs.special_resources.specs.declared.Need.{Need}
use Rattle.plan_items.specs.special_resources.specs.Holders.{Usage, IsAmount}
use Rattle.plan_items.specs.special_resources.specs.Holdings.{usage_of}
use Rattle.plan_items.specs.special_resources.specs.Needs.{entry_of, usages_of}
use Rattle.plan_model.specs.Contents.{Operation, Operations}
use Rattle.plan_model.specs.declared.Occurrence.{Occurrence}
use Rattle.plan_items.specs.declared.OperationItem.{OperationItem}
use Rattle.plan_items.specs.Items.{IsOperationItem}
use Rattle.plan_model.specs.Valid.{IsOperation}
use Rattle.plan_drafts.specs.PlanItems.{AreNeedsInOrder, need_key, needs_of, operation_of}
use Rattle.plan_drafts.proofs.Lists.{Differ, differ_from_pairs, map_alike, differ_filter, differ_map, length_map, in_map, from_map}
use Rattle.plan_drafts.proofs.Tables.{AreApart, get_row, row_found, len_rows, some_is, same_entries}
use Rattle.plan_drafts.proofs.Orders.{differ_permuted}
use Rattle.plan_drafts.proofs.Keyed.{own, own_from, from_own, in_own}
use Rattle.plan_denotation.proofs.OwnNeeds.{need_cmp_total, need_cmp-IsAntisymmetric}
use Rattle.std.proofs.lemmas.Option.{same_Some}

-- ---- what is said of one key
-- the key, and a name of what is said
abbrev key_and : {K X N : Type 0} → (X → N) → K × X → K × N
key_and name said = (said.0, name said.1)

-- where rows differ in these, those of one key differ in the name
pub own_apart :
    {K X N : Type 0} {R : K → K → Ordering} → IsTotalOrder R → IsAntisymmetric R → (name : X → N) (k : K) (rows : List (K × X)) →
    Differ (λ a b. key_and name a ≢ key_and name b) rows → Differ (λ x y. name x ≢ name y) (filter_map (own R k) rows)
own_apart {R = R} total exact name k rows apart = differ_filter (own R k) (λ a b. key_and name a ≢ key_and name b) (λ x y. name x ≢ name y)
    (λ a b x y e f differ same.
    let p = own_from total exact k a x e in
    let q = own_from total exact k b y f in
    let keys : a.0 ≡ b.0 = p.0 ∙ sym q.0 in
    let names : name a.1 ≡ name b.1 = ap name p.1 ∙ same ∙ sym (ap name q.1) in
    differ (λ i. (keys i, names i)))
    rows apart

-- ---- the needs of one operation
-- no two are of one operation and one resource
abbrev pub NeedsDiffer : List (OpKey × Need) → Type 0
NeedsDiffer needs = Differ (λ a b. need_key a ≢ need_key b) needs

-- what is used is said
pub usage_said :
    (needs : List (OpKey × Need)) (o : OpKey) (r : Name) (usage : Usage) → get (usages_of (needs_of o needs)) r ≡ Some usage →
    (n : Need) × Contains needs (o, n) × (n.name ≡ r) × (usage_of n ≡ usage)
usage_said needs o r usage e =
    let m = from_map entry_of (needs_of o needs) (r, usage) (row_found name_cmp_total name_cmp-IsAntisymmetric (map entry_of (needs_of o needs)) r usage e) in
    (m.0, from_own operation_cmp_total operation_cmp-IsAntisymmetric needs o m.0 m.1, ap (λ (p : Name × Usage). p.0) m.2, ap (λ (p : Name × Usage). p.1) m.2)

module _ (needs : List (OpKey × Need)) (apart : NeedsDiffer needs) (o : OpKey) where
  names_apart : Differ (λ (m n : Need). m.name ≢ n.name) (needs_of o needs)
  names_apart = own_apart operation_cmp_total operation_cmp-IsAntisymmetric (λ (n : Need). n.name) o needs apart

  entries_apart : AreApart (map entry_of (needs_of o needs))
  entries_apart = differ_map entry_of (λ a b. a.0 ≢ b.0) (needs_of o needs) names_apart

  -- what is said is used
  pub usage_got : (n : Need) → Contains needs (o, n) → get (usages_of (needs_of o needs)) n.name ≡ Some (usage_of n)
  usage_got n has = get_row name_cmp_total name_cmp-IsAntisymmetric (map entry_of (needs_of o needs)) n.name (usage_of n) entries_apart (in_map entry_of (needs_of o needs) n (in_own operation_cmp_total operation_cmp-IsAntisymmetric needs o n has))

  pub usages_count : len (usages_of (needs_of o needs)) ≡ length (needs_of o needs)
  usages_count = len_rows name_cmp_total name_cmp-IsAntisymmetric (map entry_of (needs_of o needs)) entries_apart ∙ length_map entry_of (needs_of o needs)

-- ---- needs of operations that have just what is said of them
module _ (needs : List (OpKey × Need)) (apart : NeedsDiffer needs) (operations : Operations) (need_is : (y : OpKey × Need) → Contains needs y → (op : Operation) × (get operations y.0 ≡ Some op) × (get op.needs y.1.name ≡ Some (usage_of y.1))) where
  module _ (o : OpKey) (op : Operation) (there : get operations o ≡ Some op) (is_said : (r : Name) → contains_key op.needs r ≡ true → Contains (map need_key needs) (o, r)) where
    used_is : (n : Need) → Contains needs (o, n) → get op.needs n.name ≡ Some (usage_of n)
    used_is n has =
        let is = need_is (o, n) has in
        let one : is.0 ≡ op = same_Some is.0 op (sym is.1 ∙ there) in
        subst (λ (x : Operation). get x.needs n.name ≡ Some (usage_of n)) one is.2

    needs_same : usages_of (needs_of o needs) ≡ op.needs
    needs_same = same_entries name_cmp_total name_cmp-IsAntisymmetric (usages_of (needs_of o needs)) op.needs
        (λ r usage e.
        let n = usage_said needs o r usage e in
        subst (λ z. get op.needs z ≡ Some usage) n.2 (used_is n.0 n.1 ∙ ap (λ u. Some u) n.3))
        (λ r usage e.
        let m = from_map need_key needs (o, r) (is_said r (some_is (get op.needs r) usage e)) in
        let has : Contains needs (o, m.0.1) = subst (λ z. Contains needs (z, m.0.1)) (ap (λ (q : OpKey × Name). q.0) m.2) m.1 in
        let name : m.0.1.name ≡ r = ap (λ (q : OpKey × Name). q.1) m.2 in
        subst (λ z. get (usages_of (needs_of o needs)) z ≡ get op.needs z) name (usage_got needs apart o m.0.1 has ∙ sym (used_is m.0.1 has)) ∙ e)

    -- an operation has as many needs as are said of it
    pub as_many_said : length (needs_of o needs) ≡ len op.needs
    as_many_said = sym (usages_count needs apart o) ∙ ap len needs_same

-- ---- needs in another order
moved_usage :
    (needs others : List (OpKey × Need)) → ((said : OpKey × Need) → Contains needs said → Contains others said) → NeedsDiffer others →
    (o : OpKey) (r : Name) (usage : Usage) → get (usages_of (needs_of o needs)) r ≡ Some usage → get (usages_of (needs_of o others)) r ≡ Some usage
moved_usage needs others all apart o r usage e =
    let n = usage_said needs o r usage e in
    subst (λ k. get (usages_of (needs_of o others)) k ≡ Some usage) n.2 (usage_got others apart o n.0 (all (o, n.0) n.1) ∙ ap (λ u. Some u) n.3)

module _ (needs ordered : List (OpKey × Need)) (same : IsPermutation needs ordered) (apart : NeedsDiffer needs) where
  ordered_apart : NeedsDiffer ordered
  ordered_apart = differ_permuted need_cmp_total need_cmp-IsAntisymmetric need_key needs ordered same apart

  -- an operation uses the same
  pub usages_permuted : (o : OpKey) → usages_of (needs_of o needs) ≡ usages_of (needs_of o ordered)
  usages_permuted o = same_entries name_cmp_total name_cmp-IsAntisymmetric (usages_of (needs_of o needs)) (usages_of (needs_of o ordered))
      (moved_usage needs ordered (λ said has. Contains-permutation needs ordered said same has) ordered_apart o)
      (moved_usage ordered needs (λ said has. Contains-permutation ordered needs said (IsPermutation-sym needs ordered same) has) apart o)

  -- and has as many needs
  pub count_permuted : (o : OpKey) → length (needs_of o needs) ≡ length (needs_of o ordered)
  count_permuted o = sym (usages_count needs apart o) ∙ ap len (usages_permuted o) ∙ usages_count ordered ordered_apart o

-- ---- an operation as its record says, where this is in range
pub in_range :
    (needs : List (OpKey × Need)) → NeedsDiffer needs → (terms : Occurrence) (said : OperationItem) → IsOperationItem said → length (needs_of said.key needs) ≤ MOST_NEEDS → IsMoment terms.deadline →
    ((r : Name) (usage : Usage) → get (usages_of (needs_of said.key needs)) r ≡ Some usage → IsResourceName r × IsAmount usage.claim.mode usage.claim.amount) → IsOperation said.key (operation_of terms needs said)
in_range needs apart terms said is few moment named =
    let count = usages_count needs apart said.key in
    record {
      key = is.key;
      workstation = is.workstation;
      duration = (omega arith, omega arith);
      fixed = (omega arith, omega arith);
      not_before = is.not_before;
      deadline = due said.deadline is.deadline;
      needs = named;
      few_needs = omega (arith, few, count);
      code = λ code e. absurd (cc);
    }
  where
    due : (d : Option ℕ) → MatchOption d (Unit {0}) IsMoment → IsMoment (unwrap_or d terms.deadline)
    due None h = moment
    due (Some m) h = h

-- ---- in whatever order the needs are said
-- the row of an operation, where these are its occurrence's terms
abbrev pub row_with : (OperationItem → Occurrence) → List (OpKey × Need) → OperationItem → OpKey × Operation
row_with terms needs said = (said.key, operation_of (terms said) needs said)

module _ (needs sorted : List (OpKey × Need)) (are : AreNeedsInOrder needs sorted) where
  -- each operation has as many
  pub need_counts : (o : OpKey) → length (needs_of o needs) ≡ length (needs_of o sorted)
  need_counts = count_permuted needs sorted are.same (differ_from_pairs (λ a b. need_key a ≢ need_key b) needs are.distinct)

  -- and the operations that are said have the same rows
  pub rows_alike : (terms : OperationItem → Occurrence) (said : List OperationItem) → map (row_with terms needs) said ≡ map (row_with terms sorted) said
  rows_alike terms said = map_alike (row_with terms needs) (row_with terms sorted) said (λ s.
      ap (λ usages. (s.key, record (operation_of (terms s) needs s) { needs = usages }))
      (usages_permuted needs sorted are.same (differ_from_pairs (λ a b. need_key a ≢ need_key b) needs are.distinct) s.key))
