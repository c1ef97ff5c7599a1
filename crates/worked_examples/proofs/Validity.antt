-- What a plan that is written out needs to be valid: names, workstations of one interval, operations without needs, and pairs that ascend.
use Rattle.std.proofs.Common.{arith, ◌≡◌, inl, inr, refl, sym, ◌∙◌, ap, subst, true≢false, ℕ, ◌<◌, ◌≤◌, Bool, true, false, ◌||◌, All, List, [], ◌∷◌, length, nat_lt, Some}
use Rattle.std.proofs.lemmas.Bool.Decides.{Decides-ltb}
use Rattle.std.proofs.lemmas.List.Sums.{AllPass-from_list_all}
use Rattle.std.specs.declared.cmp.Ordering.{Ordering}
use Rattle.std.specs.List.{list_all, list_any}
use Rattle.std.specs.Ordering.{eq_by_cmp, nat_cmp}
use Rattle.std.specs.Cmp.{IsTotalOrder, nat_cmp_total}
use Rattle.std.specs.FinMap.{contains_key, empty, from_entries, get, get-empty, len, len-empty, len-insert, nat_cmp-IsAntisymmetric}
use Rattle.std.specs.FinSet as set
use Rattle.plan_basics.specs.declared.limits.TheConstants.{LONGEST_DURATION, MOST_FIXED, MOST_INTERVALS, SHORTEST_DURATION}
use Rattle.plan_basics.specs.declared.Attr.{Attr}
use Rattle.plan_basics.specs.declared.keys.OpKey.{OpKey}
use Rattle.plan_basics.specs.Intervals.{IsInterval, OpenInterval}
use Rattle.plan_basics.specs.Keys.{IsOperationKey, name_cmp}
use Rattle.plan_basics.specs.Minutes.{IsMoment}
use Rattle.plan_basics.specs.Names.{IsName, is_name_byte}
use Rattle.special_resources.specs.Holders.{Usage}
use Rattle.workstations.proofs.Lookups.{one_more}
use Rattle.workstations.specs.Workstations.{IsWorkstation}
use Rattle.operation_graph.specs.Paths.{IsAcyclicBy, IsRankBy, LeadsBy, by_edge, by_more}
use Rattle.status_rules.specs.declared.Mark.TheVariants as mark
use Rattle.plan_model.specs.Contents.{Operation, pair_cmp}
use Rattle.plan_model.specs.Valid.{IsOperation}
use Rattle.plan_laws.proofs.Decide.{pair_cmp_total, pair_same}
use Rattle.std.proofs.lemmas.Option.{none-some}
use Rattle.worked_examples.specs.Night.{workstation_by}
use Rattle.worked_examples.proofs.Literal.{EachEntry, OneOf, at_entry, entry_of}

-- ---- paths

module _ {K : Type 0} {edge : K → K → Type 0} (rank : K → ℕ) (up : IsRankBy edge rank) where
  leads_up : {a b : K} → LeadsBy edge a b → rank a < rank b
  leads_up (by_edge {a = a} {b = b} e) = up a b e
  leads_up (by_more {a = a} {b = b} {c = c} e more) = let h = up a b e in let k = leads_up more in omega arith

  -- with a number that is greater at each successor no path returns
  pub acyclic_by : IsAcyclicBy edge
  acyclic_by a path = let h = leads_up path in omega arith

pair_cases_by : (p o : OpKey) (pair : OpKey × OpKey) (pairs : List (OpKey × OpKey)) (b : Bool) → eq_by_cmp pair_cmp (p, o) pair ≡ b → (b || list_any (eq_by_cmp pair_cmp (p, o)) pairs) ≡ true
    → (list_any (eq_by_cmp pair_cmp (p, o)) pairs ≡ true → OneOf (λ x. (p ≡ x.0) × (o ≡ x.1)) pairs) → OneOf (λ x. (p ≡ x.0) × (o ≡ x.1)) (pair ∷ pairs)
pair_cases_by p o pair pairs true is h rest = inl (pair_same p o pair.0 pair.1 is)
pair_cases_by p o pair pairs false is h rest = inr (rest h)

pair_among : (pairs : List (OpKey × OpKey)) (p o : OpKey) → list_any (eq_by_cmp pair_cmp (p, o)) pairs ≡ true → OneOf (λ x. (p ≡ x.0) × (o ≡ x.1)) pairs
pair_among [] p o h = absurd (true≢false (sym h))
pair_among (pair ∷ pairs) p o h = pair_cases_by p o pair pairs (eq_by_cmp pair_cmp (p, o) pair) refl h (pair_among pairs p o)

-- a pair of a set that is written out is one of these
pub pair_cases : (pairs : List (OpKey × OpKey)) (p o : OpKey) → set.contains (set.from_list {R = pair_cmp} pairs) (p, o) ≡ true → OneOf (λ x. (p ≡ x.0) × (o ≡ x.1)) pairs
pair_cases pairs p o h = pair_among pairs p o (sym (set.contains-from_list pair_cmp_total pairs (p, o)) ∙ h)

-- what holds of each pair that is written out holds of each pair of the set
pub each_pair : (pairs : List (OpKey × OpKey)) (Q : OpKey → OpKey → Type 0) → EachEntry Q pairs → (p o : OpKey) → set.contains (set.from_list {R = pair_cmp} pairs) (p, o) ≡ true → Q p o
each_pair pairs Q h p o is = at_entry Q pairs p o h (pair_cases pairs p o is)

-- ---- sizes

module _ {K X : Type 0} {R : K → K → Ordering} (o : IsTotalOrder R) where
  pub len_at_most : (es : List (K × X)) (n : ℕ) → length es ≤ n → len (from_entries {R = R} es) ≤ n
  len_at_most [] n h = let e = len-empty R X in omega arith
  len_at_most (e ∷ es) n h =
      let k = len_at_most es (length es) (omega arith) in
      let l = one_more (contains_key (from_entries {R = R} es) e.0) (len (from_entries {R = R} es)) (length es) k in
      let s = len-insert o (from_entries es) e.0 e.1 in
      omega arith

pub set_at_most : {K : Type 0} {R : K → K → Ordering} (o : IsTotalOrder R) (ks : List K) (n : ℕ) → length ks ≤ n → set.len (set.from_list {R = R} ks) ≤ n
set_at_most {R = R} o [] n h = let e = set.len-empty R in omega arith
set_at_most {R = R} o (k ∷ ks) n h =
    let l = set_at_most {R = R} o ks (length ks) (omega arith) in
    let m = one_more (set.contains (set.from_list {R = R} ks) k) (set.len (set.from_list {R = R} ks)) (length ks) l in
    let s = set.len-insert o (set.from_list ks) k in
    omega arith

-- ---- parts

pub name_is : (n : ℕ) (text : List ℕ) → 0 < length text → length text ≤ n → list_all is_name_byte text ≡ true → IsName n text
name_is n text some short all = (some, short, AllPass-from_list_all is_name_byte text all)

-- a text of bytes
pub bytes_are : (text : List ℕ) → list_all (λ b. nat_lt b 256) text ≡ true → All (λ b. b < 256) text
bytes_are text all k d within = (Decides-ltb _ 256).0 (AllPass-from_list_all (λ b. nat_lt b 256) text all k d within)

module _ (a : Attr) (x : OpenInterval) (is : IsInterval x) where
  one_interval : (from : ℕ) (y : OpenInterval) → get (from_entries {R = nat_cmp} ((x.from, x) ∷ [])) from ≡ Some y → (from ≡ x.from) × (y ≡ x)
  one_interval from y found = elim (entry_of nat_cmp_total nat_cmp-IsAntisymmetric ((x.from, x) ∷ []) from y found) [ inl e ↦ e | inr never ↦ absurd never ]

  -- a workstation of one interval
  pub station_is : IsWorkstation (workstation_by a ((x.from, x) ∷ []))
  station_is = record {
    intervals = λ from y found. let e = one_interval from y found in (e.0 ∙ ap (λ z. z.from) (sym e.1), subst IsInterval (sym e.1) is);
    disjoint = λ p q m y z is_p is_q in_y in_z. (one_interval p y is_p).0 ∙ sym (one_interval q z is_q).0;
    few = len_at_most nat_cmp_total ((x.from, x) ∷ []) MOST_INTERVALS (omega arith);
  }

-- a workstation without intervals
pub closed_is : (a : Attr) → IsWorkstation (workstation_by a [])
closed_is a = record {
  intervals = λ from y found. absurd (none-some y (sym (get-empty nat_cmp from) ∙ found));
  disjoint = λ p q m y z is_p is_q in_y in_z. absurd (none-some y (sym (get-empty nat_cmp p) ∙ is_p));
  few = len_at_most nat_cmp_total [] MOST_INTERVALS (omega arith);
}

-- an operation without needs and marks
pub operation_is : (o : OpKey) (op : Operation) → IsOperationKey o → IsName 4 op.workstation → (SHORTEST_DURATION ≤ op.duration) × (op.duration ≤ LONGEST_DURATION) → (op.r1 ≤ MOST_FIXED) × (op.r2 ≤ MOST_FIXED) → IsMoment op.not_before → IsMoment op.deadline → op.needs ≡ empty → op.mark ≡ mark.Unmarked → IsOperation o op
operation_is o op key name long fixed from till none unmarked = record {
  key = key;
  workstation = name;
  duration = long;
  fixed = fixed;
  not_before = from;
  deadline = till;
  needs = λ r usage found. absurd (none-some usage (sym (get-empty name_cmp r) ∙ ap (λ needs. get needs r) (sym none) ∙ found));
  few_needs = let e = ap len none in let k = len-empty name_cmp Usage in omega arith;
  code = λ code is. absurd (let e = sym unmarked ∙ is in cc);
}
