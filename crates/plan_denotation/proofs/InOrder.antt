-- Occurrences, operations and pairs of a plan, as they are said and in key order.
use Rattle.std.proofs.Common.{◌≡◌, ◌↔◌, refl, true≢false, IsTrue, Option, is_some, sym, subst, ap, ap₂, ◌∙◌, ℕ, ◌≤◌, true, false, List, [], ◌∷◌, map, length, All, Contains, Some, None, unwrap_or}
use Rattle.std.specs.Prelude.{◌≢◌, MatchOption}
use Rattle.std.specs.List.{AllPairs}
use Rattle.std.specs.List.Sorted.{IsPermutation, IsStrictlySortedBy}
use Rattle.std.specs.Map.{keys_of}
use Rattle.std.specs.FinMap.{get, contains_key, entries, from_entries, keys}
use Rattle.std.specs.FinSet as set
use Rattle.std.specs.Ordering.{eq_by_cmp}
use Rattle.std.proofs.lemmas.List.Elements.{All-contains, All-weaker}
use Rattle.std.proofs.lemmas.List.Sorted.{IsPermutation-map, IsPermutation-sym, Contains-permutation, list_any-IsPermutation}
use Rattle.plan_basics.specs.declared.limits.TheConstants.{MOST_OPERATIONS, MOST_PAIRS}
use Rattle.plan_basics.specs.declared.keys.OccKey.{OccKey}
use Rattle.plan_basics.specs.declared.keys.OpKey.{OpKey}
use Rattle.plan_basics.specs.Keys.{Name, occurrence_cmp, operation_cmp, operation_cmp_total, operation_cmp-IsAntisymmetric}
use Rattle.plan_items.specs.special_resources.specs.declared.Need.{Need}
use Rattle.plan_items.specs.special_resources.specs.Needs.{Usages, usages_of}
use Rattle.plan_model.specs.status_rules.specs.declared.Mark.TheVariants.{Unmarked}
use Rattle.plan_model.specs.Contents.{Contents, Operation, IsPairOf, pair_cmp}
use Rattle.plan_model.proofs.Entries.{entries_are, keys_of-entries, rows_in_order}
use Rattle.plan_model.specs.Valid.{IsAcyclic}
use Rattle.plan_model.specs.declared.Occurrence.{Occurrence}
use Rattle.plan_drafts.specs.PlanGraphs.{AreAmong, JoinOperations}
use Rattle.plan_items.specs.declared.OperationItem.{OperationItem}
use Rattle.plan_drafts.specs.ExtensionItems.{AreTheirOperations, AreTheirRows}
use Rattle.plan_drafts.specs.PlanItems.{Fits, IsOneOf, BelongsTo, AreOperations, EachHasOperation, AreRowsOf, IsPairIn, ArePairs, ArePairsInOrder, needs_of, occurrence_of, operation_of, row_of, terms_of}
use Rattle.plan_drafts.proofs.Keyed.{made_apart}
use Rattle.plan_drafts.proofs.Lists.{all_by_members, in_map, from_map}
use Rattle.plan_drafts.proofs.Pairs.{pair_cmp_total, pair_cmp-IsAntisymmetric}
use Rattle.plan_drafts.proofs.Tables.{in_set, key_found}
use Rattle.plan_denotation.proofs.Terms.{terms_there}
use Rattle.plan_drafts.specs.KeyOrder.{AreInKeyOrder}
use Rattle.std.proofs.lemmas.Option.{none-some}

-- ---- the row of an operation

-- an operation as its record says, with that deadline and those needs
abbrev pub operation_with : OperationItem → ℕ → Usages → Operation
operation_with said due own = record { workstation = said.workstation; duration = said.duration; r1 = said.r1; r2 = said.r2; not_before = said.not_before; deadline = due; needs = own; mark = Unmarked; held = false; nop = false }

abbrev Terms : Type 0
Terms = List (OccKey × Occurrence)

abbrev Wants : Type 0
Wants = List (OpKey × Need)

abbrev due_of : Occurrence → ℕ
due_of terms = terms.deadline

-- the row that an operation makes of the terms and needs that are found
pub row_made :
    (occurrences : Terms) (needs : Wants) (said : OperationItem) (terms : Occurrence) (due : ℕ) (own : Usages) →
    get {R = occurrence_cmp} (from_entries occurrences) said.key.occurrence ≡ Some terms → due ≡ unwrap_or said.deadline terms.deadline →
    own ≡ usages_of (needs_of said.key needs) → (said.key, operation_with said due own) ≡ row_of occurrences needs said
row_made occurrences needs said terms due own e is own_is =
    let found = ap (λ o. unwrap_or said.deadline (due_of (unwrap_or o (record { priority = 0; deadline = 0 })))) e in
    ap₂ (λ d u. (said.key, operation_with said d u)) (is ∙ sym found) own_is

-- an operation of no occurrence belongs to none
pub unknown :
    (occurrences : Terms) (needs : Wants) (said : OperationItem) → IsStrictlySortedBy occurrence_cmp (keys_of occurrences) →
    None ≡ get {R = occurrence_cmp} (from_entries occurrences) said.key.occurrence → ¬ BelongsTo occurrences needs said
unknown occurrences needs said up e belongs = none-some _ (e ∙ terms_there occurrences up said.key.occurrence belongs.occurrence)

-- what fits is of one of the workstations, and belongs to one of the occurrences
pub fitting :
    (names : List Name) (occurrences : Terms) (needs : Wants) (said : List OperationItem) → All (IsOneOf names) said → All (BelongsTo occurrences needs) said →
    All (Fits names occurrences needs) said
fitting names occurrences needs said named belong = λ k d lt. let is = belong k d lt in record { workstation = named k d lt; occurrence = is.occurrence; few_needs = is.few_needs }

pub named : (names : List Name) (occurrences : Terms) (needs : Wants) (said : List OperationItem) → All (Fits names occurrences needs) said → All (IsOneOf names) said
named names occurrences needs said fit = λ k d lt. (fit k d lt).workstation

pub belonging : (names : List Name) (occurrences : Terms) (needs : Wants) (said : List OperationItem) → All (Fits names occurrences needs) said → All (BelongsTo occurrences needs) said
belonging names occurrences needs said fit = λ k d lt. let is = fit k d lt in record { occurrence = is.occurrence; few_needs = is.few_needs }

-- ---- rows of operations
-- an operation as its record says, with the terms of that one of these occurrences that it belongs to
abbrev pub operation_in : Terms → Wants → OperationItem → Operation
operation_in occurrences needs said = operation_of (terms_of occurrences said.key.occurrence) needs said

-- each occurrence has one of more operations
pub has_over :
    (ks ls : List OpKey) (occurrences : Terms) → ((o : OpKey) → Contains ks o → Contains ls o) → EachHasOperation ks occurrences →
    EachHasOperation ls occurrences
has_over ks ls occurrences all has = All-weaker (λ row. Contains (map occurrence_of ks) row.0) (λ row. Contains (map occurrence_of ls) row.0)
    (λ row is. let r = from_map occurrence_of ks row.0 is in subst (Contains (map occurrence_of ls)) r.2 (in_map occurrence_of ls r.0 (all r.0 r.1))) occurrences has

-- what is so of each is so of each in another order
pub permuted_all : {X : Type 0} (P : X → Type 0) (xs ys : List X) → IsPermutation xs ys → All P xs → All P ys
permuted_all P xs ys same all = all_by_members P ys (λ y has. All-contains P xs y all (Contains-permutation ys xs y (IsPermutation-sym xs ys same) has))

rows_keys : (occurrences : Terms) (needs : Wants) (said : List OperationItem) → keys_of (map (row_of occurrences needs) said) ≡ map (λ (s : OperationItem). s.key) said
rows_keys occurrences needs [] = refl
rows_keys occurrences needs (s ∷ said) = ap (λ ks. s.key ∷ ks) (rows_keys occurrences needs said)

-- the rows of operations in key order are in key order
pub rows_ordered :
    (occurrences : Terms) (needs : Wants) (said sorted : List OperationItem) (rows : List (OpKey × Operation)) → AreInKeyOrder operation_cmp (λ (s : OperationItem). s.key) said sorted →
    rows ≡ map (row_of occurrences needs) sorted → AreInKeyOrder operation_cmp (λ row. row.0) (map (row_of occurrences needs) said) rows
rows_ordered occurrences needs said sorted rows ordered made = record {
  distinct = made_apart (λ (s : OperationItem). s.key) (operation_in occurrences needs) said ordered.distinct;
  same = subst (IsPermutation (map (row_of occurrences needs) said)) (sym made) (IsPermutation-map (row_of occurrences needs) said sorted ordered.same);
  in_order = subst (IsStrictlySortedBy operation_cmp) (sym (ap keys_of made ∙ rows_keys occurrences needs sorted)) ordered.in_order;
}

-- so are those of a plan, where these are few enough and of its workstations
pub rows_told :
    {V : Type 0} (items : V → List (OpKey × Operation)) (names : List Name) (occurrences : Terms) (needs : Wants) (said : List OperationItem) → length said ≤ MOST_OPERATIONS → All (IsOneOf names) said →
    (found : Option V) → MatchOption found (¬ AreTheirOperations occurrences needs said) (λ v. AreTheirRows occurrences needs said (items v)) →
    MatchOption found (¬ AreOperations names occurrences needs said) (λ v. AreRowsOf names occurrences needs said (items v))
rows_told items names occurrences needs said few named None none = λ are. none (record { belong = belonging names occurrences needs said are.fit; distinct = are.distinct; not_empty = are.not_empty })
rows_told items names occurrences needs said few named (Some v) rows = record {
  operations = record { few = few; fit = fitting names occurrences needs said named rows.operations.belong; distinct = rows.operations.distinct; not_empty = rows.operations.not_empty };
  same = rows.same;
  in_order = rows.in_order;
}

-- the keys of a plan with these rows are theirs
pub row_keys : (rows : List (OpKey × Operation)) → IsStrictlySortedBy operation_cmp (keys_of rows) → keys (from_entries {R = operation_cmp} rows) ≡ keys_of rows
row_keys rows up = keys_of-entries operation_cmp (from_entries {R = operation_cmp} rows) ∙ ap keys_of (rows_in_order operation_cmp_total rows up)

-- ---- pairs

abbrev Pair : Type 0
Pair = OpKey × OpKey

module _ (ks : List OpKey) (pairs ordered : List Pair) (same : IsPermutation pairs ordered) where
  -- between the keys in order too
  pub ends_among : All (IsPairIn ks) pairs → AreAmong ks ordered
  ends_among within =
      all_by_members (λ (p : Pair). Contains ks p.0 × Contains ks p.1) ordered (λ p has.
      let is = All-contains (IsPairIn ks) pairs p within (Contains-permutation ordered pairs p (IsPermutation-sym pairs ordered same) has) in
      (is.first, is.second))

  -- in any order they are the same set
  pub same_pairs : ◌≡◌ {A = set.FinSet pair_cmp} (set.from_list pairs) (set.from_list ordered)
  same_pairs = set.same_set pair_cmp_total pair_cmp-IsAntisymmetric (set.from_list pairs) (set.from_list ordered) (λ q.
      set.contains-from_list pair_cmp_total pairs q ∙ list_any-IsPermutation (eq_by_cmp pair_cmp q) pairs ordered same ∙ sym (set.contains-from_list pair_cmp_total ordered q))

  -- and back
  pub within_in_order : AreAmong ks ordered → All (IsPairIn ks) pairs
  within_in_order among =
      all_by_members (IsPairIn ks) pairs (λ (p : Pair) has.
      let is = All-contains (λ (p : Pair). Contains ks p.0 × Contains ks p.1) ordered p among (Contains-permutation pairs ordered p same has) in
      record { first = is.0; second = is.1 })

  -- where the ends of those in order aren't all among the keys, or some path of them returns, the pairs are none of a plan
  pub no_pairs_in_order : ¬ (AreAmong ks ordered × IsAcyclic (set.from_list ordered)) → ¬ ArePairs ks pairs
  no_pairs_in_order none are = none (ends_among are.within, subst IsAcyclic same_pairs are.acyclic)

  pub pairs_are :
      length pairs ≤ MOST_PAIRS → All (IsPairIn ks) pairs → AllPairs (λ a b. a ≢ b) pairs → IsStrictlySortedBy pair_cmp ordered → IsAcyclic (set.from_list ordered) →
      ArePairsInOrder ks pairs ordered
  pairs_are few within distinct up acyclic = record {
    are = record {
      few = few;
      within = within;
      distinct = distinct;
      acyclic = subst IsAcyclic (sym same_pairs) acyclic;
    };
    same = same;
    in_order = up;
  }
