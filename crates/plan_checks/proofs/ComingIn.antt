-- What is added, by the rows and pairs in which it is kept.
use Rattle.std.proofs.Common.{◌≡◌, ◌⊎◌, inl, inr, refl, sym, subst, ap, ◌∙◌, arith, ℕ, ◌+◌, ◌<◌, ◌≤◌, Bool, true, false, not, true≢false}
use Rattle.std.proofs.Common.{List, length, get_or, All, Contains, Option, Some, None, is_some, IfSome, IsNone, Decides}
use Rattle.std.specs.FinMap.{contains_key, get}
use Rattle.std.specs.FinSet.{from_list}
use Rattle.std.specs.Bool.{MatchBool}
use Rattle.std.specs.List.{AllWithin, HoldsAt}
use Rattle.std.proofs.lemmas.List.Elements.{All-contains, AllWithin-more, at_read}
use Rattle.plan_basics.specs.Keys.{Name, occurrence_cmp_total, occurrence_cmp-IsAntisymmetric, operation_cmp_total, operation_cmp-IsAntisymmetric}
use Rattle.plan_basics.specs.declared.Refusal.TheVariants as refusal
use Rattle.plan_basics.specs.declared.keys.OccKey.{OccKey}
use Rattle.plan_basics.specs.declared.keys.OpKey.{OpKey}
use Rattle.plan_model.specs.Contents.{Contents, IsPairOf, Operation}
use Rattle.plan_model.specs.declared.Occurrence.{Occurrence}
use Rattle.plan_records.specs.Acceptance.{IsNew, IsOld, MayBeAdded}
use Rattle.plan_drafts.specs.Contents.{AreExtensionParts, added_of}
use Rattle.plan_drafts.specs.Drafts.{IsEnd, IsOwn}
use Rattle.plan_drafts.specs.declared.contents.ExtensionParts.{ExtensionParts}
use Rattle.special_resources.specs.Holders.{Usage}
use Rattle.special_resources.specs.Holdings.{usage_of}
use Rattle.special_resources.specs.Needs.{AreInNameOrder, usages_of}
use Rattle.special_resources.specs.declared.Need.{Need}
use Rattle.special_resources.proofs.MoreNeeds.{need_by_usage, usage_by_need}
use Rattle.derived_figures.specs.plan_laws.proofs.Pairs.{pair_cmp_total, pair_cmp-IsAntisymmetric}
use Rattle.plan_drafts.proofs.Lists.{all_by_members, all_told}
use Rattle.plan_drafts.proofs.Tables.{from_set, get_row, in_set, is_found, row_found, rows_apart, some_is}
use Rattle.plan_checks.specs.Additions.{IsFound, IsFoundPair}

-- ---- what is looked up

-- what is found of a key shows whether it is there
pub found_told : {A X : Type 0} (there : Option X) (found : Option A) (F : A → Type 0) → IfSome found F → (IsNone found → there ≡ None) → ((a : A) → F a → is_some there ≡ true) → (b : Bool) → b ≡ is_some found → Decides b (is_some there ≡ true)
found_told there (Some a) F f absent shows b is = subst (λ t. Decides t (is_some there ≡ true)) (sym is) (λ _. shows a f, λ _. refl)
found_told there None F f absent shows b is = subst (λ t. Decides t (is_some there ≡ true)) (sym is) (λ e. absurd (true≢false (sym e)), λ h. absurd (true≢false (sym h ∙ ap is_some (absent refl))))

-- where this shows whether there is one, its opposite shows whether there is none
pub missing_told : (b has : Bool) → Decides (not b) (has ≡ true) → Decides b (has ≡ false)
missing_told true true told = absurd (true≢false (sym (told.1 refl)))
missing_told true false told = (λ _. refl, λ _. refl)
missing_told false true told = (λ e. absurd (true≢false (sym e)), λ e. absurd (true≢false e))
missing_told false false told = absurd (true≢false (sym (told.0 refl)))

-- ---- an end of a pair

module _ (parts : ExtensionParts) (are : AreExtensionParts parts) (P : Contents) (o : OpKey) where
  new_is_own : IsNew (added_of parts) o → IsOwn (added_of parts) o
  new_is_own new = let found = is_found (get (added_of parts).operations o) new in (are.extension.occurrences.each_operation o found.0 found.1).1

  -- of an occurrence that is added it is an operation that is added
  found_is_known : IsEnd (added_of parts) o → IsFound P (added_of parts) o → IsNew (added_of parts) o ⊎ IsOld P (added_of parts) o
  found_is_known end (inl own) = inl (end.1 own)
  found_is_known end (inr old) = inr old

  known_is_found : IsNew (added_of parts) o ⊎ IsOld P (added_of parts) o → IsFound P (added_of parts) o
  known_is_found (inl new) = inl (new_is_own new)
  known_is_found (inr old) = inr old

-- all ends are known where each is found
pub ends_told : (parts : ExtensionParts) → AreExtensionParts parts → (P : Contents) (b : Bool) → Decides b ((p o : OpKey) → IsPairOf (added_of parts).pairs p o → IsFoundPair P (added_of parts) (p, o))
    → Decides b (MayBeAdded P (added_of parts) refusal.UnknownOperation)
ends_told parts are P b told = (
  λ yes p o comes.
      let ends = are.extension.pairs p o comes in
      let found = told.0 yes p o comes in
      (found_is_known parts are P p ends.0 found.0, found_is_known parts are P o ends.1 found.1),
  λ may. told.1 (λ p o comes. let known = may p o comes in (known_is_found parts are P p known.0, known_is_found parts are P o known.1)),
)

-- ---- all pairs, rows and needs

-- what a test of each element showed: whether all have Q
abbrev pub IsTestOfEach : {X : Type 0} → (X → Type 0) → List X → Bool → Type 0
IsTestOfEach Q items b = MatchBool b (AllWithin Q items 0 (length items)) ((k : ℕ) × (k < length items) × HoldsAt (λ x. ¬ Q x) items k)

-- it shows whether each member of a like list has Q
each_told : {X : Type 0} {items members : List X} → items ≡ members → (Q : X → Type 0) (b : Bool) → IsTestOfEach Q items b → Decides b ((x : X) → Contains members x → Q x)
each_told {X} {items} {members} same Q b test =
    let told = all_told Q items b test in (
      λ yes x has. All-contains Q members x (subst (All Q) same (told.0 yes)) has,
      λ each. told.1 (subst (All Q) (sym same) (all_by_members Q members each)),
    )

-- what is so of each pair in the list is so of each in the set, which has them all
pub pairs_told : {items pairs : List (OpKey × OpKey)} → items ≡ pairs → (Q : OpKey × OpKey → Type 0) (b : Bool) → IsTestOfEach Q items b → Decides b ((p o : OpKey) → IsPairOf (from_list pairs) p o → Q (p, o))
pairs_told {items} {pairs} same Q b test =
    let told = each_told same Q b test in (
      λ yes p o is. told.0 yes (p, o) (from_set pair_cmp_total pair_cmp-IsAntisymmetric pairs (p, o) is),
      λ may. told.1 (λ pair has. may pair.0 pair.1 (in_set pair_cmp_total pair_cmp-IsAntisymmetric pairs pair has)),
    )

-- one more pair is told
module _ {X : Type 0} (Q : X → Type 0) (items : List X) (i : ℕ) (x : X) (lt : i < length items) (is : x ≡ get_or items i x) where
  pub more_told : (all one : Bool) → Decides all (AllWithin Q items 0 i) → Decides one (Q x) → all ≡ true → Decides one (AllWithin Q items 0 (i + 1))
  more_told all one before now on = (
    λ so. AllWithin-more Q items 0 i (before.0 on) (at_read items Q i x lt is (now.0 so)),
    λ each. now.1 (subst Q (sym is) (each i x (omega arith) (omega arith))),
  )

  pub none_more : (all : Bool) → Decides all (AllWithin Q items 0 i) → all ≡ false → Decides all (AllWithin Q items 0 (i + 1))
  none_more all before off = (λ e. absurd (true≢false (sym e ∙ off)), λ each. before.1 (λ k d from to. each k d from (omega (arith, to))))

-- what is told of each pair in the list is told of each in the set, which has them all
pub each_pair_told : {items pairs : List (OpKey × OpKey)} → items ≡ pairs → (Q : OpKey × OpKey → Type 0) (i : ℕ) → i ≤ length items → length items ≤ i → (b : Bool) → Decides b (AllWithin Q items 0 i)
    → Decides b ((p o : OpKey) → IsPairOf (from_list pairs) p o → Q (p, o))
each_pair_told {items} {pairs} same Q i within past b told = (
  λ yes p o is. All-contains Q pairs (p, o) (subst (All Q) same (λ k d lt. told.0 yes k d (omega arith) (omega (arith, lt, past)))) (from_set pair_cmp_total pair_cmp-IsAntisymmetric pairs (p, o) is),
  λ may. told.1 (λ k d from to.
      subst (All Q) (sym same) (all_by_members Q pairs (λ pair has. may pair.0 pair.1 (in_set pair_cmp_total pair_cmp-IsAntisymmetric pairs pair has))) k d (omega (arith, to, within))),
)

-- what is so of each row's key is so of the key of each occurrence that is added
pub occurrences_told : (parts : ExtensionParts) → AreExtensionParts parts → {items : List (OccKey × Occurrence)} → items ≡ parts.occurrences.items → (Q : OccKey → Type 0) (b : Bool)
    → IsTestOfEach (λ row. Q row.0) items b → Decides b ((c : OccKey) → contains_key (added_of parts).occurrences c ≡ true → Q c)
occurrences_told parts are same Q b test =
    let rows = parts.occurrences.items in
    let told = each_told same (λ (row : OccKey × Occurrence). Q row.0) b test in (
      λ yes c known. let found = is_found (get (added_of parts).occurrences c) known in told.0 yes (c, found.0) (row_found occurrence_cmp_total occurrence_cmp-IsAntisymmetric rows c found.0 found.1),
      λ each. told.1 (λ row has. each row.0 (some_is (get (added_of parts).occurrences row.0) row.1 (get_row occurrence_cmp_total occurrence_cmp-IsAntisymmetric rows row.0 row.1 (rows_apart occurrence_cmp_total occurrence_cmp-IsAntisymmetric rows are.occurrences) has))),
    )

-- what is so of each row's operation is so of each operation that is added
pub operations_told : (parts : ExtensionParts) → AreExtensionParts parts → {items : List (OpKey × Operation)} → items ≡ parts.operations.items → (Q : Operation → Type 0) (b : Bool)
    → IsTestOfEach (λ row. Q row.1) items b → Decides b ((o : OpKey) (op : Operation) → get (added_of parts).operations o ≡ Some op → Q op)
operations_told parts are same Q b test =
    let rows = parts.operations.items in
    let told = each_told same (λ (row : OpKey × Operation). Q row.1) b test in (
      λ yes o op is. told.0 yes (o, op) (row_found operation_cmp_total operation_cmp-IsAntisymmetric rows o op is),
      λ may. told.1 (λ row has. may row.0 row.1 (get_row operation_cmp_total operation_cmp-IsAntisymmetric rows row.0 row.1 (rows_apart operation_cmp_total operation_cmp-IsAntisymmetric rows are.operations) has)),
    )

-- what is so of each need in the list is so of each special resource that the operation needs
pub needs_told : (op : Operation) (needs : List Need) → op.needs ≡ usages_of needs → AreInNameOrder needs → (Q : Name → Usage → Type 0) (b : Bool)
    → IsTestOfEach (λ need. Q need.name (usage_of need)) needs b → Decides b ((r : Name) (usage : Usage) → get op.needs r ≡ Some usage → Q r usage)
needs_told op needs same sorted Q b test =
    let told = each_told refl (λ (need : Need). Q need.name (usage_of need)) b test in (
      λ yes r usage is.
          let n = need_by_usage needs sorted r usage (subst (λ u. get u r ≡ Some usage) same is) in
          subst (Q r) n.3 (subst (λ z. Q z (usage_of n.0)) n.2 (told.0 yes n.0 n.1)),
      λ has. told.1 (λ need listed. has need.name (usage_of need) (subst (λ u. get u need.name ≡ Some (usage_of need)) (sym same) (usage_by_need needs sorted need listed))),
    )
