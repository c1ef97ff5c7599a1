-- The standings of rows, as pair after pair is added.
use Rattle.std.proofs.Common.{◌≡◌, inl, inr, refl, sym, ◌∙◌, ap, subst, true≢false, arith, ℕ, ◌+◌, ◌≤◌, true, false, List, [], ◌∷◌, ◌++◌, get_or, length, replicate, set, Some, slice_get}
use Rattle.std.specs.FinMap.{entries, get}
use Rattle.std.specs.FinSet.{from_list}
use Rattle.std.specs.List.Sorted.{IsStrictlySortedBy}
use Rattle.std.proofs.lemmas.List.{length-replicate, length-set}
use Rattle.std.proofs.lemmas.Option.{get_or_from_slice_get, slice_get-get_or, slice_get_within, same_Some}
use Rattle.plan_basics.specs.Keys.{operation_cmp, operation_cmp_total}
use Rattle.plan_basics.specs.declared.keys.OpKey.{OpKey}
use Rattle.plan_model.specs.Contents.{Contents, Operation, pair_cmp}
use Rattle.plan_model.proofs.Entries.{entries_in_order}
use Rattle.plan_laws.specs.plan_drafts.proofs.Pairs.{no_pair, pair_pushed}
use Rattle.plan_basics.proofs.Members.{contains_none}
use Rattle.plan_status.specs.Incoming.{ComesAfter, with_pairs}
use Rattle.plan_status.specs.Standings.{AreStandings, IsStanding}
use Rattle.plan_status.specs.declared.standings.Standing.{Standing}
use Rattle.plan_status.proofs.Ascending.{all_alike, one_place, set_cases}
use Rattle.plan_status.proofs.LoadedRows.{row_found}
use Rattle.plan_status.proofs.Incoming.{stands_as_before}

-- what is read at a row's index
pub row_known : (P : Contents) (place : ℕ) (k : OpKey) (op : Operation) → slice_get (entries P.operations) place ≡ Some (k, op)
    → (row : OpKey × Operation) → row ≡ get_or (entries P.operations) place row → get P.operations k ≡ Some row.1
row_known P place k op at row is = row_found P place k op at ∙ ap (λ (z : OpKey × Operation). Some z.1) (sym (is ∙ get_or_from_slice_get (entries P.operations) place (k, op) row at))

pub standing_at : {X Y : Type 0} (rows : List X) (place : ℕ) (row : X) → slice_get rows place ≡ Some row → (xs : List Y) → length xs ≡ length rows → (x : Y) → x ≡ get_or xs place x → slice_get xs place ≡ Some x
standing_at rows place row at xs size x is =
    let within = slice_get_within rows place row at in
    slice_get-get_or xs place x (omega (arith, within, size)) ∙ ap Some (sym is)

-- what comes after no other
abbrev pub first : Standing
first = record { preds = record { live = false; satisfied = true; nonreporting = false }; waiting = 0 }

stands_first : (P : Contents) (o : OpKey) → IsStanding (with_pairs [] P) o first
unfolding IsStrictlySortedBy
stands_first P o = record {
  preds = record {
    live = (λ e. absurd (true≢false (sym e)), λ h. absurd (no_pair h.0 o h.1.0));
    satisfied = (λ _ p live. absurd (no_pair p o live.0), λ _. refl);
    nonreporting = (λ e. absurd (true≢false (sym e)), λ h. absurd (no_pair h.0 o h.1.0));
  };
  waiting = ([], tt, λ p. (λ has. absurd (contains_none p has), λ h. absurd (no_pair p o h.0.0)), refl);
}

-- each operation waits for at most as many as pairs have been added
abbrev pub WaitForAtMost : ℕ → List Standing → Type 0
WaitForAtMost n standings = (i : ℕ) (s : Standing) → slice_get standings i ≡ Some s → s.waiting ≤ n

-- the standings once some of the pairs have been added, and how many those are
pub record AreStandingsSoFar (P : Contents) (pairs : List (OpKey × OpKey)) (n : ℕ) (standings : List Standing) : Type 0 where
  pub so_far : AreStandings (with_pairs pairs P) standings
  pub at_most : WaitForAtMost n standings

pub at_most_first : (n : ℕ) (standings : List Standing) → standings ≡ replicate n first → WaitForAtMost 0 standings
at_most_first n standings is i s e =
    let same = ap (λ (x : Standing). x.waiting) (all_alike n i first s (ap (λ ss. slice_get ss i) (sym is) ∙ e)) in
    omega (arith, same)

pub at_most_more : (n : ℕ) (standings : List Standing) (place : ℕ) (w : ℕ) (t : Standing) → WaitForAtMost n standings → w ≤ n → t.waiting ≤ w + 1 → WaitForAtMost (n + 1) (set standings place t)
at_most_more n standings place w t most le more i s e = elim (set_cases standings place i t s e) [
  | inl here ↦ let same = ap (λ (x : Standing). x.waiting) here.1 in omega (arith, same, le, more)
  | inr other ↦ let old = most i s other.1 in omega (arith, old)
]

module _ (P : Contents) where
  abbrev rows : List (OpKey × Operation)
  rows = entries P.operations

  -- before a pair is added
  pub standings_first : (n : ℕ) (standings : List Standing) → n ≡ length rows → standings ≡ replicate n first → AreStandings (with_pairs [] P) standings
  standings_first n standings e is = record {
    size = ap length is ∙ length-replicate n first ∙ e;
    each = λ i o op s row here. subst (IsStanding (with_pairs [] P) o) (sym (all_alike n i first s (ap (λ ss. slice_get ss i) (sym is) ∙ here))) (stands_first P o);
  }

  module _ (pairs : List (OpKey × OpKey)) (pair : OpKey × OpKey) (next : ComesAfter pairs pair)
      (place : ℕ) (op : Operation) (at : slice_get rows place ≡ Some (pair.1, op))
      (standings : List Standing) (so_far : AreStandings (with_pairs pairs P) standings) (t : Standing) (stands : IsStanding (with_pairs (pair ∷ pairs) P) pair.1 t) where
    one_more : AreStandings (with_pairs (pair ∷ pairs) P) (set standings place t)
    one_more = record {
      size = length-set standings place t ∙ so_far.size;
      each = λ i o x s row is. elim (set_cases standings place i t s is) [
        | inl here ↦
            let same : o ≡ pair.1 = ap (λ (z : OpKey × Operation). z.0) (same_Some (o, x) (pair.1, op) (sym row ∙ ap (slice_get rows) here.0 ∙ at)) in
            subst (λ k. IsStanding (with_pairs (pair ∷ pairs) P) k s) (sym same) (subst (IsStanding (with_pairs (pair ∷ pairs) P) pair.1) (sym here.1) stands)
        | inr other ↦
            stands_as_before P pairs pair next o (λ e. other.0 (one_place operation_cmp_total rows (entries_in_order operation_cmp P.operations) i place o x op row (at ∙ ap (λ z. Some (z, op)) (sym e)))) s (so_far.each i o x s row other.1)
      ];
    }

    -- one more pair is added
    pub standings_more : (more : List (OpKey × OpKey)) → more ≡ pairs ++ pair ∷ [] → AreStandings (with_pairs more P) (set standings place t)
    standings_more more e =
        subst (λ ps. AreStandings (with_pairs ps P) (set standings place t)) (sym e)
        (subst (λ s. AreStandings (record P { pairs = s }) (set standings place t)) (sym (pair_pushed pairs pair)) one_more)

-- all pairs have been added
pub standings_all : (P : Contents) (pairs : List (OpKey × OpKey)) (standings : List Standing) → from_list {R = pair_cmp} pairs ≡ P.pairs → AreStandings (with_pairs pairs P) standings → AreStandings P standings
standings_all P pairs standings e are = subst (λ ps. AreStandings (record P { pairs = ps }) standings) e are
