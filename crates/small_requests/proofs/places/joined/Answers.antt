use Rattle.std.proofs.Common.{inl, inr, sym, subst, Contains}
use Rattle.std.proofs.lemmas.List.Elements.{Contains-append_cases, Contains-append_left, Contains-append_right}
use Rattle.std.proofs.lemmas.List.Filters.{dedup_is}
use Rattle.std.proofs.lemmas.List.Kept.{Contains-dedup_nat, Contains-from_dedup, IsStrictlySortedBy-dedup}
use Rattle.std.proofs.lemmas.List.Sorted.{Contains-permutation, IsPermutation-sym}
use Rattle.std.specs.Cmp.{nat_cmp_total, unsigned_ties}
use Rattle.small_requests.proofs.places.joined.Goals as goal

pub returns-clause-ascend : goal.returns-clause-ascend
returns-clause-ascend c =
    let is = dedup_is _ _ _ c.dedup.ensures.filtered in
    rw is (IsStrictlySortedBy-dedup nat_cmp_total unsigned_ties _ c.sort_unstable.ensures.sorted)

pub returns-clause-both : goal.returns-clause-both
returns-clause-both c =
    let is = dedup_is _ _ _ c.dedup.ensures.filtered in
    let moved = c.sort_unstable.ensures.permutation in
    let grown = c.in_ok-extend_from_slice.ensures.items in
    λ i. (
      λ has. elim (Contains-append_cases _ _ i (subst (λ xs. Contains xs i) grown
          (Contains-permutation _ _ i (IsPermutation-sym _ _ moved) (Contains-from_dedup _ _ i (rw is at has))))) [
            | inl one ↦ inl (subst (λ xs. Contains xs i) c.in_ok-all.ensures.items one)
            | inr other ↦ inr other
          ],
      λ some. rw is (Contains-dedup_nat _ i (Contains-permutation _ _ i moved (subst (λ xs. Contains xs i) (sym grown) (elim some [
        | inl one ↦ Contains-append_left _ _ i (subst (λ xs. Contains xs i) (sym c.in_ok-all.ensures.items) one)
        | inr other ↦ Contains-append_right _ _ i other
      ])))),
    )
