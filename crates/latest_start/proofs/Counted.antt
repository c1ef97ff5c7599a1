-- How often numbers are in a list, and in the list in another order.
use Rattle.std.proofs.Common.{◌≡◌, ◌∙◌, inl, inr, refl, sym, arith, ℕ, suc, ◌≤◌, eqb, cond, List, [], ◌∷◌}
use Rattle.std.specs.List.{count_by}
use Rattle.std.specs.List.Sorted.{IsPermutation}
use Rattle.std.proofs.lemmas.Bool.{cases_eq}
use Rattle.std.proofs.lemmas.List.Sorted.{sum_by-IsPermutation}
use Rattle.std.proofs.lemmas.List.Sums.{sum_by-cons}
use Rattle.operation_graph.specs.Adjacency.{count_of}
use Rattle.operation_graph.specs.Graphs.{AreDifferent}
use Rattle.operation_graph.proofs.Counts.{count_head, count_other, counted_contains}

counted_sum : (xs : List ℕ) (n : ℕ) → count_of n xs ≡ count_by (λ x. eqb x n) xs
counted_sum [] n = refl
counted_sum (x ∷ xs) n = omega (arith, counted_sum xs n, sum_by-cons (λ (y : ℕ). cond (eqb y n) 1 0) x xs)

pub count_moved : (xs ys : List ℕ) (n : ℕ) → IsPermutation xs ys → count_of n ys ≡ count_of n xs
count_moved xs ys n moved = counted_sum ys n ∙ sum_by-IsPermutation (λ (x : ℕ). cond (eqb x n) 1 0) xs ys moved ∙ sym (counted_sum xs n)

-- where no two are equal, each is there once at most
pub once_if_different : (xs : List ℕ) → AreDifferent xs → (n : ℕ) → count_of n xs ≤ 1
once_if_different [] different n = omega arith
once_if_different (x ∷ xs) different n =
    let later = once_if_different xs (λ i j d lt within. different (suc i) (suc j) d (omega (arith, lt)) (omega (arith, within))) n in
    elim (cases_eq x n) [
      | inl e ↦ elim (cases_eq (count_of n xs) 0) [
        | inl none ↦ omega (arith, count_head x n xs e, none)
        | inr some ↦
            let has = counted_contains n xs (omega (arith, some)) in
            absurd (different 0 (suc has.0) n (omega arith) (let within = has.1 in omega (arith, within)) (e ∙ sym has.2))
      ]
      | inr other ↦ omega (arith, count_other x n xs other, later)
    ]
