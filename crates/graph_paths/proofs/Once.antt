-- Listed edges, each once: sorted, with the repeated ones left out.
use Rattle.std.proofs.Common.{◌≡◌, sym, ap, ◌∙◌, arith, ℕ, Bool, ◌&&◌, true, List, eqb, get_or}
use Rattle.std.specs.declared.cmp.Ordering.{Ordering}
use Rattle.std.specs.declared.cmp.Ordering.TheVariants.{Less, Equal}
use Rattle.std.specs.Cmp.{IsTotalOrder, IsEquivalence, both_tied, unsigned_ties, on_equiv, and_equiv}
use Rattle.std.specs.Ordering.{nat_cmp, eq_by_cmp}
use Rattle.std.specs.List.Sorted.{IsStrictlySortedBy}
use Rattle.std.proofs.lemmas.Bool.Decides.{nat_tests}
use Rattle.std.proofs.lemmas.Cmp.{tied_itself, nat_eq_equiv}
use Rattle.std.proofs.lemmas.Map.Keys.{Less-from_sorted}
use Rattle.operation_graph.specs.Graphs.{AreDifferent, edge_cmp}

-- where each is below those after it, no two are equal
pub different_sorted : {K : Type 0} {R : K → K → Ordering} → IsTotalOrder R → (xs : List K) → IsStrictlySortedBy R xs → AreDifferent xs
different_sorted {R = R} total xs up i j d lt within same =
    let less : R (get_or xs i d) (get_or xs j d) ≡ Less = Less-from_sorted R xs i j d up lt within in
    let tied : R (get_or xs i d) (get_or xs j d) ≡ Equal = ap (λ z. R (get_or xs i d) z) (sym same) ∙ tied_itself total (get_or xs i d) in
    cc

-- whether two edges have the same ends
abbrev pub same_edge : ℕ × ℕ → ℕ × ℕ → Bool
same_edge x y = eqb x.0 y.0 && eqb x.1 y.1

pub edge_ties : (x y : ℕ × ℕ) → same_edge x y ≡ eq_by_cmp edge_cmp x y
edge_ties x y = both_tied _ _ (nat_cmp x.0 y.0) (nat_cmp x.1 y.1) (unsigned_ties x.0 y.0) (unsigned_ties x.1 y.1)

pub same_edge_equiv : IsEquivalence same_edge
same_edge_equiv = and_equiv (on_equiv (λ (t : ℕ × ℕ). t.0) nat_eq_equiv) (on_equiv (λ (t : ℕ × ℕ). t.1) nat_eq_equiv)

pub same_edge_is : (x y : ℕ × ℕ) → same_edge x y ≡ true → x ≡ y
same_edge_is x y e = grind (arith, nat_tests)
