-- What changes in two tables, of which all keys of one come before all of the other.
use Rattle.std.proofs.Common.{◌≡◌, ◌↔◌, ◌⊎◌, inl, inr, refl, sym, subst, ap, ◌∙◌, List, [], ◌∷◌, ◌++◌, map, Contains}
use Rattle.std.specs.Cmp.{IsTotalOrder}
use Rattle.std.specs.List.{AllByRecursion}
use Rattle.std.specs.List.Sorted.{IsStrictlySortedBy}
use Rattle.std.specs.declared.cmp.Ordering.{Ordering}
use Rattle.std.specs.declared.cmp.Ordering.TheVariants.{Less, Equal}
use Rattle.std.proofs.lemmas.Cmp.{tied_itself}
use Rattle.std.proofs.lemmas.List.Elements.{Contains-append_left, Contains-append_right, Contains-append_cases}
use Rattle.plan_basics.proofs.Members.{contains_head, contains_later, mapped_contains}
use Rattle.row_differences.specs.Changes.{AreRowChanges, HasRowOf}

pub map_joined : {X Y : Type 0} (f : X → Y) (xs ys : List X) → map f (xs ++ ys) ≡ map f xs ++ map f ys
map_joined f [] ys = refl
map_joined f (x ∷ xs) ys = ap (λ zs. f x ∷ zs) (map_joined f xs ys)

module _ {L : Type 0} (R : L → L → Ordering) where
  above_all : (k : L) (ls : List L) → ((l : L) → Contains ls l → R k l ≡ Less) → AllByRecursion (λ l. R k l ≡ Less) ls
  above_all k [] each = tt
  above_all k (l ∷ ls) each = (each l (contains_head l ls), above_all k ls (λ m has. each m (contains_later l ls m has)))

  above_both : (k : L) (ks ls : List L) → AllByRecursion (λ l. R k l ≡ Less) ks → AllByRecursion (λ l. R k l ≡ Less) ls → AllByRecursion (λ l. R k l ≡ Less) (ks ++ ls)
  above_both k [] ls h all = all
  above_both k (m ∷ ks) ls h all = (h.0, above_both k ks ls h.1 all)

  -- keys in order, and after them such that come after each of them
  pub joined_ascend : (ks ls : List L) → IsStrictlySortedBy R ks → IsStrictlySortedBy R ls → ((k l : L) → Contains ks k → Contains ls l → R k l ≡ Less) → IsStrictlySortedBy R (ks ++ ls)
  unfolding IsStrictlySortedBy
  joined_ascend [] ls up above below = above
  joined_ascend (k ∷ ks) ls up above below =
      (above_both k ks ls up.0 (above_all k ls (λ l has. below k l (contains_head k ks) has)), joined_ascend ks ls up.1 above (λ m l has there. below m l (contains_later k ks m has) there))

module _ {Row L : Type 0} {R : L → L → Ordering} (o : IsTotalOrder R) (key_of : Row → L) (WasRow IsRow WasOther IsOther : Row → Type 0)
    (below : (r s : Row) → WasRow r ⊎ IsRow r → WasOther s ⊎ IsOther s → R (key_of r) (key_of s) ≡ Less) where
  apart : (r s : Row) → WasRow r ⊎ IsRow r → WasOther s ⊎ IsOther s → key_of r ≡ key_of s → ⊥
  apart r s one other same = let e : Less ≡ Equal = sym (below r s one other) ∙ (ap (λ k. R k (key_of s)) same ∙ tied_itself o (key_of s)) in cc

  -- what changes in both
  pub joined : (rows more : List Row) (gone away : List L) → AreRowChanges R key_of WasRow IsRow rows gone → AreRowChanges R key_of WasOther IsOther more away → AreRowChanges R key_of (λ r. WasRow r ⊎ WasOther r) (λ r. IsRow r ⊎ IsOther r) (rows ++ more) (gone ++ away)
  joined rows more gone away one other = record {
    rows_ascend = subst (IsStrictlySortedBy R) (sym (map_joined key_of rows more)) (joined_ascend R (map key_of rows) (map key_of more) one.rows_ascend other.rows_ascend (λ k l has there.
        let (r, is, in_rows) = mapped_contains key_of rows k has in
        let (s, are, in_more) = mapped_contains key_of more l there in
        subst (λ z. R z l ≡ Less) is (subst (λ z. R (key_of r) z ≡ Less) are (below r s (inr ((one.has_rows r).0 in_rows).0) (inr ((other.has_rows s).0 in_more).0)))));
    has_rows = λ r. (told r, all r);
    gone_ascend = joined_ascend R gone away one.gone_ascend other.gone_ascend (λ k l has there.
        let (r, was, is) = ((one.has_gone k).0 has).0 in
        let (s, were, are) = ((other.has_gone l).0 there).0 in
        subst (λ z. R z l ≡ Less) is (subst (λ z. R (key_of r) z ≡ Less) are (below r s (inl was) (inl were))));
    has_gone = λ k. (left k, lost k);
  }
    where
      told : (r : Row) → Contains (rows ++ more) r → (IsRow r ⊎ IsOther r) × ¬ (WasRow r ⊎ WasOther r)
      told r has = elim (Contains-append_cases rows more r has) [
        | inl h ↦ let (is, not) = (one.has_rows r).0 h in (inl is, elim [ inl was ↦ not was | inr were ↦ apart r r (inr is) (inl were) refl ])
        | inr h ↦ let (is, not) = (other.has_rows r).0 h in (inr is, elim [ inl was ↦ apart r r (inl was) (inr is) refl | inr were ↦ not were ])
      ]

      all : (r : Row) → (IsRow r ⊎ IsOther r) × ¬ (WasRow r ⊎ WasOther r) → Contains (rows ++ more) r
      all r (inl is, not) = Contains-append_left rows more r ((one.has_rows r).1 (is, λ was. not (inl was)))
      all r (inr is, not) = Contains-append_right rows more r ((other.has_rows r).1 (is, λ was. not (inr was)))

      left : (k : L) → Contains (gone ++ away) k → HasRowOf key_of (λ r. WasRow r ⊎ WasOther r) k × ¬ HasRowOf key_of (λ r. IsRow r ⊎ IsOther r) k
      left k has = elim (Contains-append_cases gone away k has) [
        | inl h ↦ let ((r, was, e), not) = (one.has_gone k).0 h in ((r, inl was, e), λ there. here r was e not there)
        | inr h ↦ let ((r, was, e), not) = (other.has_gone k).0 h in ((r, inr was, e), λ there. other_here r was e not there)
      ]
        where
          here : (r : Row) → WasRow r → key_of r ≡ k → ¬ HasRowOf key_of IsRow k → HasRowOf key_of (λ s. IsRow s ⊎ IsOther s) k → ⊥
          here r was e not (s, inl is, f) = not (s, is, f)
          here r was e not (s, inr is, f) = apart r s (inl was) (inr is) (e ∙ sym f)

          other_here : (r : Row) → WasOther r → key_of r ≡ k → ¬ HasRowOf key_of IsOther k → HasRowOf key_of (λ s. IsRow s ⊎ IsOther s) k → ⊥
          other_here r was e not (s, inl is, f) = apart s r (inr is) (inl was) (f ∙ sym e)
          other_here r was e not (s, inr is, f) = not (s, is, f)

      lost : (k : L) → HasRowOf key_of (λ r. WasRow r ⊎ WasOther r) k × ¬ HasRowOf key_of (λ r. IsRow r ⊎ IsOther r) k → Contains (gone ++ away) k
      lost k ((r, inl was, e), not) = Contains-append_left gone away k ((one.has_gone k).1 ((r, was, e), λ there. not (there.0, inl there.1, there.2)))
      lost k ((r, inr was, e), not) = Contains-append_right gone away k ((other.has_gone k).1 ((r, was, e), λ there. not (there.0, inr there.1, there.2)))

-- the same rows under another description
pub described : {Row L : Type 0} {R : L → L → Ordering} {key_of : Row → L} {WasRow IsRow : Row → Type 0} (WasToo IsToo : Row → Type 0) → ((r : Row) → WasRow r ↔ WasToo r) → ((r : Row) → IsRow r ↔ IsToo r)
    → (rows : List Row) (gone : List L) → AreRowChanges R key_of WasRow IsRow rows gone → AreRowChanges R key_of WasToo IsToo rows gone
described WasToo IsToo were are rows gone h = record {
  rows_ascend = h.rows_ascend;
  has_rows = λ r. (
    λ has. let (is, not) = (h.has_rows r).0 has in ((are r).0 is, λ was. not ((were r).1 was)),
    λ (is, not). (h.has_rows r).1 ((are r).1 is, λ was. not ((were r).0 was)),
  );
  gone_ascend = h.gone_ascend;
  has_gone = λ k. (
    λ has. let ((r, was, e), not) = (h.has_gone k).0 has in ((r, (were r).0 was, e), λ there. not (there.0, (are there.0).1 there.1, there.2)),
    λ ((r, was, e), not). (h.has_gone k).1 ((r, (were r).1 was, e), λ there. not (there.0, (are there.0).0 there.1, there.2)),
  );
}
