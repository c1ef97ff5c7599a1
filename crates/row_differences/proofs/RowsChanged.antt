-- From the indices of what differs to the rows that change and the keys that are gone.
use Rattle.std.proofs.Common.{◌≡◌, ◌↔◌, refl, sym, subst, ap, ◌∙◌, ℕ, List, map, slice_get, Contains, Some}
use Rattle.std.specs.List.Sorted.{IsStrictlySortedBy}
use Rattle.std.specs.declared.cmp.Ordering.{Ordering}
use Rattle.std.proofs.lemmas.Option.{slice_get-map, slice_get_within}
use Rattle.std.specs.Option.{option_map}
use Rattle.plan_basics.proofs.Members.{at_place, contains_mapped, mapped_contains, place_of}
use Rattle.row_differences.specs.Changes.{AreAt, AreRowChanges, HasRowOf}
use Rattle.row_differences.specs.Differences.{AreDifferences, HaveOneKey}
use Rattle.row_differences.proofs.Picked.{made_at, made_from, names_ascend, picked_at, picked_from, picks_ascend}

-- a table's keys are of one type, and all tables' of another: `name` leads from the former to the latter
module _ {K L Row : Type 0} (S : K → K → Ordering) (R : L → L → Ordering) (key_of : Row → L) (name : K → L) (in_order : (a b : K) → R (name a) (name b) ≡ S a b) (one_name : (a b : K) → name a ≡ name b → a ≡ b)
    (before after : List K) (up_before : IsStrictlySortedBy S before) (up_after : IsStrictlySortedBy S after)
    (olds news : List Row) (old_keys : map key_of olds ≡ map name before) (new_keys : map key_of news ≡ map name after)
    (WasRow IsRow : Row → Type 0) (were : (r : Row) → Contains olds r ↔ WasRow r) (are : (r : Row) → Contains news r ↔ IsRow r)
    (IsAlike : ℕ → ℕ → Type 0) (alike : (i j : ℕ) → HaveOneKey before after i j → IsAlike i j ↔ (slice_get olds i ≡ slice_get news j)) where
  -- the key of the row at an index is the one that is there
  key_at : (keys : List K) (rows : List Row) → map key_of rows ≡ map name keys → (i : ℕ) (r : Row) → slice_get rows i ≡ Some r → (k : K) × (slice_get keys i ≡ Some k) × (name k ≡ key_of r)
  key_at keys rows same i r e = made_from name keys i (key_of r) (sym (ap (λ ls. slice_get ls i) same) ∙ (slice_get-map key_of rows i ∙ ap (option_map key_of) e))

  one_key_at : (i j : ℕ) (r s : Row) → slice_get olds i ≡ Some r → slice_get news j ≡ Some s → key_of r ≡ key_of s → HaveOneKey before after i j
  one_key_at i j r s e f same =
      let (k, at, of_r) = key_at before olds old_keys i r e in
      let (l, to, of_s) = key_at after news new_keys j s f in
      (k, at, to ∙ ap Some (one_name l k (of_s ∙ sym same ∙ sym of_r)))

  row_of : (keys : List K) (rows : List Row) → map key_of rows ≡ map name keys → (IsIn : Row → Type 0) → ((r : Row) → Contains rows r → IsIn r) → (q : L) → Contains (map name keys) q → HasRowOf key_of IsIn q
  row_of keys rows same IsIn each q has = let (r, is, in_rows) = mapped_contains key_of rows q (subst (λ ls. Contains ls q) (sym same) has) in (r, each r in_rows, is)

  key_among : (keys : List K) (rows : List Row) → map key_of rows ≡ map name keys → (IsIn : Row → Type 0) → ((r : Row) → IsIn r → Contains rows r) → (q : L) → HasRowOf key_of IsIn q → Contains (map name keys) q
  key_among keys rows same IsIn each q (r, is, e) = subst (λ ls. Contains ls q) same (subst (Contains (map key_of rows)) e (contains_mapped key_of rows r (each r is)))

  -- the rows at the indices of what changed, and the keys at those of what is gone, are all that change
  pub row_changes : (changed gone : List ℕ) (rows : List Row) (keys : List L) → AreDifferences before after IsAlike changed gone → AreAt news changed rows → AreAt (map name before) gone keys → AreRowChanges R key_of WasRow IsRow rows keys
  row_changes changed gone rows keys d at_changed at_gone = record {
    rows_ascend = picks_ascend R (map key_of news) (subst (IsStrictlySortedBy R) (sym new_keys) (names_ascend S R name in_order after up_after)) changed (map key_of rows) d.changed_ascend (made_at key_of news changed rows at_changed);
    has_rows = λ r. (
      λ has. let h = told r has in ((are r).0 h.0, λ was. h.1 ((were r).1 was)),
      λ h. all r ((are r).1 h.0, λ there. h.1 ((were r).0 there)),
    );
    gone_ascend = picks_ascend R (map name before) (names_ascend S R name in_order before up_before) gone keys d.gone_ascend at_gone;
    has_gone = λ q. (
      λ has. let h = left q has in (row_of before olds old_keys WasRow (λ r. (were r).0) q h.0, λ there. h.1 (key_among after news new_keys IsRow (λ r. (are r).1) q there)),
      λ h. away q (key_among before olds old_keys WasRow (λ r. (were r).1) q h.0) (λ there. h.1 (row_of after news new_keys IsRow (λ r. (are r).0) q there)),
    );
  }
    where
      told : (r : Row) → Contains rows r → Contains news r × ¬ Contains olds r
      told r has =
          let (j, in_changed, f) = picked_from news changed rows r at_changed has in (
            at_place news j r f,
            λ there.
                let (i, e) = place_of olds r there in
                let one = one_key_at i j r r e f refl in
                ((d.has_changed j).0 in_changed).1 i one ((alike i j one).1 (e ∙ sym f)),
          )

      all : (r : Row) → Contains news r × ¬ Contains olds r → Contains rows r
      all r (has, away) =
          let (j, f) = place_of news r has in
          let key = key_at after news new_keys j r f in
          picked_at news changed rows j r at_changed ((d.has_changed j).1 (slice_get_within after j key.0 key.1, λ i one is. away (at_place olds i r ((alike i j one).0 is ∙ f)))) f

      left : (q : L) → Contains keys q → Contains (map name before) q × ¬ Contains (map name after) q
      left q has =
          let (i, in_gone, at) = picked_from (map name before) gone keys q at_gone has in
          let (k, e, is) = made_from name before i q at in (
            at_place (map name before) i q at,
            λ there.
                let (l, named, in_after) = mapped_contains name after q there in
                let (j, f) = place_of after l in_after in
                ((d.has_gone i).0 in_gone).1 j (k, e, f ∙ ap Some (one_name l k (named ∙ sym is))),
          )

      away : (q : L) → Contains (map name before) q → ¬ Contains (map name after) q → Contains keys q
      away q has none =
          let (k, is, in_before) = mapped_contains name before q has in
          let (i, e) = place_of before k in_before in
          let at : slice_get (map name before) i ≡ Some q = slice_get-map name before i ∙ (ap (option_map name) e ∙ ap Some is) in
          picked_at (map name before) gone keys i q at_gone ((d.has_gone i).1 (
            slice_get_within before i k e,
            λ j one.
                none (subst (Contains (map name after)) is (contains_mapped name after k (at_place after j k (one.2 ∙ (sym one.1 ∙ e))))),
          )) at
