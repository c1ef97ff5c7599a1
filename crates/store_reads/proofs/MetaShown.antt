-- The table `meta`, whose rowid is its first column: as it is stored, and as it is read.
use Rattle.std.proofs.Common.{◌≡◌, ◌≢◌, ◌↔◌, List, [], ◌∷◌, map, drop, refl, sym, ap, subst, ◌∙◌}
use Rattle.std.specs.List.{AllByRecursion}
use Rattle.sqlite.specs.Order.{Row, column}
use Rattle.sqlite.specs.Tree.{rowid}
use Rattle.sqlite.specs.declared.types.Value.TheVariants.{Null}
use Rattle.sqlite_rules.specs.Lists.{Has}
use Rattle.store_schema.specs.Rows.{AreNumbered, shown_by_rowid}
use Rattle.store_schema.specs.Stored.{Holds, HoldsByRowid}
use Rattle.store_schema.proofs.Queries.{has_mapped, mapped_has}
use Rattle.store_schema.specs.StoredPlans.{StoredMeta, meta_row, meta_values}

-- a row of five values, with NULL in place of the rowid's column
abbrev pub IsMetaRow : Row → Type 0
IsMetaRow r = r ≡ rowid r ∷ Null ∷ column r 2 ∷ column r 3 ∷ column r 4 ∷ []

-- ---- rowids stay as they are

apart_shown : (x : Row) (rows : List Row) → AllByRecursion (λ y. rowid x ≢ rowid y) rows ↔ AllByRecursion (λ y. rowid (shown_by_rowid 5 x) ≢ rowid y) (map (shown_by_rowid 5) rows)
apart_shown x [] = (λ h. h, λ h. h)
apart_shown x (r ∷ rows) = let it = apart_shown x rows in (λ h. (h.0, it.0 h.1), λ h. (h.0, it.1 h.1))

numbered_shown : (rows : List Row) → AreNumbered rows ↔ AreNumbered (map (shown_by_rowid 5) rows)
numbered_shown [] = (λ h. h, λ h. h)
numbered_shown (x ∷ rows) =
    let it = numbered_shown rows in
    let apart = apart_shown x rows in (
      λ h. let k = it.0 (h.0.1, h.1.1) in ((apart.0 h.0.0, k.0), (h.1.0, k.1)),
      λ h. let k = it.1 (h.0.1, h.1.1) in ((apart.1 h.0.0, k.0), (h.1.0, k.1)),
    )

-- ---- what is stored, and what is read

stored_is : (r : Row) (x : StoredMeta) → IsMetaRow r → drop 1 (shown_by_rowid 5 r) ≡ meta_values x → r ≡ meta_row x
stored_is r x shape e = shape ∙ (λ i. column (e i) 0 ∷ Null ∷ column (e i) 1 ∷ column (e i) 2 ∷ column (e i) 3 ∷ [])

module _ (rows : List Row) (xs : List StoredMeta) where
  -- what holds values shows them
  pub meta_shown : HoldsByRowid meta_row rows xs → Holds meta_values (map (shown_by_rowid 5) rows) xs
  meta_shown h = record {
    numbered = (numbered_shown rows).0 h.numbered;
    sound = λ r there.
        let m = has_mapped (shown_by_rowid 5) rows r there in
        let it = h.sound m.0 m.1 in
        (it.0, it.1, ap (drop 1) (m.2 ∙ ap (shown_by_rowid 5) it.2));
    complete = λ x there. (shown_by_rowid 5 (meta_row x), mapped_has (shown_by_rowid 5) rows (meta_row x) (h.complete x there), refl);
  }

  -- what shows values holds them
  pub meta_held : ((r : Row) → Has rows r → IsMetaRow r) → Holds meta_values (map (shown_by_rowid 5) rows) xs → HoldsByRowid meta_row rows xs
  meta_held shape h = record {
    numbered = (numbered_shown rows).1 h.numbered;
    sound = λ r there.
        let it = h.sound (shown_by_rowid 5 r) (mapped_has (shown_by_rowid 5) rows r there) in
        (it.0, it.1, stored_is r it.0 (shape r there) it.2);
    complete = λ x there.
        let it = h.complete x there in
        let m = has_mapped (shown_by_rowid 5) rows it.0 it.1 in
        subst (Has rows) (stored_is m.0 x (shape m.0 m.1) (ap (drop 1) (sym m.2) ∙ it.2)) m.1;
  }
