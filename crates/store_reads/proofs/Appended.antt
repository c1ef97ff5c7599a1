-- Rows that are decoded one after another.
use Rattle.std.proofs.Common.{◌≡◌, ℕ, ◌+◌, ◌<◌, List, [], ◌∷◌, ◌++◌, length, get_or, take, refl, sym, ap, subst, ◌∙◌}
use Rattle.std.specs.List.{AllZip}
use Rattle.std.proofs.lemmas.List.{append-nil, append_assoc, take_more}
use Rattle.std.proofs.lemmas.Slice.Zip.{all_zipped_more}
use Rattle.sqlite.specs.Order.{Row}
use Rattle.plan_records.specs.declared.PlanRow.{PlanRow}
use Rattle.store_reads.specs.Rows.{IsStoredAs, AppendsRows}
use Rattle.store_reads.specs.declared.decoding.Table.{Table}

-- the next one is of the next row
pub zipped_more : {X : Type 0} (IsOf : Row → X → Type 0) (stored : List Row) (i : ℕ) (s : Row) (read : List X) (x : X) → i < length stored → s ≡ get_or stored i s → AllZip IsOf (take i stored) read → IsOf s x → AllZip IsOf (take (i + 1) stored) (read ++ x ∷ [])
zipped_more IsOf stored i s read x in_range is so_far next =
    subst (λ l. AllZip IsOf l (read ++ x ∷ [])) (sym (take_more stored i s in_range ∙ ap (λ y. take i stored ++ y ∷ []) (sym is))) (all_zipped_more IsOf (take i stored) read s x so_far next)

module _ (t : Table) (stored : List Row) where
  -- none are read yet
  pub appends_none : (before : List PlanRow) → AppendsRows t (take 0 stored) before before
  appends_none before = ([], sym (append-nil before), tt)

  -- the one that is read of one row
  only : (s : Row) (read : List PlanRow) → AllZip (IsStoredAs t) (s ∷ []) read → (r : PlanRow) × (read ≡ r ∷ []) × IsStoredAs t s r
  only s [] all = absurd all
  only s (r ∷ []) all = (r, refl, all.0)
  only s (r ∷ (q ∷ read)) all = absurd all.1

  -- the next one is read too
  pub appends_more : (i : ℕ) (s : Row) (before so_far after : List PlanRow) → i < length stored → s ≡ get_or stored i s → AppendsRows t (take i stored) before so_far → AppendsRows t (s ∷ []) so_far after → AppendsRows t (take (i + 1) stored) before after
  appends_more i s before so_far after in_range is earlier next =
      let one = only s next.0 next.2 in (
        earlier.0 ++ one.0 ∷ [],
        next.1 ∙ ap (λ l. so_far ++ l) one.1 ∙ ap (λ l. l ++ one.0 ∷ []) earlier.1 ∙ append_assoc before earlier.0 (one.0 ∷ []),
        zipped_more (IsStoredAs t) stored i s earlier.0 one.0 in_range is earlier.2 one.2,
      )
