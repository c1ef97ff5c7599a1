-- What the changes from one plan to the next, written into the tables, make of them: they hold the rows of the next.
use Rattle.std.proofs.Common.{◌≡◌, ◌↔◌, inl, inr, refl, sym, subst, List, Contains}
use Rattle.tracker_receipts.specs.plan_drafts.specs.declared.RowKey.{RowKey}
use Rattle.tracker_receipts.specs.plan_laws.proofs.Carrying.{only_these_go}
use Rattle.tracker_receipts.specs.plan_laws.proofs.Every.{every_step_keeps_sound}
use Rattle.tracker_receipts.specs.plan_laws.proofs.RowsListed.{one_of_key}
use Rattle.tracker_receipts.specs.plan_laws.proofs.RowsTold.{row_told}
use Rattle.tracker_receipts.specs.plan_laws.specs.Tables.{MayGo}
use Rattle.tracker_receipts.specs.plan_model.specs.Plan.{Plan, IsSoundPlan}
use Rattle.tracker_receipts.specs.plan_model.specs.Valid.{IsValid}
use Rattle.tracker_receipts.specs.plan_records.specs.Answer.{Answer}
use Rattle.tracker_receipts.specs.plan_records.specs.Rows.{AreChanges, IsRow, key_of}
use Rattle.tracker_receipts.specs.plan_records.specs.Step.{Step}
use Rattle.tracker_receipts.specs.plan_records.specs.declared.PlanRow.{PlanRow}
use Rattle.tracker_receipts.specs.plan_records.specs.declared.Request.{Request}
use Rattle.store_schema.specs.StoredPlans.{Held}
use Rattle.store_schema.specs.WrittenTables.{HoldRows, written}
use Rattle.store_schema.proofs.RowPut.{rows_alike}
use Rattle.store_schema.proofs.RowsWritten.{NoneHasKey, WithRows, WithoutKeys, rows_written}

module _ (P Q : Plan) (old_valid : IsValid P.contents) (new_valid : IsValid Q.contents) (rows : List PlanRow) (gone : List RowKey) (are : AreChanges P Q rows gone) where
  -- a row of Q that has the key of a row of P, and isn't that row, is written
  rewritten : (r s : PlanRow) → IsRow Q r → IsRow P s → ¬ IsRow Q s → key_of r ≡ key_of s → Contains rows r
  rewritten r s new old not_new same = (are.has_rows r).1 (new, λ was. not_new (subst (IsRow Q) (one_of_key P old_valid r s was old same) new))

  -- a row of P whose key none of the written rows has, and that isn't gone, is one of Q
  stays : (s : PlanRow) → IsRow P s → NoneHasKey rows (key_of s) → (Contains gone (key_of s) → ⊥) → IsRow Q s
  stays s old alone not_gone = elim (row_told Q new_valid.acyclic s) [
    | inl new ↦ new
    | inr not_new ↦ absurd (not_gone ((are.has_gone (key_of s)).1 ((s, old, refl), λ has. alone has.0 (rewritten has.0 s has.1 old not_new has.2) has.2)))
  ]

  -- no written row has the key of a row of both
  none_written : (s : PlanRow) → IsRow P s → IsRow Q s → NoneHasKey rows (key_of s)
  none_written s old new r has same =
      let it = (are.has_rows r).0 has in
      it.1 (subst (IsRow P) (sym (one_of_key Q new_valid r s it.0 new same)) old)

  -- what was there of other keys, and the written rows, are the rows of Q
  all_rows : (s : PlanRow) → WithoutKeys gone (WithRows rows (IsRow P)) s ↔ IsRow Q s
  all_rows s = (
    λ is. elim is.0 [ inl has ↦ ((are.has_rows s).0 has).0 | inr old ↦ stays s old.0 old.1 is.1 ],
    λ new. (
      elim (row_told P old_valid.acyclic s) [ inl old ↦ inr (old, none_written s old new) | inr fresh ↦ inl ((are.has_rows s).1 (new, fresh)) ],
      λ has. ((are.has_gone (key_of s)).0 has).1 (s, new, refl),
    ),
  )

  -- tables with the rows of P then hold those of Q
  pub changes_written : ((k : RowKey) → Contains gone k → MayGo k) → (held : Held) → HoldRows (IsRow P) held → HoldRows (IsRow Q) (written rows gone held)
  changes_written may_go held h = rows_alike all_rows (rows_written (IsRow P) rows gone held are.rows_ascend may_go h)

-- so it is after each step of a sound plan
pub step_written : (P Q : Plan) (q : Request) (reply : Answer) (rows : List PlanRow) (gone : List RowKey) → IsSoundPlan P → Step P q reply Q → AreChanges P Q rows gone
    → (held : Held) → HoldRows (IsRow P) held → HoldRows (IsRow Q) (written rows gone held)
step_written P Q q reply rows gone sound step are =
    changes_written P Q sound.contents.valid (every_step_keeps_sound P Q q reply sound step).contents.valid rows gone are (only_these_go P Q q reply rows gone sound step are)
