-- The rows of operations in error, out of the views of all operations.
use Rattle.std.proofs.Common.{◌≡◌, refl, sym, ap, subst, ◌∙◌, List, [], ◌∷◌, map, Some}
use Rattle.std.proofs.lemmas.Option.{same_Some}
use Rattle.std.specs.FinMap.{get}
use Rattle.std.specs.List.{AllByRecursion, cons_option}
use Rattle.std.specs.List.Sorted.{IsStrictlySortedBy}
use Rattle.std.specs.declared.cmp.Ordering.TheVariants.{Less}
use Rattle.plan_basics.specs.Keys.{operation_cmp}
use Rattle.plan_basics.specs.declared.keys.OpKey.{OpKey}
use Rattle.plan_core.specs.Views.{AreOpViews, IsOpView}
use Rattle.plan_core.specs.declared.views.OpView.{OpView}
use Rattle.plan_records.specs.plan_drafts.proofs.Lists.{from_filter, from_map, in_filter}
use Rattle.plan_model.specs.Contents.{Contents}
use Rattle.status_rules.specs.declared.Mark.{Mark}
use Rattle.status_rules.specs.declared.Mark.TheVariants as mark
use Rattle.desk_tables.specs.Errors.{AreErrorRows, IsErrorRow, error_rows, row_with}
use Rattle.desk_tables.specs.declared.errors.ErrorRow.{ErrorRow}

abbrev IsAbove : OpKey → List OpKey → Type 0
IsAbove k ks = AllByRecursion (λ l. operation_cmp k l ≡ Less) ks

-- a view more, with whatever mark
above_with : (k : OpKey) (v : OpView) (rows : List ErrorRow) (m : Mark) → operation_cmp k v.key ≡ Less → IsAbove k (map (λ r. r.op) rows) → IsAbove k (map (λ r. r.op) (cons_option (row_with v m) rows))
above_with k v rows (mark.Error code) less h = (less, h)
above_with k v rows mark.Unmarked less h = h
above_with k v rows mark.Named less h = h
above_with k v rows mark.Running less h = h
above_with k v rows mark.Interrupted less h = h
above_with k v rows mark.Done less h = h
above_with k v rows mark.Undecided less h = h
above_with k v rows mark.Deleted less h = h

-- what comes after a key in all views does so in the rows in error
above : (k : OpKey) (views : List OpView) → IsAbove k (map (λ v. v.key) views) → IsAbove k (map (λ r. r.op) (error_rows views))
above k [] h = tt
above k (v ∷ views) h = above_with k v (error_rows views) v.mark h.0 (above k views h.1)

abbrev Ascend : List ErrorRow → Type 0
Ascend rows = IsStrictlySortedBy operation_cmp (map (λ r. r.op) rows)

-- a view more, with whatever mark
ascend_with : (v : OpView) (rows : List ErrorRow) (m : Mark) → IsAbove v.key (map (λ r. r.op) rows) → Ascend rows → Ascend (cons_option (row_with v m) rows)
unfolding IsStrictlySortedBy
ascend_with v rows (mark.Error code) first h = (first, h)
ascend_with v rows mark.Unmarked first h = h
ascend_with v rows mark.Named first h = h
ascend_with v rows mark.Running first h = h
ascend_with v rows mark.Interrupted first h = h
ascend_with v rows mark.Done first h = h
ascend_with v rows mark.Undecided first h = h
ascend_with v rows mark.Deleted first h = h

-- so the rows stand in key order
ascend : (views : List OpView) → IsStrictlySortedBy operation_cmp (map (λ v. v.key) views) → Ascend (error_rows views)
unfolding IsStrictlySortedBy
ascend [] h = tt
ascend (v ∷ views) h = ascend_with v (error_rows views) v.mark (above v.key views h.0) (ascend views h.1)

module _ (P : Contents) where
  -- the row of a view with an error's mark
  module _ (v : OpView) (view : IsOpView P v) where
    in_error : (m : Mark) (r : ErrorRow) → view.op.mark ≡ m → row_with v m ≡ Some r → IsErrorRow P r
    in_error (mark.Error code) r is e =
        subst (IsErrorRow P) (same_Some (record { op = v.key; ws = v.workstation; code = code }) r e) (record {
          op = view.op;
          is_in_plan = view.is_in_plan;
          status = (view.op, view.is_in_plan, rw is refl);
          workstation = view.work.0;
          code = is;
        })
    in_error mark.Unmarked r is e = cc
    in_error mark.Named r is e = cc
    in_error mark.Running r is e = cc
    in_error mark.Interrupted r is e = cc
    in_error mark.Done r is e = cc
    in_error mark.Undecided r is e = cc
    in_error mark.Deleted r is e = cc

    -- and the view of an operation in error
    shown : (r : ErrorRow) → v.key ≡ r.op → IsErrorRow P r → row_with v v.mark ≡ Some r
    shown r same it =
        let found : get P.operations v.key ≡ Some it.op = ap (get P.operations) same ∙ it.is_in_plan in
        let op : view.op ≡ it.op = same_Some view.op it.op (sym view.is_in_plan ∙ found) in
        let m : v.mark ≡ mark.Error r.code = view.marked.0 ∙ ap (λ o. o.mark) op ∙ it.code in
        let ws : v.workstation ≡ r.ws = view.work.0 ∙ ap (λ o. o.workstation) op ∙ sym it.workstation in
        ap (row_with v) m ∙ (λ i. Some (record { op = same i; ws = ws i; code = r.code }))

  pub are_error_rows : (views : List OpView) → AreOpViews P views → AreErrorRows P (error_rows views)
  are_error_rows views are = record {
    in_order = ascend views are.in_order;
    every = λ r. (
      (λ has. let x = from_filter (λ v. row_with v v.mark) views r has in let view = are.each x.0 x.1 in in_error x.0 view x.0.mark r (sym view.marked.0) x.2),
      (λ it.
          let x = from_map (λ v. v.key) views r.op ((are.every r.op).1 (it.op, it.is_in_plan, tt)) in
          in_filter (λ v. row_with v v.mark) views x.0 r x.1 (shown x.0 (are.each x.0 x.1) r x.2 it)),
    );
  }
