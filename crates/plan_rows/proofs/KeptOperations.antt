-- Where a plan keeps the operations of another, rows of one key are the same where what is known is.
use Rattle.std.proofs.Common.{◌≡◌, ◌↔◌, inl, inr, refl, sym, subst, ap, ◌∙◌, arith, ℕ, ℤ, Some, MatchOption, option_map, slice_get}
use Rattle.std.proofs.lemmas.Option.{same_Some, slice_get_within}
use Rattle.std.specs.FinMap.{entries, get}
use Rattle.std.specs.Map.{keys_of}
use Rattle.plan_basics.specs.Keys.{operation_cmp-IsAntisymmetric, operation_cmp_total}
use Rattle.plan_basics.specs.declared.keys.OpKey.{OpKey}
use Rattle.plan_records.specs.plan_drafts.proofs.EntryRows.{row_in}
use Rattle.plan_records.specs.plan_drafts.proofs.RowPlaces.{row_at}
use Rattle.plan_records.specs.declared.OperationRow.{OperationRow}
use Rattle.plan_records.specs.declared.PlanRow.TheVariants as row
use Rattle.derived_figures.specs.plan_status.proofs.RowKeys.{row_of_key}
use Rattle.derived_figures.specs.plan_status.specs.declared.standings.Standing.{Standing}
use Rattle.plan_model.specs.Contents.{Contents, Operation}
use Rattle.plan_model.specs.Ready.{with_mark}
use Rattle.plan_model.specs.Status.{HasStatus, UnmarkedStatus}
use Rattle.plan_rows.proofs.KeyedRows.{keyed_row}
use Rattle.plan_rows.proofs.SourceRows.{operation_at, operation_keys}
use Rattle.plan_rows.specs.Kept.{AreKnownAlike, IsKeptIn, KeepsRecords, MarkGoesOn}
use Rattle.plan_rows.specs.Rows.{keyed_operations, operation_row_of, rows_of}
use Rattle.plan_rows.specs.Sources.{IsSource, source_with}
use Rattle.plan_rows.specs.declared.columns.SourceColumns.{SourceColumns}
use Rattle.row_differences.specs.Differences.{HaveOneKey}
use Rattle.status_rules.specs.Table.{marked_status}
use Rattle.status_rules.specs.declared.Mark.{Mark}
use Rattle.status_rules.specs.declared.Mark.TheVariants as mark
use Rattle.status_rules.specs.declared.Status.{Status}
use Rattle.status_rules.specs.declared.Status.TheVariants as status

-- ---- marks

-- what a mark says of a status
abbrev SaysStatus : Contents → OpKey → Status → Mark → Type 0
SaysStatus P o s m = MatchOption (marked_status m) (UnmarkedStatus P o s) (λ told. s ≡ told)

-- the status of an operation is what its mark says
says : (P : Contents) (o : OpKey) (op : Operation) (s : Status) → get P.operations o ≡ Some op → HasStatus P o s → SaysStatus P o s op.mark
says P o op s is has = subst (λ (x : Operation). SaysStatus P o s x.mark) (same_Some has.0 op (sym has.1 ∙ is)) has.2

-- only what is marked deleted is
deleted_was : (P : Contents) (o : OpKey) (m : Mark) → SaysStatus P o status.Deleted m → m ≡ mark.Deleted
deleted_was P o mark.Named h = absurd (cc)
deleted_was P o mark.Running h = absurd (cc)
deleted_was P o mark.Interrupted h = absurd (cc)
deleted_was P o (mark.Error code) h = absurd (cc)
deleted_was P o mark.Undecided h = absurd (cc)
deleted_was P o mark.Deleted h = refl
deleted_was P o mark.Done h = absurd (cc)
deleted_was P o mark.Unmarked h = absurd h

-- where a mark went on and the status stays, so does the mark
pub mark_stays : (P Q : Contents) (o : OpKey) (before after : Operation) (s : Status) → get P.operations o ≡ Some before → get Q.operations o ≡ Some after → HasStatus P o s → HasStatus Q o s → MarkGoesOn before.mark after.mark → after.mark ≡ before.mark
mark_stays P Q o before after s was is had has (inl same) = same
mark_stays P Q o before after s was is had has (inr (inl deleted)) =
    let then : s ≡ status.Deleted = subst (SaysStatus Q o s) deleted (says Q o after s is has) in
    deleted ∙ sym (deleted_was P o before.mark (subst (λ t. SaysStatus P o t before.mark) then (says P o before s was had)))
mark_stays P Q o before after s was is had has (inr (inr named)) =
    let then : s ≡ status.Started = subst (SaysStatus Q o s) named.1 (says Q o after s is has) in
    let first : SaysStatus P o s mark.Unmarked = subst (SaysStatus P o s) named.0 (says P o before s was had) in
    absurd (subst (λ t. SaysStatus P o t mark.Unmarked) then first)

-- ---- rows

-- what rows tell of what is known
same_row : (q r : OperationRow) → row.Operation q ≡ row.Operation r → q ≡ r
same_row q r e = cc

module _ (P Q : Contents) (c d : SourceColumns) (source : IsSource (source_with P c)) (then : IsSource (source_with Q d)) where
  -- an operation that is kept, with what is known of it before and after
  module _ (keeps : KeepsRecords P Q) (i j : ℕ) (o : OpKey) (op after : Operation) (at : slice_get (entries P.operations) i ≡ Some (o, op)) (there : slice_get (entries Q.operations) j ≡ Some (o, after))
      (x y : Standing) (s t : Status) (v w : ℤ)
      (x_at : slice_get c.standings.now i ≡ Some x) (s_at : slice_get c.statuses.now i ≡ Some s) (v_at : slice_get c.latest.now.starts i ≡ Some v)
      (y_at : slice_get d.standings.now j ≡ Some y) (t_at : slice_get d.statuses.now j ≡ Some t) (w_at : slice_get d.latest.now.starts j ≡ Some w) where
    abbrev old : OperationRow
    old = operation_row_of ((o, op), (x, (s, v)))

    abbrev new : OperationRow
    new = operation_row_of ((o, after), (y, (t, w)))

    old_at : slice_get (rows_of (keyed_operations (source_with P c))) i ≡ Some (row.Operation old)
    old_at = keyed_row (keyed_operations (source_with P c)) i o (row.Operation old) (operation_at (source_with P c) source i o op x s v at x_at s_at v_at)

    new_at : slice_get (rows_of (keyed_operations (source_with Q d))) j ≡ Some (row.Operation new)
    new_at = keyed_row (keyed_operations (source_with Q d)) j o (row.Operation new) (operation_at (source_with Q d) then j o after y t w there y_at t_at w_at)

    was : get P.operations o ≡ Some op
    was = row_in operation_cmp_total operation_cmp-IsAntisymmetric P.operations i o op at

    is : get Q.operations o ≡ Some after
    is = row_in operation_cmp_total operation_cmp-IsAntisymmetric Q.operations j o after there

    kept : IsKeptIn Q o op
    kept = keeps o op was

    remarked : after ≡ with_mark kept.0 op
    remarked = same_Some after (with_mark kept.0 op) (sym is ∙ kept.1)

    -- the record stays where the status does
    record_stays : s ≡ t → after ≡ op
    record_stays same =
        let goes = subst (λ (z : Operation). MarkGoesOn op.mark z.mark) (sym remarked) kept.2 in
        let stays : after.mark ≡ op.mark = mark_stays P Q o op after s was is (source.statuses.each i o op s at s_at) (subst (HasStatus Q o) (sym same) (then.statuses.each j o after t there t_at)) goes in
        let marked : kept.0 ≡ op.mark = ap (λ (z : Operation). z.mark) (sym remarked) ∙ stays in
        remarked ∙ ap (λ m. with_mark m op) marked

    told : AreKnownAlike c d i j → slice_get (rows_of (keyed_operations (source_with P c))) i ≡ slice_get (rows_of (keyed_operations (source_with Q d))) j
    told alike =
        let status : s ≡ t = same_Some s t (sym s_at ∙ alike.status ∙ t_at) in
        let start : v ≡ w = same_Some v w (sym v_at ∙ alike.start ∙ w_at) in
        let waiting : x.waiting ≡ y.waiting = same_Some x.waiting y.waiting (sym (ap (option_map (λ (z : Standing). z.waiting)) x_at) ∙ alike.waiting ∙ ap (option_map (λ (z : Standing). z.waiting)) y_at) in
        let record_is : after ≡ op = record_stays status in
        let same : old ≡ new =
        ap (λ (z : Operation). operation_row_of ((o, z), (x, (s, v)))) (sym record_is)
        ∙ (λ k. record (operation_row_of ((o, after), (x, (s, v)))) { status = status k; latest = start k; waiting = waiting k }) in
        old_at ∙ ap (λ r. Some (row.Operation r)) same ∙ sym new_at

    untold : slice_get (rows_of (keyed_operations (source_with P c))) i ≡ slice_get (rows_of (keyed_operations (source_with Q d))) j → AreKnownAlike c d i j
    untold rows =
        let same : old ≡ new = same_row old new (same_Some (row.Operation old) (row.Operation new) (sym old_at ∙ rows ∙ new_at)) in
        record {
          status = s_at ∙ ap Some (ap (λ (r : OperationRow). r.status) same) ∙ sym t_at;
          start = v_at ∙ ap Some (ap (λ (r : OperationRow). r.latest) same) ∙ sym w_at;
          waiting = ap (option_map (λ (z : Standing). z.waiting)) x_at ∙ ap Some (ap (λ (r : OperationRow). r.waiting) same) ∙ sym (ap (option_map (λ (z : Standing). z.waiting)) y_at);
        }

  -- rows of one key are the same exactly where what is known is
  pub rows_by_known : KeepsRecords P Q → (i j : ℕ) → HaveOneKey (keys_of (keyed_operations (source_with P c))) (keys_of (keyed_operations (source_with Q d))) i j
      → AreKnownAlike c d i j ↔ (slice_get (rows_of (keyed_operations (source_with P c))) i ≡ slice_get (rows_of (keyed_operations (source_with Q d))) j)
  rows_by_known keeps i j one =
      let (o, first, second) = one in
      let (op, at) = row_of_key (entries P.operations) i o (subst (λ ks. slice_get ks i ≡ Some o) (operation_keys (source_with P c) source) first) in
      let (after, there) = row_of_key (entries Q.operations) j o (subst (λ ks. slice_get ks j ≡ Some o) (operation_keys (source_with Q d) then) second) in
      let within = slice_get_within (entries P.operations) i (o, op) at in
      let below = slice_get_within (entries Q.operations) j (o, after) there in
      let x = row_at c.standings.now i (omega (arith, within, source.standings.size)) in
      let s = row_at c.statuses.now i (omega (arith, within, source.statuses.size)) in
      let v = row_at c.latest.now.starts i (omega (arith, within, source.latest.size)) in
      let y = row_at d.standings.now j (omega (arith, below, then.standings.size)) in
      let t = row_at d.statuses.now j (omega (arith, below, then.statuses.size)) in
      let w = row_at d.latest.now.starts j (omega (arith, below, then.latest.size)) in (
        told keeps i j o op after at there x.0 y.0 s.0 t.0 v.0 w.0 x.1 s.1 v.1 y.1 t.1 w.1,
        untold keeps i j o op after at there x.0 y.0 s.0 t.0 v.0 w.0 x.1 s.1 v.1 y.1 t.1 w.1,
      )
