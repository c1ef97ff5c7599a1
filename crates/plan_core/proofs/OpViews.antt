-- The views of a source are those of the plan's operations.
use Rattle.std.proofs.Common.{◌≡◌, ◌↔◌, refl, sym, ap, subst, ◌∙◌, arith, ℕ, ℤ, length, List, map, Contains, slice_get, Some}
use Rattle.std.proofs.lemmas.Option.{slice_get_within, same_Some}
use Rattle.std.specs.FinMap.{entries, get}
use Rattle.std.specs.List.{zip}
use Rattle.std.specs.List.Sorted.{IsStrictlySortedBy}
use Rattle.std.specs.Map.{keys_of}
use Rattle.plan_basics.specs.Keys.{operation_cmp, operation_cmp_total, operation_cmp-IsAntisymmetric}
use Rattle.plan_basics.specs.declared.keys.OpKey.{OpKey}
use Rattle.plan_model.specs.Contents.{Contents, IsInPlan, Operation}
use Rattle.plan_model.specs.declared.Occurrence.{Occurrence}
use Rattle.plan_model.proofs.Entries.{entries_in_order}
use Rattle.plan_records.specs.plan_drafts.proofs.RowPlaces.{row_at}
use Rattle.plan_records.specs.plan_drafts.proofs.Tables.{is_found, some_is}
use Rattle.plan_opening.specs.plan_status.specs.declared.standings.Standing.{Standing}
use Rattle.status_rules.specs.declared.Status.{Status}
use Rattle.plan_records.specs.plan_drafts.proofs.EntryRows.{among_keys, has_key, row_in}
use Rattle.plan_opening.specs.plan_rows.proofs.SideBySide.{from_viewed, from_zipped, keys_viewed, length_zipped, viewed_at, zipped_at}
use Rattle.plan_opening.specs.plan_rows.specs.Sources.{IsSource, Known, known_of}
use Rattle.plan_core.specs.Views.{AreOpViews, IsOpView, op_view_of, op_views, priority_of}
use Rattle.plan_opening.specs.plan_rows.specs.declared.row_sources.RowSource.{RowSource}
use Rattle.plan_core.specs.declared.views.OpView.{OpView}

module _ (s : RowSource) (source : IsSource s) where
  abbrev P : Contents
  P = s.contents.now

  abbrev rows : List (OpKey × Operation)
  rows = entries P.operations

  abbrev others : List (Status × ℤ)
  others = zip s.statuses.now s.latest.now.starts

  size_others : length others ≡ length rows
  size_others = length_zipped s.statuses.now s.latest.now.starts (source.latest.size ∙ sym source.statuses.size) ∙ source.statuses.size

  pub size : length (known_of s) ≡ length rows
  size = length_zipped s.standings.now others (size_others ∙ sym source.standings.size) ∙ source.standings.size

  -- the view of a row with what is known of it
  abbrev seen : OpKey → Operation → Known → OpView
  seen o op k = op_view_of P ((o, op), k)

  pub row_in_plan : (i : ℕ) (o : OpKey) (op : Operation) → slice_get rows i ≡ Some (o, op) → get P.operations o ≡ Some op
  row_in_plan = row_in operation_cmp_total operation_cmp-IsAntisymmetric P.operations

  -- the occurrence of an operation is there
  pub its_occurrence : (o : OpKey) (op : Operation) → get P.operations o ≡ Some op → (c : Occurrence) × (get P.occurrences o.occurrence ≡ Some c)
  its_occurrence o op is = is_found (get P.occurrences o.occurrence) (source.sound.valid.occurrences.each_operation o op is).1

  is_op_view : (i : ℕ) (o : OpKey) (op : Operation) (k : Known) → slice_get rows i ≡ Some (o, op) → slice_get (known_of s) i ≡ Some k → IsOpView P (seen o op k)
  is_op_view i o op k row at =
      let is = row_in_plan i o op row in
      let both = from_zipped s.standings.now others i k at in
      let other = from_zipped s.statuses.now s.latest.now.starts i k.1 both.1 in
      let c = its_occurrence o op is in
      record {
        op = op;
        is_in_plan = is;
        work = (refl, refl, refl, refl);
        moments = (refl, refl);
        marked = (refl, refl, refl);
        priority = (c.0, c.1, ap priority_of c.1);
        status = source.statuses.each i o op k.1.0 row other.0;
        latest = source.latest.each i o op k.1.1 row other.1;
        waiting = (source.standings.each i o op k.0 row both.0).waiting;
      }

  module _ (i : ℕ) (o : OpKey) (op : Operation) (x : Standing) (t : Status) (v : ℤ) (c : Occurrence) where
    -- the view at an index, with the priority of its occurrence
    pub op_view_at : slice_get rows i ≡ Some (o, op) → slice_get s.standings.now i ≡ Some x → slice_get s.statuses.now i ≡ Some t → slice_get s.latest.now.starts i ≡ Some v
        → get P.occurrences o.occurrence ≡ Some c → slice_get (op_views s) i ≡ Some (record (seen o op (x, (t, v))) { priority = c.priority })
    op_view_at row standing status start terms =
        viewed_at (op_view_of P) rows (known_of s) i (o, op) (x, (t, v)) row (zipped_at s.standings.now others i x (t, v) standing (zipped_at s.statuses.now s.latest.now.starts i t v status start))
        ∙ (λ j. Some (record (seen o op (x, (t, v))) { priority = priority_of (terms j) }))

  op_keys : map (λ v. v.key) (op_views s) ≡ keys_of rows
  op_keys = keys_viewed (op_view_of P) (λ v. v.key) (λ p. refl) rows (known_of s) size

  in_plan : (o : OpKey) → Contains (keys_of rows) o → IsInPlan P o
  in_plan o has = let there = has_key operation_cmp_total operation_cmp-IsAntisymmetric P.operations o has in (there.0, there.1, tt)

  known_among : (o : OpKey) → IsInPlan P o → Contains (keys_of rows) o
  known_among o there = among_keys operation_cmp_total operation_cmp-IsAntisymmetric P.operations o (some_is (get P.operations o) there.0 there.1)

  pub are_op_views : AreOpViews P (op_views s)
  are_op_views = record {
    in_order = subst (IsStrictlySortedBy operation_cmp) (sym op_keys) (entries_in_order operation_cmp P.operations);
    every = λ o. subst (λ ks. Contains ks o ↔ IsInPlan P o) (sym op_keys) (in_plan o, known_among o);
    each = λ v has. let x = from_viewed (op_view_of P) rows (known_of s) v has in subst (IsOpView P) x.5 (is_op_view x.0 x.1.0 x.1.1 x.2 x.3 x.4);
  }

  known_at : (i : ℕ) (o : OpKey) (op : Operation) → slice_get rows i ≡ Some (o, op) → (k : Known) × (slice_get (known_of s) i ≡ Some k)
  known_at i o op row = row_at (known_of s) i (let lt = slice_get_within rows i (o, op) row in omega (arith, lt, size))

  -- the view at the index of a row
  pub op_view_is : (i : ℕ) (o : OpKey) (op : Operation) (v : OpView) → slice_get rows i ≡ Some (o, op) → slice_get (op_views s) i ≡ Some v → (v.key ≡ o) × IsOpView P v
  op_view_is i o op v row at =
      let k = known_at i o op row in
      let e : seen o op k.0 ≡ v = same_Some (seen o op k.0) v (sym (viewed_at (op_view_of P) rows (known_of s) i (o, op) k.0 row k.1) ∙ at) in
      (sym (ap (λ w. w.key) e), subst (IsOpView P) e (is_op_view i o op k.0 row k.1))

  -- and there is one
  pub op_view_there : (i : ℕ) (o : OpKey) (op : Operation) → slice_get rows i ≡ Some (o, op) → (v : OpView) × (slice_get (op_views s) i ≡ Some v)
  op_view_there i o op row = let k = known_at i o op row in (seen o op k.0, viewed_at (op_view_of P) rows (known_of s) i (o, op) k.0 row k.1)
