use Rattle.std.proofs.Common.{◌≡◌, ◌∙◌, sym, ap, subst, refl, arith, ◌<◌, length, slice_get, Some}
use Rattle.std.specs.Prelude.{Contains}
use Rattle.std.proofs.Math.Nat.{mul-add}
use Rattle.std.proofs.lemmas.List.Elements.{Contains-get_or}
use Rattle.std.specs.Map.{keys_of}
use Rattle.plan_model.specs.Contents.{Contents}
use Rattle.plan_rows.proofs.Counted.{counted_pushed}
use Rattle.plan_rows.proofs.DifferentRows.{told_all, told_none}
use Rattle.plan_rows.proofs.NotedTables.{told_noted}
use Rattle.plan_rows.proofs.PairedLists.{paired_length}
use Rattle.plan_rows.proofs.noted_rows.push_noted.Goals as goal
use Rattle.plan_rows.proofs.noted_rows.push_noted.Goals.{then-ne+in_ok-push, else-ne}
use Rattle.plan_rows.specs.Notes.{IsNotedAt}
use Rattle.plan_rows.specs.Rows.{rows_of}
use Rattle.plan_rows.specs.Sources.{IsSource, source_with}

pub loop-note-init : goal.loop-note-init
loop-note-init g c = record {
  contents = refl;
  fewest = omega arith;
  most = omega arith;
  told = λ news places up noted. told_none (rows_of (g.T.Tabled.keyed (source_with c.args.records.now.contents c.args.columns))) news places c.args.rows.now.items;
  count = λ p. omega arith;
}

pub seen-requires-clause-source : goal.seen-requires-clause-source
seen-requires-clause-source g c = subst (λ (P : Contents). IsSource (source_with P c.args.columns)) (sym c.loop-note.invariant.contents) c.requires.source

pub seen-requires-clause-within : goal.seen-requires-clause-within
seen-requires-clause-within g c =
    let note = c.note-item.result in
    subst (λ (P : Contents). note.place < length (keys_of (g.T.Tabled.keyed (source_with P c.args.columns)))) (sym c.loop-note.invariant.contents)
    (c.requires.within note (subst (Contains c.args.notes.now) (sym c.note-item.is) (Contains-get_or c.args.notes.now c.loop-note.note-index note c.loop-note-test.true)))

pub returns-clause-told : goal.returns-clause-told
returns-clause-told g c = λ news places up noted.
    let end = c.loop-note-test.false in
    let size = paired_length (IsNotedAt news) places c.args.notes.now noted in
    told_all (rows_of (g.T.Tabled.keyed (source_with c.args.records.now.contents c.args.columns))) news places c.loop-note.note-index c.args.rows.now.items c.loop-note.rows.items (omega (arith, end, size)) (c.loop-note.invariant.told news places up noted)

pub loop-note-preserved : goal.loop-note-preserved
loop-note-preserved g c =
    let inv = c.loop-note.invariant in
    let olds = rows_of (g.T.Tabled.keyed (source_with c.args.records.now.contents c.args.columns)) in
    let k = c.loop-note.note-index in
    let a = g.T.Noted.looks in
    let next = mul-add a k 1 in
    let seen = c.seen.ensures in
    let note = c.note-item.result in
    let there = subst (λ (P : Contents). slice_get (rows_of (g.T.Tabled.keyed (source_with P c.args.columns))) note.place ≡ Some c.seen.result) inv.contents seen.row in
    record {
      contents = seen.contents ∙ inv.contents;
      fewest = omega (arith, seen.fewest, inv.fewest);
      most = omega (arith, seen.most, inv.most, next);
      told = λ news places up noted.
          let told =
          told_noted olds news places up c.args.notes.now noted k c.loop-note-test.true note.place note.row c.seen.result c.ne.result note
          (ap (λ z. z.place) c.note-item.is) (ap (λ z. z.row) c.note-item.is) there c.ne.ensures c.args.rows.now.items c.loop-note.rows.items (inv.told news places up noted)
          in
          elim c.if-ne.branch [
            | then-ne+in_ok-push w ↦ rw (ap (λ rows. rows.items) w.rows-is ∙ w.in_ok-push.ensures.items) (told.0 w.if-ne.true)
            | else-ne w ↦ rw (ap (λ rows. rows.items) w.rows-is) (told.1 w.if-ne.false)
          ];
      count = λ p.
          let so_far = inv.count p in
          elim c.if-ne.branch [
            | then-ne+in_ok-push w ↦ let one = counted_pushed p c.loop-note.rows.items note.row in rw (ap (λ rows. rows.items) w.rows-is ∙ w.in_ok-push.ensures.items) (omega (arith, one, so_far))
            | else-ne w ↦ rw (ap (λ rows. rows.items) w.rows-is) (omega (arith, so_far))
          ];
    }
