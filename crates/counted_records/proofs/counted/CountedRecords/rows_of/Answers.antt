use Rattle.std.proofs.Common.{◌≡◌, ◌∙◌, ◌⊎◌, inl, inr, ◌+◌, ◌++◌, ◌∷◌, [], ◌≤◌, ap, sym, arith, ℕ, List, Some, slice_get, take}
use Rattle.std.proofs.lemmas.List.{take_more}
use Rattle.std.proofs.lemmas.Option.{get_or_from_slice_get, slice_get_within}
use Rattle.std.specs.FinMap.{entries}
use Rattle.plan_basics.specs.declared.keys.OpKey.{OpKey}
use Rattle.plan_status.specs.plan_model.specs.Contents.{Contents, Operation}
use Rattle.counted_records.proofs.counted.CountedRecords.rows_of.Goals as goal

-- a count that is full stays so, and another goes on by the look
one_more : (first before after done : ℕ) → (18446744073709551615 ≤ before) ⊎ (first + done ≤ before) → (18446744073709551615 ≤ after) ⊎ (before + 1 ≤ after) → (18446744073709551615 ≤ after) ⊎ (first + (done + 1) ≤ after)
one_more first before after done was (inl full) = inl full
one_more first before after done (inl full) (inr next) = inl (omega (arith, full, next))
one_more first before after done (inr so_far) (inr next) = inr (omega (arith, so_far, next))

-- the first rows are followed by the next
pushed : (rows : List (OpKey × Operation)) (i : ℕ) (row : OpKey × Operation) (so_far more : List (OpKey × Operation)) → slice_get rows i ≡ Some row → so_far ≡ take i rows → more ≡ so_far ++ row ∷ [] → more ≡ take (i + 1) rows
pushed rows i row so_far more at are is =
    is ∙ ap (λ xs. xs ++ row ∷ []) are ∙ sym (take_more rows i row (slice_get_within rows i row at) ∙ ap (λ r. take i rows ++ r ∷ []) (get_or_from_slice_get rows i row row at))

pub loop-place-preserved : goal.loop-place-preserved
loop-place-preserved c =
    let inv = c.loop-place.invariant in
    let one = c.row_at.ensures in
    let rows = entries c.args.self.now.contents.operations in
    let place = c.loop-place.place in
    let there : slice_get rows place ≡ Some c.row_at.result = ap (λ (P : Contents). slice_get (entries P.operations) place) (sym inv.contents) ∙ one.row in
    record {
      contents = one.contents ∙ inv.contents;
      most = omega (arith, one.most, inv.most);
      least = one_more c.args.self.now.looks c.loop-place.self.looks c.row_at.new.self.looks place inv.least one.least;
      rows = pushed rows place c.row_at.result c.loop-place.rows.items c.push.new.self.items there inv.rows c.in_ok-push.ensures.items;
    }
