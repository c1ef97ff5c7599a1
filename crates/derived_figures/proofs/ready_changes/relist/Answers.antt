use Rattle.std.proofs.Common.{◌≡◌, refl, ◌∙◌, sym, Bool, true, false}
use Rattle.std.proofs.Math.Bool.{beq}
use Rattle.std.specs.FinMap.{entries}
use Rattle.std.proofs.lemmas.Option.{slice_get_within}
use Rattle.start_choice.specs.plan_status.proofs.RowKeys.{row_of_key}
use Rattle.derived_figures.proofs.Entering.{entries_stay, entry_put, entry_taken}
use Rattle.derived_figures.proofs.Fewness.{room_for_one}
use Rattle.derived_figures.proofs.ready_changes.relist.Goals as goal

alike : (a b : Bool) → beq a b ≡ true → a ≡ b
alike true true e = refl
alike false false e = refl
alike a b e = absurd (cc)

-- the one of two that differ, where the other is true
told_apart : (a b : Bool) → beq a b ≡ false → b ≡ true → a ≡ false
told_apart false b e t = refl
told_apart true true e t = absurd (cc)
told_apart a b e t = absurd (cc)

pub returns-then-is_ready-clause-listed : goal.returns-then-is_ready-clause-listed
returns-then-is_ready-clause-listed c P place statuses its was are =
    let row = row_of_key (entries P.operations) place c.args.entry.now.key.op its.1 in
    entries_stay P statuses c.args.ready.now.entries are place c.args.entry.now.key.op row.0 row.1 c.args.old c.args.new was
    (sym c.is_ready.ensures ∙ alike c.is_ready.result c.is_ready-2.result c.if-is_ready.true ∙ c.is_ready-2.ensures)

pub returns-then-is_ready-2-clause-listed : goal.returns-then-is_ready-2-clause-listed
returns-then-is_ready-2-clause-listed c P place statuses its was are =
    let row = row_of_key (entries P.operations) place c.args.entry.now.key.op its.1 in
    rw c.insert.ensures.entries
    (entry_put P statuses c.args.ready.now.entries are place c.args.entry.now.key.op row.0 row.1 c.args.old c.args.new was
    (sym c.is_ready-3.ensures ∙ c.if-is_ready-2.true) c.args.entry.now refl its.0)

pub returns-else-is_ready-2-clause-listed : goal.returns-else-is_ready-2-clause-listed
returns-else-is_ready-2-clause-listed c P place statuses its was are =
    let row = row_of_key (entries P.operations) place c.args.entry.now.key.op its.1 in
    rw c.remove.ensures.entries
    (entry_taken P statuses c.args.ready.now.entries are place c.args.entry.now.key.op row.0 row.1 c.args.old c.args.new was
    (sym c.is_ready-3.ensures ∙ c.if-is_ready-2.false) c.args.entry.now.key refl its.0.0)

pub insert-requires : goal.insert-requires
insert-requires c =
    let P = c.requires.0 in
    let place = c.requires.1 in
    let row = row_of_key (entries P.operations) place c.args.entry.now.key.op c.requires.3.1 in
    room_for_one P c.requires.2 c.args.ready.now c.requires.5 c.requires.6 place (slice_get_within (entries P.operations) place _ row.1) c.args.old c.requires.4
    (sym c.is_ready.ensures ∙ told_apart c.is_ready.result c.is_ready-2.result c.if-is_ready.false (c.is_ready-2.ensures ∙ sym c.is_ready-3.ensures ∙ c.if-is_ready-2.true))
