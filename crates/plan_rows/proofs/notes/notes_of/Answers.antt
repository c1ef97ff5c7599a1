use Rattle.std.proofs.Common.{◌<◌, ℕ, sym, subst, length, Contains}
use Rattle.std.specs.FinMap.{entries}
use Rattle.plan_model.specs.Contents.{Contents}
use Rattle.plan_rows.proofs.PairedLists.{paired_length}
use Rattle.plan_rows.proofs.notes.notes_of.Goals as goal
use Rattle.plan_rows.specs.Notes.{IsNotedAt}
use Rattle.plan_rows.specs.Rows.{keyed_operations, rows_of}
use Rattle.plan_rows.specs.Sources.{source_with}

pub note_occurrences-requires-clause-within : goal.note_occurrences-requires-clause-within
note_occurrences-requires-clause-within c =
    subst (λ (P : Contents). (i : ℕ) → Contains c.args.touched.now i → i < length (entries P.operations)) (sym c.in_ok-operations.ensures.contents) c.requires.within

pub returns-clause-noted : goal.returns-clause-noted
returns-clause-noted c =
    sym (paired_length (IsNotedAt (rows_of (keyed_operations (source_with c.args.records.now.contents c.args.columns)))) c.args.touched.now c.in_ok-operations.operations.items c.in_ok-operations.ensures.notes)
