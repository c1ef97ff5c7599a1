use Rattle.std.proofs.Common.{Some, refl, arith}
use Rattle.std.specs.FinMap.{entries}
use Rattle.std.specs.Map.{keys_of}
use Rattle.std.proofs.lemmas.Result.{on_ok_weaker}
use Rattle.plan_basics.specs.Keys.{occurrence_cmp, occurrence_cmp-IsAntisymmetric, occurrence_cmp_total}
use Rattle.plan_records.specs.plan_drafts.specs.declared.RowKey.TheVariants as key
use Rattle.plan_rows.proofs.Counted.{no_look}
use Rattle.plan_rows.proofs.MovedRows.{same_occurrences}
use Rattle.plan_rows.proofs.NotedTables.{noted_table}
use Rattle.plan_rows.proofs.SourceRows.{are_occurrences, occurrence_keys, occurrences_ascend}
use Rattle.plan_rows.proofs.TouchedRows.{occurrence_keys_stay, occurrences_elsewhere, occurrences_within, within_keys}
use Rattle.plan_rows.proofs.occurrences.push_noted_occurrences.Goals as goal
use Rattle.plan_rows.specs.Rows.{keyed_occurrences, rows_of}
use Rattle.plan_rows.specs.Sources.{plan_if_any, source_with}

pub push_noted-requires-clause-within : goal.push_noted-requires-clause-within
push_noted-requires-clause-within c = λ note has.
    let s = source_with c.args.records.now.contents c.args.columns in
    within_keys (entries s.contents.now.occurrences) (keys_of (keyed_occurrences s)) (occurrence_keys s c.requires.source) note.place (c.requires.within note has)

pub returns-clause-told : goal.returns-clause-told
returns-clause-told c = λ after touched places source among of noted clock now so_far.
    let s = source_with c.args.records.now.contents c.args.columns in
    let before = Some s in
    let was = c.requires.source in
    let P = plan_if_any clock before in
    let Q = plan_if_any now (Some after) in
    let olds = keyed_occurrences s in
    let news = keyed_occurrences after in
    let are = same_occurrences s.contents.now after.contents.now touched places among.moved of in
    on_ok_weaker c.push_noted.result
    (λ told. noted_table occurrence_cmp key.Occurrence (λ a b. refl) occurrence_cmp-IsAntisymmetric occurrence_cmp_total 4 P Q (keys_of olds) (keys_of news)
    (occurrence_keys_stay before (Some after) was source touched among)
    (occurrences_ascend before was)
    (rows_of olds) (rows_of news)
    (are_occurrences clock before was)
    (are_occurrences now (Some after) source) places
    (occurrences_within before (Some after) was source touched among places are)
    (occurrences_elsewhere before (Some after) was source touched among places are)
    c.args.changes.now (record { rows = c.push_noted.new.rows; gone = c.args.changes.now.gone }) refl told so_far)
    (c.push_noted.ensures.told (rows_of news) places of.ascend noted)

pub returns-clause-unchanged : goal.returns-clause-unchanged
returns-clause-unchanged c =
    let h = c.push_noted.ensures in
    no_look c.args.records.now c.push_noted.new.records h.contents h.fewest (omega (arith, h.most))
