use Rattle.std.proofs.lemmas.Option.{slice_get_within}
use Rattle.std.specs.Map.{keys_of}
use Rattle.plan_rows.proofs.KeyedRows.{rows_alike}
use Rattle.plan_rows.proofs.SourceRows.{occurrence_within}
use Rattle.plan_rows.proofs.occurrences.OccurrenceTabled.is_alike.Goals as goal
use Rattle.plan_rows.specs.Rows.{keyed_occurrences, rows_of}
use Rattle.plan_rows.specs.Sources.{source_of}

pub source_row-requires-clause-within : goal.source_row-requires-clause-within
source_row-requires-clause-within c =
    let s = source_of c.args.before in
    let (o, first, second) = c.requires.one_key in
    occurrence_within s c.requires.before c.args.old (slice_get_within (keys_of (keyed_occurrences s)) c.args.old o first)

pub source_row-requires-2-clause-within : goal.source_row-requires-2-clause-within
source_row-requires-2-clause-within c =
    let s = source_of c.args.after in
    let (o, first, second) = c.requires.one_key in
    occurrence_within s c.requires.after c.args.new (slice_get_within (keys_of (keyed_occurrences s)) c.args.new o second)

pub returns : goal.returns
returns c =
    rows_alike (rows_of (keyed_occurrences (source_of c.args.before))) (rows_of (keyed_occurrences (source_of c.args.after))) c.args.old c.args.new c.source_row.result c.source_row-2.result c.eq.result
    c.source_row.ensures c.source_row-2.ensures c.eq.ensures
