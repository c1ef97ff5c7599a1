use Rattle.std.proofs.lemmas.Option.{slice_get_within}
use Rattle.std.specs.Map.{keys_of}
use Rattle.plan_rows.proofs.KeptOperations.{rows_by_known}
use Rattle.plan_rows.proofs.SourceRows.{operation_within}
use Rattle.plan_rows.proofs.operations.OperationRecordTabled.is_alike.Goals as goal
use Rattle.plan_rows.specs.Rows.{keyed_operations}
use Rattle.plan_rows.specs.Sources.{source_of}

pub are_known_alike-requires-clause-before : goal.are_known_alike-requires-clause-before
are_known_alike-requires-clause-before c =
    let s = source_of c.args.before in
    let (o, first, second) = c.requires.one_key in
    (c.args.before.uncounted.contents.now, c.requires.before, operation_within s c.requires.before c.args.old (slice_get_within (keys_of (keyed_operations s)) c.args.old o first))

pub are_known_alike-requires-clause-after : goal.are_known_alike-requires-clause-after
are_known_alike-requires-clause-after c =
    let s = source_of c.args.after in
    let (o, first, second) = c.requires.one_key in
    (c.args.after.uncounted.contents.now, c.requires.after, operation_within s c.requires.after c.args.new (slice_get_within (keys_of (keyed_operations s)) c.args.new o second))

pub returns : goal.returns
returns c =
    let told =
    rows_by_known c.args.before.uncounted.contents.now c.args.after.uncounted.contents.now c.args.before.columns c.args.after.columns c.requires.before c.requires.after c.requires.kept c.args.old c.args.new c.requires.one_key
    in
    (λ t. told.0 (c.are_known_alike.ensures.0 t), λ e. c.are_known_alike.ensures.1 (told.1 e))
