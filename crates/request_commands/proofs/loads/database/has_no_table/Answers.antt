use Rattle.std.proofs.Common.{◌∙◌, ap, is_some}
use Rattle.std.specs.List.{list_any}
use Rattle.sqlite_schema.specs.declared.schema.View.{View}
use Rattle.request_commands.proofs.LoadedDatabases.{no_table_found}
use Rattle.request_commands.proofs.loads.database.has_no_table.Goals as goal

pub returns-then-is_empty : goal.returns-then-is_empty
returns-then-is_empty g c =
    no_table_found c.schema-schema.result.now c.args.conn.now.schema c.has_foreign.result c.schema-schema.ensures.value (c.is_empty.ensures.0 c.if-is_empty.true)
    (c.has_foreign.ensures ∙ ap (list_any (λ (view : View). is_some view.foreign)) c.as_slice.ensures)
