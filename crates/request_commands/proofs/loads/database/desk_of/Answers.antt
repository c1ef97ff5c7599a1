use Rattle.std.proofs.Common.{◌∙◌, sym}
use Rattle.std.proofs.lemmas.Bool.{false≢true}
use Rattle.sqlite.specs.Held.{state}
use Rattle.request_commands.proofs.LoadedDatabases.{damaged_told, first_told, same_told, state_told}
use Rattle.request_commands.proofs.loads.database.desk_of.Goals as goal

pub returns-else-has_no_table-clause-damaged : goal.returns-else-has_no_table-clause-damaged
returns-else-has_no_table-clause-damaged g c =
    damaged_told _ _ (state g.S.Store) (state g.S.Store c.args.conn) c.open.result
    (λ none. false≢true (sym c.if-has_no_table.false ∙ c.has_no_table.ensures.1 none)) c.open.ensures.undone c.open.ensures.still_open c.open.ensures.damaged

pub returns-else-has_no_table-clause-state : goal.returns-else-has_no_table-clause-state
returns-else-has_no_table-clause-state g c =
    state_told (state g.S.Store) (state g.S.Store c.args.conn) c.open.result (λ none. false≢true (sym c.if-has_no_table.false ∙ c.has_no_table.ensures.1 none))
    c.open.ensures.is_open c.open.ensures.kept c.open.ensures.reads c.open.ensures.tables c.open.ensures.of_first

pub returns-else-has_no_table-clause-opened_first : goal.returns-else-has_no_table-clause-opened_first
returns-else-has_no_table-clause-opened_first g c = first_told (state g.S.Store) (state g.S.Store c.args.conn) c.open.result c.open.ensures.of_first

pub returns-else-has_no_table-clause-opened : goal.returns-else-has_no_table-clause-opened
returns-else-has_no_table-clause-opened g c = same_told (state g.S.Store) (state g.S.Store c.args.conn) c.open.result c.open.ensures.is_open c.open.ensures.kept c.open.ensures.reads
