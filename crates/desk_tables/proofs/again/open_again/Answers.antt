use Rattle.sqlite.specs.Held.{state}
use Rattle.desk_tables.proofs.FoundAgain.{found_in_second, opened_found, opened_undamaged}
use Rattle.desk_tables.proofs.again.open_again.Goals as goal

pub returns-clause-found_first : goal.returns-clause-found_first
returns-clause-found_first g c =
    opened_found (state g.S.Store) (state g.S.Store c.args.conn) (state g.S.Store c.in_ok-again.again) c.in_ok-again.ensures.left c.in_ok-again.ensures.clean c.open.result c.open.ensures.clean c.open.ensures.found c.open.ensures.found_first c.open.ensures.tables

pub returns-clause-found : goal.returns-clause-found
returns-clause-found g c = found_in_second (state g.S.Store) (state g.S.Store c.args.conn) c.open.result (returns-clause-found_first g c)

pub returns-clause-undamaged : goal.returns-clause-undamaged
returns-clause-undamaged g c =
    opened_undamaged (state g.S.Store) (state g.S.Store c.args.conn) (state g.S.Store c.in_ok-again.again) c.in_ok-again.ensures.left c.in_ok-again.ensures.clean c.open.result c.open.ensures.clean c.open.ensures.undamaged
