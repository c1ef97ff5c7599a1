use Rattle.std.proofs.Common.{w64, FitsSigned, arith, inl, to_z-of_z}
use Rattle.sqlite.specs.Held.{state}
use Rattle.plan_records.specs.Answer.{answer_of}
use Rattle.command_desks.specs.desk_tables.specs.Desk.{state_of}
use Rattle.request_commands.proofs.LoadedDatabases.{load_answered}
use Rattle.request_commands.proofs.loads.database.load_into.Goals as goal

pub returns-in-Err : goal.returns-in-Err
returns-in-Err g c =
    (inl (c.in-Err.ensures.refused, λ is clean. (c.in-Err.ensures.still_open is clean, c.in-Err.ensures.damaged is clean)), λ clean told has. c.in-Err.ensures.unchanged clean told, λ clean told has. inl (c.in-Err.ensures.unchanged clean told))

pub returns : goal.returns
returns g c =
    let fits : FitsSigned w64 c.args.at = c.ranges.at in
    let old = state g.S.Store c.args.conn in
    let desk = c.in-Ok.desk in
    let after = c.call-reply.new.self in
    rw c.close.ensures.conn
    (load_answered old (state g.S.Store desk.conn) (state g.S.Store after.conn) (state_of desk) (state_of after) c.args.at c.args.draft desk.is_usable after.is_usable
    c.in-Ok.ensures.state c.in-Ok.ensures.usable c.in-Ok.ensures.is_open c.in-Ok.ensures.made c.in-Ok.ensures.opened c.in-Ok.ensures.opened_first (λ clean. omega (arith, clean, c.call-reply.ensures.survives.clean))
    (answer_of c.call-reply.result) (simp to_z-of_z at c.call-reply.ensures.answers) c.call-reply.ensures.is_open c.call-reply.ensures.tables c.call-reply.ensures.refused)
