use Rattle.std.proofs.Common.{FitsSigned, List, to_z-of_z, w64}
use Rattle.plan_basics.specs.Watched.{inner_of}
use Rattle.plan_basics.specs.declared.keys.OpKey.{OpKey}
use Rattle.plan_records.specs.Answer.{accepted}
use Rattle.command_desks.specs.desk_tables.specs.Desk.{state_of}
use Rattle.command_answers.specs.Opened.{IsWhyNoDesk}
use Rattle.command_desks.specs.Loaded.{IsLoadRefusal, IsLoaded}
use Rattle.request_commands.proofs.Replayed.{plan_replayed, plan_unreplayed}
use Rattle.request_commands.proofs.replaying.replay_plan.Goals as goal

pub returns-in-Ok : goal.returns-in-Ok
returns-in-Ok g c =
    let fits : FitsSigned w64 c.args.at = c.ranges.at in
    let loads : (named : List OpKey) × IsLoaded c.args.at c.args.draft (accepted named) (state_of c.in-Ok.desk) = simp to_z-of_z at c.in-Ok.ensures.loaded in
    plan_replayed c.args.at c.args.draft c.args.journal.now (g.W.Write.contents (inner_of c.args.out.now)) (g.W.Write.contents (inner_of c.replay_lines-replayed.new.out))
    loads.0 (state_of c.in-Ok.desk) c.in-Ok.desk.is_usable c.replay_lines-replayed.result loads.1 c.in-Ok.ensures.usable c.replay_lines-replayed.ensures

pub returns-in-Err : goal.returns-in-Err
returns-in-Err g c =
    let fits : FitsSigned w64 c.args.at = c.ranges.at in
    let why : IsWhyNoDesk (IsLoadRefusal c.args.at c.args.draft) c.in-Err.none = simp to_z-of_z at c.in-Err.ensures.refused in
    plan_unreplayed c.args.at c.args.draft c.args.journal.now (g.W.Write.contents (inner_of c.args.out.now)) (g.W.Write.contents (inner_of c.tell_no_desk.new.out))
    c.in-Err.none c.tell_no_desk.result why c.tell_no_desk.ensures.shown c.tell_no_desk.ensures.fault
