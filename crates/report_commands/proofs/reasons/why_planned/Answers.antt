use Rattle.std.proofs.Common.{FitsSigned, IfOk, List, to_z-of_z, w64}
use Rattle.plan_basics.specs.Watched.{inner_of}
use Rattle.plan_basics.specs.declared.keys.OpKey.{OpKey}
use Rattle.plan_records.specs.Answer.{accepted}
use Rattle.command_desks.specs.desk_tables.specs.Desk.{state_of}
use Rattle.command_answers.specs.Opened.{IsWhyNoDesk}
use Rattle.command_desks.specs.Loaded.{IsLoadRefusal, IsLoaded}
use Rattle.report_commands.specs.Whys.{IsWhyShown}
use Rattle.command_answers.proofs.Opened.{none_faults}
use Rattle.report_commands.proofs.Reasoned.{why_planned, why_unplanned}
use Rattle.report_commands.proofs.reasons.why_planned.Goals as goal

pub returns-in-Ok-clause-shown : goal.returns-in-Ok-clause-shown
returns-in-Ok-clause-shown g c =
    let fits : FitsSigned w64 c.args.at = c.ranges.at in
    let old = g.W.Write.contents (inner_of c.args.out.now) in
    let new = g.W.Write.contents (inner_of c.tell_why-shown.new.out) in
    let loads : (named : List OpKey) × IsLoaded c.args.at c.args.draft (accepted named) (state_of c.in-Ok.desk) = simp to_z-of_z at c.in-Ok.ensures.loaded in
    let shown : IfOk c.tell_why-shown.result (IsWhyShown c.args.key.now c.args.at c.in-Ok.desk.is_usable c.in-Ok.desk.plan old new) = simp to_z-of_z at c.tell_why-shown.ensures.shown in
    why_planned c.args.key.now old new c.tell_why-shown.result c.args.at c.args.draft loads.0 (state_of c.in-Ok.desk) loads.1 c.in-Ok.desk.is_usable c.in-Ok.ensures.usable shown

pub returns-in-Err-clause-shown : goal.returns-in-Err-clause-shown
returns-in-Err-clause-shown g c =
    let fits : FitsSigned w64 c.args.at = c.ranges.at in
    let why : IsWhyNoDesk (IsLoadRefusal c.args.at c.args.draft) c.in-Err.none = simp to_z-of_z at c.in-Err.ensures.refused in
    why_unplanned c.args.key.now (g.W.Write.contents (inner_of c.args.out.now)) (g.W.Write.contents (inner_of c.tell_no_desk.new.out)) c.tell_no_desk.result
    c.args.at c.args.draft c.in-Err.none why c.tell_no_desk.ensures.shown

pub returns-in-Err-clause-fault : goal.returns-in-Err-clause-fault
returns-in-Err-clause-fault g c =
    let fits : FitsSigned w64 c.args.at = c.ranges.at in
    let why : IsWhyNoDesk (IsLoadRefusal c.args.at c.args.draft) c.in-Err.none = simp to_z-of_z at c.in-Err.ensures.refused in
    none_faults (IsLoadRefusal c.args.at c.args.draft) c.in-Err.none c.tell_no_desk.result why c.tell_no_desk.ensures.fault
