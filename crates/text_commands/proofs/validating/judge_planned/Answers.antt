use Rattle.std.proofs.Common.{FitsSigned, IfOk, List, to_z-of_z, w64}
use Rattle.plan_basics.specs.Watched.{inner_of}
use Rattle.plan_basics.specs.declared.keys.OpKey.{OpKey}
use Rattle.plan_records.specs.Answer.{accepted}
use Rattle.command_desks.specs.desk_tables.specs.Desk.{state_of}
use Rattle.text_commands.specs.Beside.{IsBesideShown}
use Rattle.command_answers.specs.Opened.{IsWhyNoDesk}
use Rattle.command_desks.specs.Loaded.{IsLoadRefusal, IsLoaded}
use Rattle.command_answers.proofs.Opened.{none_faults}
use Rattle.text_commands.proofs.Besides.{beside_loaded, beside_unloaded}
use Rattle.text_commands.proofs.validating.judge_planned.Goals as goal

pub returns-in-Ok-clause-shown : goal.returns-in-Ok-clause-shown
returns-in-Ok-clause-shown g c =
    let fits : FitsSigned w64 c.args.at = c.ranges.at in
    let old = g.W.Write.contents (inner_of c.args.out.now) in
    let new = g.W.Write.contents (inner_of c.judge_beside-shown.new.out) in
    let loads : (named : List OpKey) × IsLoaded c.args.at c.args.draft (accepted named) (state_of c.in-Ok.desk) = simp to_z-of_z at c.in-Ok.ensures.loaded in
    let shown : IfOk c.judge_beside-shown.result (IsBesideShown c.in-Ok.desk.plan c.args.text.now old new) = rw (← c.plan.ensures.plan) c.judge_beside-shown.ensures.shown in
    beside_loaded c.args.text.now old new c.judge_beside-shown.result c.args.at c.args.draft loads.0 (state_of c.in-Ok.desk) loads.1 shown

pub returns-in-Err-clause-shown : goal.returns-in-Err-clause-shown
returns-in-Err-clause-shown g c =
    let fits : FitsSigned w64 c.args.at = c.ranges.at in
    let why : IsWhyNoDesk (IsLoadRefusal c.args.at c.args.draft) c.in-Err.none = simp to_z-of_z at c.in-Err.ensures.refused in
    beside_unloaded c.args.text.now (g.W.Write.contents (inner_of c.args.out.now)) (g.W.Write.contents (inner_of c.tell_no_desk.new.out)) c.tell_no_desk.result
    c.args.at c.args.draft c.in-Err.none why c.tell_no_desk.ensures.shown

pub returns-in-Err-clause-fault : goal.returns-in-Err-clause-fault
returns-in-Err-clause-fault g c =
    let fits : FitsSigned w64 c.args.at = c.ranges.at in
    let why : IsWhyNoDesk (IsLoadRefusal c.args.at c.args.draft) c.in-Err.none = simp to_z-of_z at c.in-Err.ensures.refused in
    none_faults (IsLoadRefusal c.args.at c.args.draft) c.in-Err.none c.tell_no_desk.result why c.tell_no_desk.ensures.fault
