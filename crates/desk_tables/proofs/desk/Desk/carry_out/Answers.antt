use Rattle.std.proofs.Common.{arith, sym, subst, ◌∙◌}
use Rattle.sqlite.specs.Held.{state}
use Rattle.sqlite.specs.State.{HasCleanDisk}
use Rattle.plan_records.specs.Answer.{accepted}
use Rattle.plan_records.specs.Run.{State}
use Rattle.plan_records.specs.Schedules.{IsDeskState}
use Rattle.desk_tables.specs.Calls.{IsPreparedAt, named_by, state_after}
use Rattle.desk_tables.specs.Desk.{DeskState, HasTables, state_of}
use Rattle.desk_tables.proofs.Answered.{states_alike, step_legal}
use Rattle.desk_tables.proofs.Held.{carried_held, step_of}
use Rattle.desk_tables.proofs.desk.Desk.carry_out.Goals as goal

pub invariant_of-self : goal.invariant_of-self
invariant_of-self g c =
    let old : DeskState _ = record { plan = c.self.inside.plan.plan; receipts = c.self.inside.receipts; is_usable = c.self.inside.is_usable; conn = c.self.inside.conn } in
    let p = c.args.call in
    let is = subst (λ (d : DeskState _). IsPreparedAt (state_of d) p) (sym c.self.view_is) c.requires.prepared in
    let new = state g.S.Store c.write_call.new.conn in
    let t : State = record { plan = c.apply.new.plan.plan; receipts = c.apply.new.receipts } in
    let led = states_alike t (state_after (state_of old) p) c.apply.ensures.plan c.apply.ensures.receipts in
    let step = step_of (state_of old) p is in
    record {
      legal = subst IsDeskState (sym led) (step_legal (state_of old) (state_after (state_of old) p) step.0 (accepted (named_by p)) c.self.invariant.legal step.1);
      idle = c.write_call.ensures.idle;
      tables = λ clean has.
          let done = c.in-Ok.ensures.ok clean.0 in
          let late : HasCleanDisk (state g.S.Store old.conn) = omega (arith, clean.0, c.write_call.ensures.crash.clean) in
          carried_held g.S.Store old c.self.invariant p is t led new done late (sym done.3.schema_stays ∙ has);
    }

pub returns-in-Ok-clause-tables : goal.returns-in-Ok-clause-tables
returns-in-Ok-clause-tables g c clean told has =
    let old : DeskState _ = record { plan = c.self.inside.plan.plan; receipts = c.self.inside.receipts; is_usable = c.self.inside.is_usable; conn = c.self.inside.conn } in
    let p = c.args.call in
    let is = subst (λ (d : DeskState _). IsPreparedAt (state_of d) p) (sym c.self.view_is) c.requires.prepared in
    let new = state g.S.Store c.write_call.new.conn in
    let t : State = record { plan = c.apply.new.plan.plan; receipts = c.apply.new.receipts } in
    let led = states_alike t (state_after (state_of old) p) c.apply.ensures.plan c.apply.ensures.receipts in
    let done = c.in-Ok.ensures.ok clean in
    let late : HasCleanDisk (state g.S.Store old.conn) = omega (arith, clean, c.write_call.ensures.crash.clean) in
    let had = subst (λ (d : DeskState _). HasTables (state g.S.Store d.conn)) (sym c.self.view_is) has in
    carried_held g.S.Store old c.self.invariant p is t led new done late had

pub returns-in-Ok-clause-holds : goal.returns-in-Ok-clause-holds
returns-in-Ok-clause-holds g c = (invariant_of-self g c).tables
