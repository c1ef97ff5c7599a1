use Rattle.std.proofs.Common.{◌≡◌, ◌⊎◌, rules, refl, ap, sym, subst, ◌∙◌, true, IsTrue, None, Some}
use Rattle.sqlite.specs.Held.{state}
use Rattle.sqlite.specs.State.{Survives}
use Rattle.plan_basics.specs.declared.Refusal.TheVariants as refusal
use Rattle.plan_core.specs.Provided.{StartsAreProvided}
use Rattle.plan_core.specs.State.{IsPreparedFor, PlanState, plan_after}
use Rattle.tracker_receipts.specs.plan_laws.proofs.Receipts.{answer_keeps_receipts}
use Rattle.plan_records.specs.Answer.{accepted, answer_of, refused}
use Rattle.plan_records.specs.Run.{Answers, plain}
use Rattle.plan_records.specs.Schedules.{IsDeskState, stop, stopped}
use Rattle.plan_records.specs.Step.{Step}
use Rattle.desk_tables.specs.Calls.{change_of, state_after}
use Rattle.desk_tables.specs.Desk.{DeskState, HasTables, IsCarriedOut, IsKept, state_of, usability}
use Rattle.desk_tables.specs.Stops.{AreLeftBy, StopsLeave}
use Rattle.desk_tables.specs.declared.calls.PreparedCall.TheVariants.{Plain}
use Rattle.desk_tables.proofs.Answered.{carried_answers, carried_starts, none_starts, plain_not_prepared}
use Rattle.desk_tables.proofs.Held.{prepared_carries, step_survives}
use Rattle.desk_tables.proofs.Stopped.{desk_stands, none_stops, step_stops}
use Rattle.plan_writes.specs.Within.{LeavesMade, Rewrites}
use Rattle.desk_tables.proofs.desk.Desk.call.Goals as goal

pub returns-in-Ok-clause-answers : goal.returns-in-Ok-clause-answers
returns-in-Ok-clause-answers g c =
    let old = c.args.self.now in
    let new = c.carry_out.new.self in
    let q = c.args.request.now in
    let p = c.in-Ok.prepared in
    let x = answer_of c.carry_out.result in
    let same = ap (λ (s : PlanState). (let d : DeskState _ = record { plan = s.plan; receipts = c.self.inside.receipts; is_usable = c.self.inside.is_usable; conn = c.self.inside.conn } in d)) c.prepare.ensures.unchanged ∙ c.self.view_is in
    let usable : c.self.inside.is_usable ≡ true = search rules in
    let was : old.is_usable ≡ true = sym (ap (λ (d : DeskState _). d.is_usable) c.self.view_is) ∙ usable in
    let step = subst (λ P. Step P q (accepted p.named) (plan_after (record { plan = P }) p)) (ap (λ (d : DeskState _). d.plan) c.self.view_is) c.in-Ok.ensures.step in
    carried_answers old new (plain q) p.named (state_after (state_of old) (Plain p)) was (step, refl) x
    (subst (λ (d : DeskState _). IsCarriedOut d p.named (state_after (state_of d) (Plain p)) x new) same c.carry_out.ensures.reply)

pub returns-in-Ok-clause-sound : goal.returns-in-Ok-clause-sound
returns-in-Ok-clause-sound g c =
    let old = c.args.self.now in
    let new = c.carry_out.new.self in
    let legal = subst (λ (d : DeskState _). IsDeskState (state_of d)) c.self.view_is c.self.invariant.legal in
    answer_keeps_receipts (state_of old) (state_of new) (usability old.is_usable) (usability new.is_usable) (plain c.args.request.now) (answer_of c.carry_out.result) legal (returns-in-Ok-clause-answers g c)

pub returns-in-Ok-clause-starts : goal.returns-in-Ok-clause-starts
returns-in-Ok-clause-starts g c =
    let old = c.args.self.now in
    let new = c.carry_out.new.self in
    let q = c.args.request.now in
    let p = c.in-Ok.prepared in
    let x = answer_of c.carry_out.result in
    let plan = ap (λ (d : DeskState _). d.plan) c.self.view_is in
    let same = ap (λ (s : PlanState). (let d : DeskState _ = record { plan = s.plan; receipts = c.self.inside.receipts; is_usable = c.self.inside.is_usable; conn = c.self.inside.conn } in d)) c.prepare.ensures.unchanged ∙ c.self.view_is in
    let usable : c.self.inside.is_usable ≡ true = search rules in
    let was : old.is_usable ≡ true = sym (ap (λ (d : DeskState _). d.is_usable) c.self.view_is) ∙ usable in
    let step = subst (λ P. Step P q (accepted p.named) (plan_after (record { plan = P }) p)) plan c.in-Ok.ensures.step in
    let starts = subst (λ P. StartsAreProvided P q (accepted p.named) (plan_after (record { plan = P }) p)) plan c.in-Ok.ensures.starts in
    carried_starts old new (plain q) p.named (state_after (state_of old) (Plain p)) was (step, refl) q x
    (subst (λ (d : DeskState _). IsCarriedOut d p.named (state_after (state_of d) (Plain p)) x new) same c.carry_out.ensures.reply) starts

pub returns-in-Ok-clause-tables : goal.returns-in-Ok-clause-tables
returns-in-Ok-clause-tables g c clean was told has = c.carry_out.ensures.tables clean told (subst (λ (d : DeskState _). HasTables (state g.S.Store d.conn)) (sym c.self.view_is) has)

pub returns-in-Ok-clause-survives : goal.returns-in-Ok-clause-survives
returns-in-Ok-clause-survives g c =
    let old = c.args.self.now in
    let new = c.carry_out.new.self in
    let q = c.args.request.now in
    let p = c.in-Ok.prepared in
    let Makes = Rewrites (change_of (Plain p)) in
    let plan = ap (λ (d : DeskState _). d.plan) c.self.view_is in
    let kept = subst (IsKept g.S.Store) c.self.view_is c.self.invariant in
    let step = subst (λ P. Step P q (accepted p.named) (plan_after (record { plan = P }) p)) plan c.in-Ok.ensures.step in
    let before = subst (λ (s : PlanState). IsPreparedFor s p) c.prepare.ensures.unchanged c.in-Ok.ensures.prepared in
    let is = subst (λ P. (let s : PlanState = record { plan = P } in IsPreparedFor s p)) plan before in
    let carries = prepared_carries (state_of old) (Plain p) kept.legal.0 is in
    let stops = subst (λ (d : DeskState _). Survives (state g.S.Store d.conn) (state g.S.Store new.conn) (LeavesMade Makes (state g.S.Store d.conn))) c.self.view_is c.carry_out.ensures.survives in
    step_survives (state_of old) (state_after (state_of old) (Plain p)) (change_of (Plain p)) carries (state g.S.Store old.conn) (plain q) p.named (step, refl) (state g.S.Store new.conn)
    (λ clean is_open has. kept.tables (clean, is_open) has) stops

pub returns-in-Ok-clause-stops : goal.returns-in-Ok-clause-stops
returns-in-Ok-clause-stops g c is_open has =
    let old = c.args.self.now in
    let kept = subst (IsKept g.S.Store) c.self.view_is c.self.invariant in
    let usable : c.self.inside.is_usable ≡ true = search rules in
    let was : old.is_usable ≡ true = sym (ap (λ (d : DeskState _). d.is_usable) c.self.view_is) ∙ usable in
    step_stops (state g.S.Store old.conn) (λ trees may. g.met.S.Store.settled old.conn.store trees is_open may) (state_of old) (λ clean. kept.tables (clean, is_open) has)
    (state g.S.Store c.carry_out.new.self.conn) is_open has old.is_usable (plain c.args.request.now) was (returns-in-Ok-clause-survives g c)

pub returns-in-Err-clause-answers : goal.returns-in-Err-clause-answers
returns-in-Err-clause-answers g c =
    let old = c.args.self.now in
    let q = c.args.request.now in
    let r = c.in-Err.refusal in
    let plan = ap (λ (d : DeskState _). d.plan) c.self.view_is in
    let same = ap (λ (s : PlanState). (let d : DeskState _ = record { plan = s.plan; receipts = c.self.inside.receipts; is_usable = c.self.inside.is_usable; conn = c.self.inside.conn } in d)) c.prepare.ensures.unchanged ∙ c.self.view_is in
    let usable : c.self.inside.is_usable ≡ true = search rules in
    let was : old.is_usable ≡ true = sym (ap (λ (d : DeskState _). d.is_usable) c.self.view_is) ∙ usable in
    let why = subst (λ P. (r ≡ refusal.Memory) ⊎ Step P q (refused r) P) plan c.in-Err.ensures.refused in
    subst (λ (d : DeskState _). Answers (state_of old) (usability old.is_usable) (plain q) (refused r) (state_of d) (usability d.is_usable)) (sym same) (plain_not_prepared (state_of old) q old.is_usable r was why)

pub returns-in-Err-clause-starts : goal.returns-in-Err-clause-starts
returns-in-Err-clause-starts g c =
    none_starts c.args.self.now.plan c.prepare.new.self.plan c.args.request.now (refused c.in-Err.refusal)
    (ap (λ (s : PlanState). s.plan) c.prepare.ensures.unchanged ∙ ap (λ (d : DeskState _). d.plan) c.self.view_is)

pub returns-then-not-self-clause-stops : goal.returns-then-not-self-clause-stops
returns-then-not-self-clause-stops g c is_open has =
    let old = c.args.self.now in
    let kept = subst (IsKept g.S.Store) c.self.view_is c.self.invariant in
    none_stops (state g.S.Store old.conn) (λ trees may. g.met.S.Store.settled old.conn.store trees is_open may) (state_of old) (λ clean. kept.tables (clean, is_open) has) (usability old.is_usable) (plain c.args.request.now)

pub returns-in-Err-clause-stops : goal.returns-in-Err-clause-stops
returns-in-Err-clause-stops g c is_open has =
    let old = c.args.self.now in
    let call = plain c.args.request.now in
    let kept = subst (IsKept g.S.Store) c.self.view_is c.self.invariant in
    let same = ap (λ (s : PlanState). (let d : DeskState _ = record { plan = s.plan; receipts = c.self.inside.receipts; is_usable = c.self.inside.is_usable; conn = c.self.inside.conn } in d)) c.prepare.ensures.unchanged ∙ c.self.view_is in
    let stays = none_stops (state g.S.Store old.conn) (λ trees may. g.met.S.Store.settled old.conn.store trees is_open may) (state_of old) (λ clean. kept.tables (clean, is_open) has) (usability old.is_usable) call in
    subst (λ (d : DeskState _). StopsLeave (state g.S.Store d.conn) (AreLeftBy (state_of old) (Some (usability old.is_usable)) (stopped call None))) (sym same) stays

-- ---- a stop after it

pub returns-in-Ok-clause-stops_after : goal.returns-in-Ok-clause-stops_after
returns-in-Ok-clause-stops_after g c =
    let new = c.carry_out.new.self in
    desk_stands (state g.S.Store new.conn) (λ is_open trees may. g.met.S.Store.settled new.conn.store trees is_open may) (state_of new) (Some (usability new.is_usable)) c.carry_out.ensures.holds

pub returns-then-not-self-clause-stops_after : goal.returns-then-not-self-clause-stops_after
returns-then-not-self-clause-stops_after g c =
    let old = c.args.self.now in
    let kept = subst (IsKept g.S.Store) c.self.view_is c.self.invariant in
    desk_stands (state g.S.Store old.conn) (λ is_open trees may. g.met.S.Store.settled old.conn.store trees is_open may) (state_of old) (Some (usability old.is_usable)) kept.tables

pub returns-in-Err-clause-stops_after : goal.returns-in-Err-clause-stops_after
returns-in-Err-clause-stops_after g c =
    let old = c.args.self.now in
    let kept = subst (IsKept g.S.Store) c.self.view_is c.self.invariant in
    let same = ap (λ (s : PlanState). (let d : DeskState _ = record { plan = s.plan; receipts = c.self.inside.receipts; is_usable = c.self.inside.is_usable; conn = c.self.inside.conn } in d)) c.prepare.ensures.unchanged ∙ c.self.view_is in
    let stays = desk_stands (state g.S.Store old.conn) (λ is_open trees may. g.met.S.Store.settled old.conn.store trees is_open may) (state_of old) (Some (usability old.is_usable)) kept.tables in
    subst (λ (d : DeskState _). IsTrue (state g.S.Store d.conn).is_open → HasTables (state g.S.Store d.conn) → StopsLeave (state g.S.Store d.conn) (AreLeftBy (state_of d) (Some (usability d.is_usable)) stop)) (sym same) stays
