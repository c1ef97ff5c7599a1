use Rattle.std.proofs.Common.{◌≡◌, ◌⊎◌, rules, ap, sym, subst, ◌∙◌, true, IsTrue, None, Some}
use Rattle.std.specs.FinMap.{get}
use Rattle.sqlite.specs.Held.{state}
use Rattle.sqlite.specs.State.{Survives}
use Rattle.desk_tables.specs.Steps.{IfAgain, IfNew, IsNumberedStepFor}
use Rattle.plan_basics.specs.declared.Refusal.TheVariants as refusal
use Rattle.plan_core.specs.Provided.{StartsAreProvided}
use Rattle.plan_core.specs.State.{PlanState, plan_after}
use Rattle.tracker_receipts.specs.plan_laws.proofs.Receipts.{answer_keeps_receipts}
use Rattle.plan_records.specs.Answer.{accepted, answer_of, refused}
use Rattle.plan_records.specs.Run.{Answers, CallStep, numbered}
use Rattle.plan_records.specs.Schedules.{IsDeskState, stop, stopped}
use Rattle.plan_records.specs.Step.{AnswersAgain}
use Rattle.desk_tables.specs.Calls.{change_of, state_after}
use Rattle.desk_tables.specs.Desk.{DeskState, HasTables, IsCarriedOut, IsKept, state_of, usability}
use Rattle.desk_tables.specs.Stops.{AreLeftBy, StopsLeave}
use Rattle.desk_tables.specs.declared.calls.PreparedCall.TheVariants.{Numbered}
use Rattle.desk_tables.proofs.Answered.{again_answers, carried_answers, carried_starts, never_again, none_starts, not_prepared}
use Rattle.desk_tables.proofs.Held.{numbered_step, prepared_carries, step_survives}
use Rattle.desk_tables.proofs.Stopped.{desk_stands, none_stops, step_stops}
use Rattle.plan_writes.specs.Within.{LeavesMade, Rewrites}
use Rattle.tracker_receipts.specs.Judging.{numbered_by}
use Rattle.desk_tables.proofs.desk.Desk.call_numbered.Goals as goal

pub returns-in-Ok-Again-clause-answers : goal.returns-in-Ok-Again-clause-answers
returns-in-Ok-Again-clause-answers g c =
    let old = c.args.self.now in
    let n = numbered_by c.args.tracker.now c.args.number c.args.text.now c.args.request.now in
    let named = c.in-Ok-Again.named.items in
    let same = ap (λ (s : PlanState). (let d : DeskState _ = record { plan = s.plan; receipts = c.self.inside.receipts; is_usable = c.self.inside.is_usable; conn = c.self.inside.conn } in d)) c.prepare_numbered.ensures.unchanged ∙ c.self.view_is in
    let usable : c.self.inside.is_usable ≡ true = search rules in
    let was : old.is_usable ≡ true = sym (ap (λ (d : DeskState _). d.is_usable) c.self.view_is) ∙ usable in
    let told : AnswersAgain (get c.self.inside.receipts n.tracker) n (accepted named) = subst (IfAgain (λ keys. AnswersAgain (get c.self.inside.receipts n.tracker) n (accepted keys))) c.in-Ok-Again.field-0-is c.in-Ok-Again.ensures.again in
    let again = subst (λ (d : DeskState _). AnswersAgain (get d.receipts n.tracker) n (accepted named)) c.self.view_is told in
    subst (λ (d : DeskState _). Answers (state_of old) (usability old.is_usable) (numbered n) (accepted named) (state_of d) (usability d.is_usable)) (sym same) (again_answers (state_of old) n old.is_usable named was again)

pub returns-in-Ok-Again-clause-starts : goal.returns-in-Ok-Again-clause-starts
returns-in-Ok-Again-clause-starts g c =
    none_starts c.args.self.now.plan c.prepare_numbered.new.plan.plan c.args.request.now (accepted c.in-Ok-Again.named.items)
    (ap (λ (s : PlanState). s.plan) c.prepare_numbered.ensures.unchanged ∙ ap (λ (d : DeskState _). d.plan) c.self.view_is)

pub carry_out-requires-clause-prepared : goal.carry_out-requires-clause-prepared
carry_out-requires-clause-prepared g c =
    let n = numbered_by c.args.tracker.now c.args.number c.args.text.now c.args.request.now in
    let p = c.in-Ok-New.step in
    let told : IsNumberedStepFor c.self.inside.plan c.self.inside.receipts n p = subst (IfNew (IsNumberedStepFor c.self.inside.plan c.self.inside.receipts n)) c.in-Ok-New.field-0-is c.in-Ok-New.ensures.new in
    (n, subst (λ (s : PlanState). IsNumberedStepFor s c.self.inside.receipts n p) (sym c.prepare_numbered.ensures.unchanged) told)

pub returns-in-Ok-New-clause-answers : goal.returns-in-Ok-New-clause-answers
returns-in-Ok-New-clause-answers g c =
    let old = c.args.self.now in
    let new = c.carry_out.new.self in
    let n = numbered_by c.args.tracker.now c.args.number c.args.text.now c.args.request.now in
    let p = c.in-Ok-New.step in
    let x = answer_of c.carry_out.result in
    let same = ap (λ (s : PlanState). (let d : DeskState _ = record { plan = s.plan; receipts = c.self.inside.receipts; is_usable = c.self.inside.is_usable; conn = c.self.inside.conn } in d)) c.prepare_numbered.ensures.unchanged ∙ c.self.view_is in
    let usable : c.self.inside.is_usable ≡ true = search rules in
    let was : old.is_usable ≡ true = sym (ap (λ (d : DeskState _). d.is_usable) c.self.view_is) ∙ usable in
    let told : IsNumberedStepFor c.self.inside.plan c.self.inside.receipts n p = subst (IfNew (IsNumberedStepFor c.self.inside.plan c.self.inside.receipts n)) c.in-Ok-New.field-0-is c.in-Ok-New.ensures.new in
    let is = subst (λ (d : DeskState _). IsNumberedStepFor (record { plan = d.plan }) d.receipts n p) c.self.view_is told in
    let reply = subst (λ (d : DeskState _). IsCarriedOut d p.prepared.named (state_after (state_of d) (Numbered p)) x new) same c.carry_out.ensures.reply in
    carried_answers old new (numbered n) p.prepared.named (state_after (state_of old) (Numbered p)) was (numbered_step (state_of old) n p is) x reply

pub returns-in-Ok-New-clause-sound : goal.returns-in-Ok-New-clause-sound
returns-in-Ok-New-clause-sound g c =
    let old = c.args.self.now in
    let new = c.carry_out.new.self in
    let n = numbered_by c.args.tracker.now c.args.number c.args.text.now c.args.request.now in
    let legal = subst (λ (d : DeskState _). IsDeskState (state_of d)) c.self.view_is c.self.invariant.legal in
    answer_keeps_receipts (state_of old) (state_of new) (usability old.is_usable) (usability new.is_usable) (numbered n) (answer_of c.carry_out.result) legal (returns-in-Ok-New-clause-answers g c)

pub returns-in-Ok-New-clause-starts : goal.returns-in-Ok-New-clause-starts
returns-in-Ok-New-clause-starts g c =
    let old = c.args.self.now in
    let new = c.carry_out.new.self in
    let n = numbered_by c.args.tracker.now c.args.number c.args.text.now c.args.request.now in
    let p = c.in-Ok-New.step in
    let x = answer_of c.carry_out.result in
    let same = ap (λ (s : PlanState). (let d : DeskState _ = record { plan = s.plan; receipts = c.self.inside.receipts; is_usable = c.self.inside.is_usable; conn = c.self.inside.conn } in d)) c.prepare_numbered.ensures.unchanged ∙ c.self.view_is in
    let usable : c.self.inside.is_usable ≡ true = search rules in
    let was : old.is_usable ≡ true = sym (ap (λ (d : DeskState _). d.is_usable) c.self.view_is) ∙ usable in
    let told : IsNumberedStepFor c.self.inside.plan c.self.inside.receipts n p = subst (IfNew (IsNumberedStepFor c.self.inside.plan c.self.inside.receipts n)) c.in-Ok-New.field-0-is c.in-Ok-New.ensures.new in
    let is = subst (λ (d : DeskState _). IsNumberedStepFor (record { plan = d.plan }) d.receipts n p) c.self.view_is told in
    let reply = subst (λ (d : DeskState _). IsCarriedOut d p.prepared.named (state_after (state_of d) (Numbered p)) x new) same c.carry_out.ensures.reply in
    let q = c.args.request.now in
    let provided : StartsAreProvided c.self.inside.plan.plan q (accepted p.prepared.named) (plan_after c.self.inside.plan p.prepared) = subst (IfNew (λ r. StartsAreProvided c.self.inside.plan.plan q (accepted r.prepared.named) (plan_after c.self.inside.plan r.prepared))) c.in-Ok-New.field-0-is c.in-Ok-New.ensures.starts in
    let starts = subst (λ (d : DeskState _). StartsAreProvided d.plan q (accepted p.prepared.named) (plan_after (record { plan = d.plan }) p.prepared)) c.self.view_is provided in
    carried_starts old new (numbered n) p.prepared.named (state_after (state_of old) (Numbered p)) was (numbered_step (state_of old) n p is) q x reply starts

pub returns-in-Ok-New-clause-again : goal.returns-in-Ok-New-clause-again
returns-in-Ok-New-clause-again g c again =
    let old = c.args.self.now in
    let n = numbered_by c.args.tracker.now c.args.number c.args.text.now c.args.request.now in
    let p = c.in-Ok-New.step in
    let told : IsNumberedStepFor c.self.inside.plan c.self.inside.receipts n p = subst (IfNew (IsNumberedStepFor c.self.inside.plan c.self.inside.receipts n)) c.in-Ok-New.field-0-is c.in-Ok-New.ensures.new in
    let is = subst (λ (d : DeskState _). IsNumberedStepFor (record { plan = d.plan }) d.receipts n p) c.self.view_is told in
    absurd (never_again (get old.receipts n.tracker) n (answer_of c.carry_out.result) is.step.0 again)

pub returns-in-Ok-New-clause-tables : goal.returns-in-Ok-New-clause-tables
returns-in-Ok-New-clause-tables g c clean was told has = c.carry_out.ensures.tables clean told (subst (λ (d : DeskState _). HasTables (state g.S.Store d.conn)) (sym c.self.view_is) has)

pub returns-in-Ok-New-clause-survives : goal.returns-in-Ok-New-clause-survives
returns-in-Ok-New-clause-survives g c =
    let old = c.args.self.now in
    let new = c.carry_out.new.self in
    let n = numbered_by c.args.tracker.now c.args.number c.args.text.now c.args.request.now in
    let p = c.in-Ok-New.step in
    let Makes = Rewrites (change_of (Numbered p)) in
    let kept = subst (IsKept g.S.Store) c.self.view_is c.self.invariant in
    let told : IsNumberedStepFor c.self.inside.plan c.self.inside.receipts n p = subst (IfNew (IsNumberedStepFor c.self.inside.plan c.self.inside.receipts n)) c.in-Ok-New.field-0-is c.in-Ok-New.ensures.new in
    let is = subst (λ (d : DeskState _). IsNumberedStepFor (record { plan = d.plan }) d.receipts n p) c.self.view_is told in
    let carries = prepared_carries (state_of old) (Numbered p) kept.legal.0 (n, is) in
    let stops = subst (λ (d : DeskState _). Survives (state g.S.Store d.conn) (state g.S.Store new.conn) (LeavesMade Makes (state g.S.Store d.conn))) c.self.view_is c.carry_out.ensures.survives in
    step_survives (state_of old) (state_after (state_of old) (Numbered p)) (change_of (Numbered p)) carries (state g.S.Store old.conn) (numbered n) p.prepared.named (numbered_step (state_of old) n p is) (state g.S.Store new.conn)
    (λ clean is_open has. kept.tables (clean, is_open) has) stops

pub returns-in-Ok-New-clause-stops : goal.returns-in-Ok-New-clause-stops
returns-in-Ok-New-clause-stops g c is_open has =
    let old = c.args.self.now in
    let n = numbered_by c.args.tracker.now c.args.number c.args.text.now c.args.request.now in
    let kept = subst (IsKept g.S.Store) c.self.view_is c.self.invariant in
    let usable : c.self.inside.is_usable ≡ true = search rules in
    let was : old.is_usable ≡ true = sym (ap (λ (d : DeskState _). d.is_usable) c.self.view_is) ∙ usable in
    step_stops (state g.S.Store old.conn) (λ trees may. g.met.S.Store.settled old.conn.store trees is_open may) (state_of old) (λ clean. kept.tables (clean, is_open) has)
    (state g.S.Store c.carry_out.new.self.conn) is_open has old.is_usable (numbered n) was (returns-in-Ok-New-clause-survives g c)

pub returns-in-Err-clause-answers : goal.returns-in-Err-clause-answers
returns-in-Err-clause-answers g c =
    let old = c.args.self.now in
    let n = numbered_by c.args.tracker.now c.args.number c.args.text.now c.args.request.now in
    let r = c.in-Err.refusal in
    let same = ap (λ (s : PlanState). (let d : DeskState _ = record { plan = s.plan; receipts = c.self.inside.receipts; is_usable = c.self.inside.is_usable; conn = c.self.inside.conn } in d)) c.prepare_numbered.ensures.unchanged ∙ c.self.view_is in
    let usable : c.self.inside.is_usable ≡ true = search rules in
    let was : old.is_usable ≡ true = sym (ap (λ (d : DeskState _). d.is_usable) c.self.view_is) ∙ usable in
    let why = subst (λ (d : DeskState _). (r ≡ refusal.Memory) ⊎ CallStep (state_of d) (numbered n) (refused r) (state_of d)) c.self.view_is c.in-Err.ensures.refused in
    subst (λ (d : DeskState _). Answers (state_of old) (usability old.is_usable) (numbered n) (refused r) (state_of d) (usability d.is_usable)) (sym same) (not_prepared (state_of old) (numbered n) old.is_usable r was why)

pub returns-in-Err-clause-starts : goal.returns-in-Err-clause-starts
returns-in-Err-clause-starts g c =
    none_starts c.args.self.now.plan c.prepare_numbered.new.plan.plan c.args.request.now (refused c.in-Err.refusal)
    (ap (λ (s : PlanState). s.plan) c.prepare_numbered.ensures.unchanged ∙ ap (λ (d : DeskState _). d.plan) c.self.view_is)

pub returns-then-not-self-clause-stops : goal.returns-then-not-self-clause-stops
returns-then-not-self-clause-stops g c is_open has =
    let old = c.args.self.now in
    let kept = subst (IsKept g.S.Store) c.self.view_is c.self.invariant in
    none_stops (state g.S.Store old.conn) (λ trees may. g.met.S.Store.settled old.conn.store trees is_open may) (state_of old) (λ clean. kept.tables (clean, is_open) has) (usability old.is_usable) (numbered (numbered_by c.args.tracker.now c.args.number c.args.text.now c.args.request.now))

pub returns-in-Ok-Again-clause-stops : goal.returns-in-Ok-Again-clause-stops
returns-in-Ok-Again-clause-stops g c is_open has =
    let old = c.args.self.now in
    let call = numbered (numbered_by c.args.tracker.now c.args.number c.args.text.now c.args.request.now) in
    let kept = subst (IsKept g.S.Store) c.self.view_is c.self.invariant in
    let same = ap (λ (s : PlanState). (let d : DeskState _ = record { plan = s.plan; receipts = c.self.inside.receipts; is_usable = c.self.inside.is_usable; conn = c.self.inside.conn } in d)) c.prepare_numbered.ensures.unchanged ∙ c.self.view_is in
    let stays = none_stops (state g.S.Store old.conn) (λ trees may. g.met.S.Store.settled old.conn.store trees is_open may) (state_of old) (λ clean. kept.tables (clean, is_open) has) (usability old.is_usable) call in
    subst (λ (d : DeskState _). StopsLeave (state g.S.Store d.conn) (AreLeftBy (state_of old) (Some (usability old.is_usable)) (stopped call None))) (sym same) stays

pub returns-in-Err-clause-stops : goal.returns-in-Err-clause-stops
returns-in-Err-clause-stops g c is_open has =
    let old = c.args.self.now in
    let call = numbered (numbered_by c.args.tracker.now c.args.number c.args.text.now c.args.request.now) in
    let kept = subst (IsKept g.S.Store) c.self.view_is c.self.invariant in
    let same = ap (λ (s : PlanState). (let d : DeskState _ = record { plan = s.plan; receipts = c.self.inside.receipts; is_usable = c.self.inside.is_usable; conn = c.self.inside.conn } in d)) c.prepare_numbered.ensures.unchanged ∙ c.self.view_is in
    let stays = none_stops (state g.S.Store old.conn) (λ trees may. g.met.S.Store.settled old.conn.store trees is_open may) (state_of old) (λ clean. kept.tables (clean, is_open) has) (usability old.is_usable) call in
    subst (λ (d : DeskState _). StopsLeave (state g.S.Store d.conn) (AreLeftBy (state_of old) (Some (usability old.is_usable)) (stopped call None))) (sym same) stays

-- ---- a stop after it

pub returns-in-Ok-New-clause-stops_after : goal.returns-in-Ok-New-clause-stops_after
returns-in-Ok-New-clause-stops_after g c =
    let new = c.carry_out.new.self in
    desk_stands (state g.S.Store new.conn) (λ is_open trees may. g.met.S.Store.settled new.conn.store trees is_open may) (state_of new) (Some (usability new.is_usable)) c.carry_out.ensures.holds

pub returns-then-not-self-clause-stops_after : goal.returns-then-not-self-clause-stops_after
returns-then-not-self-clause-stops_after g c =
    let old = c.args.self.now in
    let kept = subst (IsKept g.S.Store) c.self.view_is c.self.invariant in
    desk_stands (state g.S.Store old.conn) (λ is_open trees may. g.met.S.Store.settled old.conn.store trees is_open may) (state_of old) (Some (usability old.is_usable)) kept.tables

pub returns-in-Ok-Again-clause-stops_after : goal.returns-in-Ok-Again-clause-stops_after
returns-in-Ok-Again-clause-stops_after g c =
    let old = c.args.self.now in
    let kept = subst (IsKept g.S.Store) c.self.view_is c.self.invariant in
    let same = ap (λ (s : PlanState). (let d : DeskState _ = record { plan = s.plan; receipts = c.self.inside.receipts; is_usable = c.self.inside.is_usable; conn = c.self.inside.conn } in d)) c.prepare_numbered.ensures.unchanged ∙ c.self.view_is in
    let stays = desk_stands (state g.S.Store old.conn) (λ is_open trees may. g.met.S.Store.settled old.conn.store trees is_open may) (state_of old) (Some (usability old.is_usable)) kept.tables in
    subst (λ (d : DeskState _). IsTrue (state g.S.Store d.conn).is_open → HasTables (state g.S.Store d.conn) → StopsLeave (state g.S.Store d.conn) (AreLeftBy (state_of d) (Some (usability d.is_usable)) stop)) (sym same) stays

pub returns-in-Err-clause-stops_after : goal.returns-in-Err-clause-stops_after
returns-in-Err-clause-stops_after g c =
    let old = c.args.self.now in
    let kept = subst (IsKept g.S.Store) c.self.view_is c.self.invariant in
    let same = ap (λ (s : PlanState). (let d : DeskState _ = record { plan = s.plan; receipts = c.self.inside.receipts; is_usable = c.self.inside.is_usable; conn = c.self.inside.conn } in d)) c.prepare_numbered.ensures.unchanged ∙ c.self.view_is in
    let stays = desk_stands (state g.S.Store old.conn) (λ is_open trees may. g.met.S.Store.settled old.conn.store trees is_open may) (state_of old) (Some (usability old.is_usable)) kept.tables in
    subst (λ (d : DeskState _). IsTrue (state g.S.Store d.conn).is_open → HasTables (state g.S.Store d.conn) → StopsLeave (state g.S.Store d.conn) (AreLeftBy (state_of d) (Some (usability d.is_usable)) stop)) (sym same) stays
