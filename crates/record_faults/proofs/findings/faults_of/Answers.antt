use Rattle.std.proofs.Common.{◌≡◌, ◌≢◌, ◌↔◌, ◌≤◌, sym, subst, arith, [], List, All, Contains}
use Rattle.std.specs.List.{AllPairs}
use Rattle.record_faults.specs.declared.faults.RecordFault.{RecordFault}
use Rattle.record_faults.specs.Sayings.{texts_of}
use Rattle.record_faults.specs.Faults.{IsFault, DenoteSome}
use Rattle.record_faults.specs.Plans.{SaySome}
use Rattle.record_faults.proofs.Denoted.{say_denoted}
use Rattle.record_faults.proofs.Finding.{none_of_plan, are_faults, each_is_told, some_fault, never, alone_faults, alone_each, alone_none, empty_told, some_told, no_plan_told}
use Rattle.record_faults.proofs.Once.{alone_in_pairs}
use Rattle.record_faults.proofs.findings.faults_of.Goals as goal

pub returns-then-branch-clause-each : goal.returns-then-branch-clause-each
returns-then-branch-clause-each c = λ f h. absurd (none_of_plan (texts_of c.args.records.now) c.in_ok-said.said.items c.in_ok-said.ensures (subst SaySome c.deref.ensures.value (c.in_ok-say_some.ensures.0 c.if-branch.true)) f h)

pub returns-then-branch-clause-none : goal.returns-then-branch-clause-none
returns-then-branch-clause-none c = (
  λ e. (say_denoted (texts_of c.args.records.now) c.in_ok-said.said.items c.in_ok-said.ensures).0 (subst SaySome c.deref.ensures.value (c.in_ok-say_some.ensures.0 c.if-branch.true)),
  λ denoted. c.new.ensures.items,
)

pub returning-requires-clause-faultless : goal.returning-requires-clause-faultless
returning-requires-clause-faultless c =
    let is = c.in_ok-reading.ensures (texts_of c.args.records.now) c.in_ok-said.ensures in
    never (texts_of c.args.records.now) c.in_ok-reading.reading is c.in_ok-faults.faults.items c.in_ok-faults.ensures (empty_told c.in_ok-faults.faults.items c.in_ok-faults.faults.len (omega (arith, c.in_ok-faults.faults.ok.0)) c.if-is_empty.ensures)

pub returning-requires-clause-no_plan : goal.returning-requires-clause-no_plan
returning-requires-clause-no_plan c = no_plan_told (texts_of c.args.records.now) c.in_ok-said.said.items c.deref.result.now c.in_ok-say_some.field-0 c.in_ok-said.ensures c.deref.ensures.value c.in_ok-say_some.ensures c.if-branch.false

pub returns-then-is_empty-clause-faults : goal.returns-then-is_empty-clause-faults
returns-then-is_empty-clause-faults c =
    let is = c.in_ok-reading.ensures (texts_of c.args.records.now) c.in_ok-said.ensures in
    let alone = alone_faults (texts_of c.args.records.now) c.in_ok-reading.reading is c.in_ok-faults.faults.items c.in_ok-faults.ensures (empty_told c.in_ok-faults.faults.items c.in_ok-faults.faults.len (omega (arith, c.in_ok-faults.faults.ok.0)) c.if-is_empty.ensures) c.in_ok-fault.fault c.in_ok-fault.ensures in
    subst (All (λ (f : RecordFault). IsFault (texts_of c.args.records.now) f.place f.fault)) (sym c.in_ok-alone.ensures.items) alone

pub returns-then-is_empty-clause-each : goal.returns-then-is_empty-clause-each
returns-then-is_empty-clause-each c = λ f h.
    let is = c.in_ok-reading.ensures (texts_of c.args.records.now) c.in_ok-said.ensures in
    subst (λ xs. Contains xs f) (sym c.in_ok-alone.ensures.items)
    (alone_each (texts_of c.args.records.now) c.in_ok-reading.reading is c.in_ok-faults.faults.items c.in_ok-faults.ensures (empty_told c.in_ok-faults.faults.items c.in_ok-faults.faults.len (omega (arith, c.in_ok-faults.faults.ok.0)) c.if-is_empty.ensures) c.in_ok-fault.fault f h)

pub returns-then-is_empty-clause-none : goal.returns-then-is_empty-clause-none
returns-then-is_empty-clause-none c =
    subst (λ (xs : List RecordFault). (xs ≡ []) ↔ DenoteSome (texts_of c.args.records.now)) (sym c.in_ok-alone.ensures.items)
    (alone_none (texts_of c.args.records.now) c.in_ok-fault.fault (no_plan_told (texts_of c.args.records.now) c.in_ok-said.said.items c.deref.result.now c.in_ok-say_some.field-0 c.in_ok-said.ensures c.deref.ensures.value c.in_ok-say_some.ensures c.if-branch.false))

pub returns-then-is_empty-clause-in_order : goal.returns-then-is_empty-clause-in_order
returns-then-is_empty-clause-in_order c = subst (AllPairs (λ (a b : RecordFault). a.place ≤ b.place)) (sym c.in_ok-alone.ensures.items) (alone_in_pairs (λ (a b : RecordFault). a.place ≤ b.place) c.in_ok-fault.fault)

pub returns-then-is_empty-clause-once : goal.returns-then-is_empty-clause-once
returns-then-is_empty-clause-once c = subst (AllPairs (λ (a b : RecordFault). a ≢ b)) (sym c.in_ok-alone.ensures.items) (alone_in_pairs (λ (a b : RecordFault). a ≢ b) c.in_ok-fault.fault)

pub returns-clause-faults : goal.returns-clause-faults
returns-clause-faults c = are_faults (texts_of c.args.records.now) c.in_ok-reading.reading (c.in_ok-reading.ensures (texts_of c.args.records.now) c.in_ok-said.ensures) c.in_ok-faults.faults.items c.in_ok-faults.ensures

pub returns-clause-each : goal.returns-clause-each
returns-clause-each c = each_is_told (texts_of c.args.records.now) c.in_ok-reading.reading (c.in_ok-reading.ensures (texts_of c.args.records.now) c.in_ok-said.ensures) c.in_ok-faults.faults.items c.in_ok-faults.ensures

pub returns-clause-none : goal.returns-clause-none
returns-clause-none c =
    let is = c.in_ok-reading.ensures (texts_of c.args.records.now) c.in_ok-said.ensures in
    let some = some_told c.in_ok-faults.faults.items c.in_ok-faults.faults.len (omega (arith, c.in_ok-faults.faults.ok.0)) c.if-is_empty.ensures in
    (λ e. absurd (some e), λ denoted. absurd (some_fault (texts_of c.args.records.now) c.in_ok-reading.reading is c.in_ok-faults.faults.items c.in_ok-faults.ensures some denoted))

pub returns-clause-in_order : goal.returns-clause-in_order
returns-clause-in_order c = c.in_ok-faults.ensures.in_order

pub returns-clause-once : goal.returns-clause-once
returns-clause-once c = c.in_ok-faults.ensures.once
