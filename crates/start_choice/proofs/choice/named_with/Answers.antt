use Rattle.std.proofs.Common.{◌+◌, ◌≤◌, length, [], inl, inr, refl, sym, ap, subst, arith}
use Rattle.std.specs.FinMap.{entries}
use Rattle.plan_basics.specs.declared.Refusal.TheVariants.{Memory}
use Rattle.ready_list.specs.Entries.{on_automatic}
use Rattle.plan_model.specs.Holdings.{given_out}
use Rattle.plan_model.specs.Ready.{named}
use Rattle.start_choice.specs.Choices.{AreHeldIn}
use Rattle.start_choice.specs.StartGates.{Counted, counted}
use Rattle.start_choice.proofs.ChoiceSteps.{Stands, chosen_by_gate, counted_by_gate, looks_by_gate, refuses_alone, stands_first}
use Rattle.start_choice.proofs.GivenPlaces.{AreAt}
use Rattle.start_choice.proofs.choice.named_with.Goals as goal
use Rattle.start_choice.proofs.choice.named_with.Goals.{Start, In-Ok}

-- what counts before any is named
abbrev first : Start → Counted
first c = counted c.args.records c.args.at c.args.given.items c.args.holdings.held

stands : (c : Start) → Stands c.args.records.contents c.args.at [] (first c)
stands c = stands_first c.args.records.contents c.args.at (first c) refl refl c.requires.given c.requires.held

-- and once all are named
abbrev last : In-Ok → Counted
last c = c.choose-named.new.gate

counted_then : (c : In-Ok) → Stands c.args.records.contents c.args.at c.in-Ok.named.items (last c)
counted_then c =
    counted_by_gate c.args.records.contents c.args.at c.args.ready.now.entries c.requires.ready (counted c.args.records c.args.at c.args.given.items c.args.holdings.held)
    (stands_first c.args.records.contents c.args.at (counted c.args.records c.args.at c.args.given.items c.args.holdings.held) refl refl c.requires.given c.requires.held)
    c.in-Ok.named.items (last c) c.in-Ok.ensures.named

looks_then : (c : In-Ok) → (c.args.records.looks ≤ (last c).looks) × ((last c).looks ≤ c.args.records.looks + length c.args.ready.now.entries)
looks_then c = looks_by_gate c.args.ready.now.entries (counted c.args.records c.args.at c.args.given.items c.args.holdings.held) (last c) c.in-Ok.named.items c.in-Ok.ensures.named

pub returns-in-Ok-clause-fewest : goal.returns-in-Ok-clause-fewest
returns-in-Ok-clause-fewest c =
    let so = looks_then ((goal.at.returns-in-Ok-clause-fewest c).In-Ok) in
    omega (arith, so.0, ap (λ (g : Counted). g.looks) c.gate.view_is)

pub returns-in-Ok-clause-most : goal.returns-in-Ok-clause-most
returns-in-Ok-clause-most c =
    let so = looks_then ((goal.at.returns-in-Ok-clause-most c).In-Ok) in
    omega (arith, so.1, ap (λ (g : Counted). g.looks) c.gate.view_is)

pub returns-in-Ok-clause-chosen : goal.returns-in-Ok-clause-chosen
returns-in-Ok-clause-chosen c =
    let p = (goal.at.returns-in-Ok-clause-chosen c).Start in
    chosen_by_gate c.args.records.contents c.args.at c.args.ready.now.entries c.requires.ready (first p) (stands p) c.in-Ok.named.items c.choose-named.new.gate c.in-Ok.ensures.named

pub returns-in-Ok-clause-given : goal.returns-in-Ok-clause-given
returns-in-Ok-clause-given c =
    let so = counted_then ((goal.at.returns-in-Ok-clause-given c).In-Ok) in
    subst (λ (g : Counted). AreAt (entries c.args.records.contents.workstations) g.given (given_out (named c.in-Ok.named.items c.args.records.contents))) (sym c.gate.view_is) so.given

pub returns-in-Ok-clause-held : goal.returns-in-Ok-clause-held
returns-in-Ok-clause-held c =
    let so = counted_then ((goal.at.returns-in-Ok-clause-held c).In-Ok) in
    subst (λ (g : Counted). AreHeldIn (named c.in-Ok.named.items c.args.records.contents) g.held) (sym c.gate.view_is) so.holders

pub returns-in-Err-clause-refused : goal.returns-in-Err-clause-refused
returns-in-Err-clause-refused c =
    let p = (goal.at.returns-in-Err-clause-refused c).Start in
    elim c.in-Err.ensures.refused [
      | inl is ↦ is
      | inr in_turn ↦ refuses_alone Memory c.in-Err.refusal (on_automatic c.args.ready.now.entries) (first p) in_turn
    ]
