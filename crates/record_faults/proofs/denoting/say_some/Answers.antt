use Rattle.std.proofs.Common.{◌≡◌, ◌↔◌, sym, subst, true≢false, Some, None, IfOk, IsTrue, All}
use Rattle.std.specs.Prelude.{slice_get}
use Rattle.plan_items.specs.Items.{IsItem}
use Rattle.plan_denotation.proofs.Denoting.{items_legal}
use Rattle.record_faults.specs.Plans.{MakeSome}
use Rattle.record_faults.specs.Sayings.{Sayings, AreSayings}
use Rattle.record_faults.proofs.Denoted.{said_all, no_gap, say_of_items}
use Rattle.record_faults.proofs.denoting.say_some.Goals as goal

pub returns-in_default : goal.returns-in_default
returns-in_default c =
    let gap = rw c.in_default.is at c.in_ok-items.ensures in (
      λ e. absurd (true≢false (sym e)),
      λ s. absurd (no_gap s.0 gap.0 (subst (λ (z : Sayings). slice_get z gap.0 ≡ Some None) s.1 gap.1)),
    )

pub items_make_some-requires : goal.items_make_some-requires
items_make_some-requires c =
    let all = rw c.in-Some.is at c.in_ok-items.ensures in
    let said = said_all c.requires.0 c.in-Some.items.items (subst (AreSayings c.requires.0) all c.requires.1) in
    subst (All IsItem) (sym c.deref.ensures.value) (items_legal c.requires.0 c.in-Some.items.items said)

pub returns : goal.returns
returns c =
    let all = rw c.in-Some.is at c.in_ok-items.ensures in
    say_of_items c.args.said.now c.in-Some.items.items all c.items_make_some.result (subst (λ z. IfOk c.items_make_some.result (λ told. IsTrue told ↔ MakeSome z)) c.deref.ensures.value c.items_make_some.ensures)
