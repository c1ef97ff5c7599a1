use Rattle.std.proofs.Common.{◌<◌, refl, sym, subst, ◌∙◌, true≢false, get_or, None}
use Rattle.plan_items.specs.declared.Item.TheVariants as item
use Rattle.record_faults.proofs.Overlapping.{places_to}
use Rattle.record_faults.proofs.Warned.{IsLeftOf, says_of, left_all, left_after, fewer_places, place_within, read_as, held_by, never_held, false_is}
use Rattle.record_faults.proofs.warnings.is_held.Goals as goal

pub loop-next-init : goal.loop-next-init
loop-next-init c = left_all c.args.openings.now.said.items c.args.operation.now c.args.last c.requires.last

pub returns-then-holds : goal.returns-then-holds
returns-then-holds c =
    let said = c.args.openings.now.said.items in
    let o = c.args.operation.now in
    let says = says_of said c.in-Some.place c.item_at-here.result (rw c.deref.ensures.value at c.item_at-here.ensures) in
    let h = c.holds.ensures.0 c.if-holds.true in
    (λ _. held_by said o c.in-Some.place (h.0, (says (item.Interval o.workstation h.0)).0 h.1, h.2), λ _. refl)

pub loop-next-smaller : goal.loop-next-smaller
loop-next-smaller c =
    let said = c.args.openings.now.said.items in
    let o = c.args.operation.now in
    let earlier = c.args.openings.now.earlier.items in
    let left = subst (IsLeftOf said o) c.in-Some.is c.loop-next.invariant in
    let within = subst (λ n. c.in-Some.place < n) (sym c.requires.openings.size) (place_within said o c.in-Some.place left) in
    let is = read_as earlier c.in-Some.place c.index-next.result.now None within c.index-next.ensures in
    let fewer = fewer_places said o earlier c.in-Some.place c.requires.openings.earlier left in
    subst (λ n. places_to n < places_to c.loop-next.next) (sym is) (subst (λ p. places_to (get_or earlier c.in-Some.place None) < places_to p) (sym c.in-Some.is) fewer)

pub loop-next-preserved : goal.loop-next-preserved
loop-next-preserved c =
    let said = c.args.openings.now.said.items in
    let o = c.args.operation.now in
    let earlier = c.args.openings.now.earlier.items in
    let left = subst (IsLeftOf said o) c.in-Some.is c.loop-next.invariant in
    let within = subst (λ n. c.in-Some.place < n) (sym c.requires.openings.size) (place_within said o c.in-Some.place left) in
    let is = read_as earlier c.in-Some.place c.index-next.result.now None within c.index-next.ensures in
    let says = says_of said c.in-Some.place c.item_at-here.result (rw c.deref.ensures.value at c.item_at-here.ensures) in
    subst (IsLeftOf said o) (sym is)
    (left_after said o earlier c.in-Some.place c.requires.openings.earlier left (λ h. true≢false (sym (c.holds.ensures.1 (h.0, (says (item.Interval o.workstation h.0)).1 h.1, h.2)) ∙ c.if-holds.false)))

pub returns : goal.returns
returns c = false_is (never_held c.args.openings.now.said.items c.args.operation.now (subst (IsLeftOf c.args.openings.now.said.items c.args.operation.now) c.in_default.is c.loop-next.invariant))
