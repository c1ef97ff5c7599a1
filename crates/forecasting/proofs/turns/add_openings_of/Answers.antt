use Rattle.std.proofs.Common.{◌≡◌, sym, ◌∙◌, ap, arith, ℕ, map, Some, nat_cmp, slice_get}
use Rattle.std.proofs.lemmas.Option.{same_Some, slice_get-get_or, slice_get_within}
use Rattle.std.specs.Cmp.{nat_cmp_total}
use Rattle.std.specs.FinMap.{get}
use Rattle.plan_basics.proofs.Members.{at_place, mapped_contains, place_of}
use Rattle.plan_basics.specs.Intervals.{OpenInterval}
use Rattle.plan_records.specs.plan_drafts.proofs.RowPlaces.{place_of_found}
use Rattle.forecasting.proofs.Adding.{adds_first, adds_next, adds_weaker, minutes_alike}
use Rattle.forecasting.proofs.turns.add_openings_of.Goals as goal

abbrev is_so : OpenInterval → ℕ → Type 0
is_so x k = x.from ≡ k

abbrev keyed : OpenInterval → ℕ × OpenInterval
keyed x = (x.from, x)

pub loop-interval-init : goal.loop-interval-init
loop-interval-init c = adds_first c.args.from c.args.until c.intervals-intervals.result.now is_so c.args.turns.now.items

pub loop-interval-preserved : goal.loop-interval-preserved
loop-interval-preserved c =
    let rows = c.intervals-intervals.result.now in
    let i = c.loop-interval.interval-index in
    let row = c.interval-item.result in
    let at : slice_get rows i ≡ Some row = slice_get-get_or rows i row c.loop-interval-test.true ∙ ap Some (sym c.interval-item.is) in
    adds_next c.args.from c.args.until rows is_so i c.args.turns.now.items c.loop-interval.turns.items c.add.new.turns.items (λ k. k ≡ c.from.result)
    (λ y k there low high is. sym is ∙ ap (λ (z : OpenInterval). z.from) (same_Some y row (sym there ∙ at)) ∙ sym c.from.ensures.value) c.loop-interval.invariant c.in_ok-add.ensures

pub returns : goal.returns
returns c =
    let rows = c.intervals-intervals.result.now in
    adds_weaker c.args.from c.args.until rows is_so _ c.loop-interval.interval-index c.args.turns.now.items c.loop-interval.turns.items
    (λ k low high h.
    let there = place_of_found nat_cmp nat_cmp_total minutes_alike (map keyed rows) k h.0 (ap (λ m. get m k) (sym c.intervals-intervals.ensures.intervals) ∙ h.1) in
    let one = mapped_contains keyed rows (k, h.0) (at_place (map keyed rows) there.0 (k, h.0) there.1) in
    let at = place_of rows one.0 one.2 in
    (at.0, one.0, (let past = c.loop-interval-test.false in let less = slice_get_within rows at.0 one.0 at.1 in omega (arith, past, less)), at.1, ap (λ (p : ℕ × OpenInterval). p.0) one.1))
    c.loop-interval.invariant
