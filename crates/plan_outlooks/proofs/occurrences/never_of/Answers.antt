use Rattle.std.proofs.Common.{sym, ◌∙◌, subst, arith, ◌+◌, ◌<◌, length, true≢false}
use Rattle.std.specs.FinMap.{entries}
use Rattle.plan_outlooks.proofs.Counting.{CountUpTo, all_counted, counted, none_counted, not_counted}
use Rattle.plan_outlooks.proofs.occurrences.never_of.Goals as goal
use Rattle.plan_outlooks.proofs.occurrences.never_of.Goals.{else-stays_out, then-stays_out}

pub loop-place-init : goal.loop-place-init
loop-place-init c = (omega arith, omega arith, (λ F k lent are. none_counted F k c.args.first c.args.end are))

pub returns : goal.returns
returns c = λ F k lent are. let past = c.loop-place-test.false in all_counted F k c.args.first c.args.end are c.loop-place.place c.loop-place.count (omega (arith, past)) (c.loop-place.invariant.2 F k lent are)

pub stays_out-requires : goal.stays_out-requires
stays_out-requires c =
    let (F, k, lent, are) = c.requires in
    let test = c.loop-place-test.true in
    let bound = are.within in
    let within : c.loop-place.place < length (entries F.plan.contents.operations) = omega (arith, test, bound) in
    (F, lent, within)

pub loop-place-preserved : goal.loop-place-preserved
loop-place-preserved c =
    let i = c.loop-place.place in
    let count = c.loop-place.count in
    let from = c.loop-place.invariant.0 in
    let few = c.loop-place.invariant.1 in
    let test = c.loop-place-test.true in
    elim c.if-stays_out.branch [
      | then-stays_out w ↦
          let more = w.count-is in (
            omega (arith, from),
            omega (arith, few, more),
            (λ F k lent are.
                subst (CountUpTo F k (i + 1)) (sym more)
                (counted F k c.args.first c.args.end are i count from test (c.loop-place.invariant.2 F k lent are) (λ o at. (c.stays_out.ensures F o lent at).0 w.if-stays_out.true))),
          )
      | else-stays_out w ↦
          let same = w.count-is in (
            omega (arith, from),
            omega (arith, few, same),
            (λ F k lent are.
                subst (CountUpTo F k (i + 1)) (sym same)
                (not_counted F k c.args.first c.args.end are i count from test (c.loop-place.invariant.2 F k lent are) (λ o at never. true≢false (sym ((c.stays_out.ensures F o lent at).1 never) ∙ w.if-stays_out.false)))),
          )
    ]
