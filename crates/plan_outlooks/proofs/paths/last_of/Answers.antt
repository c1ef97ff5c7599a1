use Rattle.std.proofs.Common.{◌≡◌, sym, ◌∙◌, arith, true≢false, ◌<◌, ◌≤◌, length}
use Rattle.std.specs.FinMap.{entries}
use Rattle.plan_reasons.specs.plan_drafts.proofs.RowPlaces.{row_at}
use Rattle.plan_outlooks.specs.Lent.{IsOfRow}
use Rattle.plan_outlooks.specs.Paths.{EndsAt}
use Rattle.plan_outlooks.proofs.FirstOnes.{first_here, first_nowhere, none_first, none_more}
use Rattle.plan_outlooks.proofs.paths.last_of.Goals as goal

pub loop-place-init : goal.loop-place-init
loop-place-init c = λ F lent. none_first F (λ p. (p.occurrence ≡ c.args.occurrence.now) × EndsAt F c.args.end p)

pub is_end_of-requires : goal.is_end_of-requires
is_end_of-requires c =
    let (F, lent) = c.requires in
    let test = c.loop-place-test.true in
    let size = lent.done_size in
    let within : c.loop-place.place < length (entries F.plan.contents.operations) = omega (arith, test, size) in
    (F, lent, within)

pub returns-then-is_end_of : goal.returns-then-is_end_of
returns-then-is_end_of c = λ F lent.
    let test = c.loop-place-test.true in
    let size = lent.done_size in
    let within : c.loop-place.place < length (entries F.plan.contents.operations) = omega (arith, test, size) in
    let r = row_at (entries F.plan.contents.operations) c.loop-place.place within in
    let there : IsOfRow F c.loop-place.place r.0.0 = (r.0.1, r.1) in
    first_here F (λ p. (p.occurrence ≡ c.args.occurrence.now) × EndsAt F c.args.end p) (λ q so. so.1.0) c.loop-place.place r.0.0 there ((c.is_end_of.ensures F r.0.0 lent there).0 c.if-is_end_of.true) (c.loop-place.invariant F lent)

pub loop-place-preserved : goal.loop-place-preserved
loop-place-preserved c = λ F lent.
    none_more F (λ p. (p.occurrence ≡ c.args.occurrence.now) × EndsAt F c.args.end p) c.loop-place.place (c.loop-place.invariant F lent) (λ q there so. true≢false (sym ((c.is_end_of.ensures F q lent there).1 so) ∙ c.if-is_end_of.false))

pub returns : goal.returns
returns c = λ F lent.
    let past = c.loop-place-test.false in
    let size = lent.done_size in
    let all : length (entries F.plan.contents.operations) ≤ c.loop-place.place = omega (arith, past, size) in
    first_nowhere F (λ p. (p.occurrence ≡ c.args.occurrence.now) × EndsAt F c.args.end p) (λ q so. so.1.0) c.loop-place.place all (c.loop-place.invariant F lent)
