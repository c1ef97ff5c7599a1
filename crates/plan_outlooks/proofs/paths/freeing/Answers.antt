use Rattle.std.proofs.Common.{sym, ◌∙◌, arith, true≢false, ◌<◌, ◌≤◌, length}
use Rattle.std.specs.FinMap.{entries}
use Rattle.plan_reasons.specs.plan_drafts.proofs.RowPlaces.{row_at}
use Rattle.plan_outlooks.specs.Lent.{IsOfRow}
use Rattle.plan_outlooks.specs.Paths.{IsFreeing}
use Rattle.plan_outlooks.proofs.FirstOnes.{first_here, first_nowhere, none_first, none_more}
use Rattle.plan_outlooks.proofs.paths.freeing.Goals as goal

pub loop-other-init : goal.loop-other-init
loop-other-init c = λ F lent. none_first F (IsFreeing F c.args.moment c.args.lack.now)

pub is_freeing-requires : goal.is_freeing-requires
is_freeing-requires c =
    let (F, lent) = c.requires in
    let test = c.loop-other-test.true in
    let size = lent.done_size in
    let within : c.loop-other.other < length (entries F.plan.contents.operations) = omega (arith, test, size) in
    (F, lent, within)

pub returns-then-is_freeing : goal.returns-then-is_freeing
returns-then-is_freeing c = λ F lent.
    let test = c.loop-other-test.true in
    let size = lent.done_size in
    let within : c.loop-other.other < length (entries F.plan.contents.operations) = omega (arith, test, size) in
    let r = row_at (entries F.plan.contents.operations) c.loop-other.other within in
    let there : IsOfRow F c.loop-other.other r.0.0 = (r.0.1, r.1) in
    first_here F (IsFreeing F c.args.moment c.args.lack.now) (λ q so. so.0.0) c.loop-other.other r.0.0 there ((c.is_freeing.ensures F r.0.0 lent there).0 c.if-is_freeing.true) (c.loop-other.invariant F lent)

pub loop-other-preserved : goal.loop-other-preserved
loop-other-preserved c = λ F lent.
    none_more F (IsFreeing F c.args.moment c.args.lack.now) c.loop-other.other (c.loop-other.invariant F lent) (λ q there so. true≢false (sym ((c.is_freeing.ensures F q lent there).1 so) ∙ c.if-is_freeing.false))

pub returns : goal.returns
returns c = λ F lent.
    let past = c.loop-other-test.false in
    let size = lent.done_size in
    let all : length (entries F.plan.contents.operations) ≤ c.loop-other.other = omega (arith, past, size) in
    first_nowhere F (IsFreeing F c.args.moment c.args.lack.now) (λ q so. so.0.0) c.loop-other.other all (c.loop-other.invariant F lent)
