use Rattle.std.proofs.Common.{◌≡◌, refl, sym, subst, ap, ◌∙◌, arith, true, false, true≢false, Some, rules}
use Rattle.std.proofs.lemmas.Option.{get_or_from_slice_get, slice_get-get_or}
use Rattle.plan_model.specs.Contents.{IsInPlan}
use Rattle.plan_checks.proofs.Searching.{none_more}
use Rattle.plan_checks.proofs.under_way.is_another_under_way.Goals as goal
use Rattle.plan_checks.specs.Commands.{IsOtherUnderWay}

pub loop-other-init : goal.loop-other-init
loop-other-init c = λ k q lt at. absurd (omega (arith, lt))

pub is_other_under_way-requires : goal.is_other_under_way-requires
is_other_under_way-requires c =
    subst (IsInPlan c.args.outline.now) (sym c.other-item.is) (c.requires c.loop-other.other-index c.other-item.result c.loop-other-test.true)

pub returns-then-is_other_under_way : goal.returns-then-is_other_under_way
returns-then-is_other_under_way c =
    let yes : c.is_other_under_way.result ≡ true = search rules in
    (λ _. (c.other-item.result, (c.loop-other.other-index, c.loop-other-test.true, sym c.other-item.is), c.is_other_under_way.ensures.0 yes), λ _. refl)

pub loop-other-preserved : goal.loop-other-preserved
loop-other-preserved c =
    let Q = IsOtherUnderWay c.args.outline.now c.args.key.now in
    let no : c.is_other_under_way.result ≡ false = search rules in
    none_more c.args.others.now Q c.loop-other.other-index c.loop-other.invariant (λ q at h.
    let same = c.other-item.is ∙ get_or_from_slice_get c.args.others.now c.loop-other.other-index q c.other-item.result at in
    true≢false (sym (c.is_other_under_way.ensures.1 (subst Q (sym same) h)) ∙ no))

pub returns : goal.returns
returns c = (
  λ yes. absurd (true≢false (sym yes)),
  λ h. absurd (c.loop-other.invariant h.1.0 h.0 (omega (arith, h.1.1, c.loop-other-test.false, c.loop-other.auto.other-index-end)) (slice_get-get_or c.args.others.now h.1.0 h.0 h.1.1 ∙ ap Some h.1.2) h.2),
)
