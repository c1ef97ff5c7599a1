use Rattle.std.proofs.Common.{◌≡◌, refl, rules, arith, subst, pos, FitsSigned, of_z, to_z, w64, ℤ, Some}
use Rattle.std.proofs.lemmas.Int.{ints}
use Rattle.std.proofs.lemmas.Result.{IfOk-weaker}
use Rattle.plan_basics.specs.Refusals.{NoneRefuses}
use Rattle.request_outcomes.proofs.Preparing.{has_draft}
use Rattle.plan_model.specs.Plan.{Plan, no_plan}
use Rattle.plan_model.specs.Ready.{IsChosen}
use Rattle.plan_records.specs.Acceptance.{MayBeAccepted}
use Rattle.plan_records.specs.Answer.{accepted}
use Rattle.plan_records.specs.Step.{Step}
use Rattle.plan_core.specs.Trials.{load_at}
use Rattle.plan_core.proofs.Naming.{load_step}
use Rattle.plan_core.proofs.alone.named_alone.Goals as goal

pub unwrap-requires : goal.unwrap-requires
unwrap-requires c = has_draft no_plan (load_at (to_z w64 (of_z w64 c.args.at)) c.args.draft) c.in_ok-moment.ensures.ok c.args.draft refl

pub returns-clause-named : goal.returns-clause-named
returns-clause-named c =
    let at = c.args.at in
    let draft = c.args.draft in
    let m = c.in_ok-moment.moment in
    let new = c.parts_of-contents.result.0 in
    let fits : FitsSigned w64 at = search rules in
    let same : to_z w64 (of_z w64 at) ≡ at = omega (arith, ints, fits) in
    let is : draft ≡ Some c.unwrap.result = c.unwrap.ensures in
    let allows = subst (λ (z : ℤ). NoneRefuses (MayBeAccepted no_plan (load_at z draft))) same c.in_ok-moment.ensures.ok in
    let minute : at ≡ pos m = subst (λ (z : ℤ). z ≡ pos m) same c.in_ok-moment.ensures.at in
    IfOk-weaker c.named_at.result (λ keys. IsChosen new m keys.items) (λ keys. (P : Plan) × Step no_plan (load_at at draft) (accepted keys.items) P)
    (λ keys chosen. load_step at draft m c.unwrap.result new keys.items allows minute is c.parts_of-contents.ensures.draft c.parts_of-contents.ensures.contents chosen)
    c.named_at.ensures.chosen
