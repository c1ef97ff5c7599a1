use Rattle.std.proofs.Common.{rules, ◌≡◌, ◌∙◌, sym, ap, subst, true≢false, None, Some, option_copied}
use Rattle.plan_basics.specs.declared.Refusal.TheVariants as refusal
use Rattle.small_requests.specs.plan_changes.proofs.Answered.{if_ok}
use Rattle.request_outcomes.proofs.Preparing.{has_draft}
use Rattle.request_outcomes.proofs.first.first_contents.Goals as goal
use Rattle.request_outcomes.specs.Requested.{AreMadeBy}
use Rattle.plan_records.specs.Acceptance.{NeedsPlan}
use Rattle.plan_records.specs.declared.What.{What}
use Rattle.plan_records.specs.declared.What.TheVariants as what
use Rattle.plan_model.specs.Contents.{nothing}
use Rattle.plan_model.specs.Plan.{plan_held}

pub unwrap-requires : goal.unwrap-requires
unwrap-requires c = c.as_ref.ensures.variant ∙ has_draft (plan_held c.requires.0 None) c.args.request.now c.requires.1 c.in-Load.draft c.in-Load.is

pub unreachable-requires : goal.unreachable-requires
unreachable-requires c =
    let needs : NeedsPlan c.args.request.now.what = search rules in
    absurd (true≢false (sym (c.requires.1 refusal.NotLoaded needs)))

pub returns-clause-made : goal.returns-clause-made
returns-clause-made c =
    let is : c.args.request.now.what ≡ what.Load (Some c.unwrap.result.now) = c.in-Load.is ∙ ap what.Load (sym c.as_ref.ensures.value ∙ ap option_copied c.unwrap.ensures) in
    if_ok c.drafted.result (λ new h. subst (λ (w : What). AreMadeBy nothing w new.0) (sym is) (h nothing)) c.drafted.ensures.made
