use Rattle.std.proofs.Common.{◌≡◌, ◌∙◌, sym, subst, false, true≢false, Result, Ok, Err, OnOk}
use Rattle.std.specs.Result.{is_err}
use Rattle.plan_basics.specs.declared.Refusal.TheVariants as refusal
use Rattle.request_outcomes.proofs.extending.joined.Goals as goal
use Rattle.plan_drafts.specs.Contents.{added_of}
use Rattle.plan_drafts.specs.PlanGraphs.{IsGraphFor}
use Rattle.plan_model.specs.Contents.{Contents}
use Rattle.small_requests.specs.plan_checks.proofs.ComingApart.{comes_apart}
use Rattle.small_requests.specs.plan_laws.proofs.ComingIn.{addition_is_sound}

pub with_addition-records-requires-clause-apart : goal.with_addition-records-requires-clause-apart
with_addition-records-requires-clause-apart c = comes_apart c.args.left.contents c.uncounted.ensures.sound.valid (added_of c.args.parts.now) c.requires.parts.extension (c.requires.clear refusal.Duplicate)

pub with_addition-records-requires-clause-sound : goal.with_addition-records-requires-clause-sound
with_addition-records-requires-clause-sound c = addition_is_sound c.args.left.contents c.uncounted.ensures.sound (added_of c.args.parts.now) c.requires.parts.extension c.requires.clear

-- where it isn't an error, it is good
good : {T E A : Type 0} (r : Result T E) → is_err r ≡ false → OnOk r A → A
good (Ok x) never a = a
good (Err e) never a = absurd (true≢false never)

pub returns-in-Ok-clause-contents : goal.returns-in-Ok-clause-contents
returns-in-Ok-clause-contents c = good c.with_addition-records.result.1 (sym c.is_err.ensures.value ∙ c.if-is_err.false) c.with_addition-records.ensures.contents

pub returns-in-Ok-clause-graph : goal.returns-in-Ok-clause-graph
returns-in-Ok-clause-graph c = subst (λ (P : Contents). IsGraphFor P c.in-Ok.graph) c.uncounted-2.ensures.contents c.in-Ok.ensures
