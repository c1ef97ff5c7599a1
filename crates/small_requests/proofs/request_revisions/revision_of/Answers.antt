use Rattle.std.proofs.Common.{◌≡◌, ◌∙◌, refl, ℕ, ap, subst, sym, true, false, All}
use Rattle.std.specs.FinMap.{contains_key, insert}
use Rattle.plan_basics.specs.Intervals.{IsInterval}
use Rattle.plan_basics.specs.Refusals.{NoneRefuses}
use Rattle.plan_basics.specs.declared.Refusal.TheVariants as refusal
use Rattle.plan_checks.specs.plan_changes.specs.Intervals.{opened}
use Rattle.plan_model.specs.Contents.{Contents}
use Rattle.plan_records.specs.Acceptance.{MayBeDone, MayBeOpenBy}
use Rattle.plan_records.specs.Changes.{marked}
use Rattle.plan_records.specs.declared.What.{What}
use Rattle.plan_records.specs.declared.What.TheVariants as what
use Rattle.ready_list.specs.Choice.{is_among}
use Rattle.small_requests.proofs.Requested.{holds_one, makes_available, makes_nop, marks_all, marks_one, opens, writes_nothing}
use Rattle.small_requests.proofs.request_revisions.revision_of.Goals as goal
use Rattle.small_requests.specs.Revisions.{IsRevisionFor}
use Rattle.small_requests.specs.declared.revisions.Revision.{Revision}
use Rattle.status_rules.specs.declared.Mark.TheVariants as mark

-- of a request, v, that is this one
of_this : (P : Contents) (v w : What) (x : Revision) → v ≡ w → IsRevisionFor P w x → IsRevisionFor P v x
of_this P v w x is h = subst (λ z. IsRevisionFor P z x) (sym is) h

-- nothing stands in its way
clear_of : (P : Contents) (v w : What) → v ≡ w → (m : ℕ) → NoneRefuses (MayBeDone P m v) → NoneRefuses (MayBeDone P m w)
clear_of P v w is m clear = subst (λ z. NoneRefuses (MayBeDone P m z)) is clear

pub workstation_with-requires : goal.workstation_with-requires
workstation_with-requires c =
    let P = c.args.uncounted.now.contents.now in
    let name = c.in-ReplaceIntervals.name in
    let clear = clear_of P c.args.what.now (what.ReplaceIntervals name c.in-ReplaceIntervals.intervals) c.in-ReplaceIntervals.is c.requires.clear.0 c.requires.clear.1 in
    subst (λ items. NoneRefuses (MayBeOpenBy P name items)) (sym c.deref-in-ReplaceIntervals.ensures.value) clear

pub returns-in-Tick : goal.returns-in-Tick
returns-in-Tick c = of_this c.args.uncounted.now.contents.now c.args.what.now what.Tick _ c.in-Tick.is (writes_nothing c.args.uncounted.now.contents.now what.Tick tt refl)

pub returns-in-Started : goal.returns-in-Started
returns-in-Started c =
    let P = c.args.uncounted.now.contents.now in
    let o = c.in-Started.field-0 in
    of_this P c.args.what.now (what.Started o) _ c.in-Started.is (marks_one P (what.Started o) tt o (λ os are. are) mark.Running (λ Q e. e))

pub returns-in-Ended : goal.returns-in-Ended
returns-in-Ended c =
    let P = c.args.uncounted.now.contents.now in
    let o = c.in-Ended.field-0 in
    of_this P c.args.what.now (what.Ended o) _ c.in-Ended.is (marks_one P (what.Ended o) tt o (λ os are. are) mark.Done (λ Q e. e))

pub returns-in-Complete : goal.returns-in-Complete
returns-in-Complete c =
    let P = c.args.uncounted.now.contents.now in
    let o = c.in-Complete.field-0 in
    of_this P c.args.what.now (what.Complete o) _ c.in-Complete.is (marks_one P (what.Complete o) tt o (λ os are. are) mark.Done (λ Q e. e))

pub returns-in-Error : goal.returns-in-Error
returns-in-Error c =
    let P = c.args.uncounted.now.contents.now in
    let o = c.in-Error.field-0 in
    let code = c.error_mark.ensures in
    of_this P c.args.what.now (what.Error o c.in-Error.code) _ c.in-Error.is (marks_one P (what.Error o c.in-Error.code) code.legal o (λ os are. are) c.error_mark.result (λ Q e. e ∙ ap (λ m. marked o m P) code.mark))

pub returns-in-Interrupted : goal.returns-in-Interrupted
returns-in-Interrupted c =
    let P = c.args.uncounted.now.contents.now in
    let o = c.in-Interrupted.field-0 in
    of_this P c.args.what.now (what.Interrupted o) _ c.in-Interrupted.is (marks_one P (what.Interrupted o) tt o (λ os are. are) mark.Interrupted (λ Q e. e))

pub returns-in-Unknown : goal.returns-in-Unknown
returns-in-Unknown c =
    let P = c.args.uncounted.now.contents.now in
    let o = c.in-Unknown.field-0 in
    of_this P c.args.what.now (what.Unknown o) _ c.in-Unknown.is (marks_one P (what.Unknown o) tt o (λ os are. are) mark.Undecided (λ Q e. e))

pub returns-in-Rerun : goal.returns-in-Rerun
returns-in-Rerun c =
    let P = c.args.uncounted.now.contents.now in
    let o = c.in-Rerun.field-0 in
    of_this P c.args.what.now (what.Rerun o) _ c.in-Rerun.is (marks_all P (what.Rerun o) tt mark.Unmarked (λ os are. (is_among os, are, refl)))

pub returns-in-Hold : goal.returns-in-Hold
returns-in-Hold c =
    let P = c.args.uncounted.now.contents.now in
    let o = c.in-Hold.key in
    of_this P c.args.what.now (what.Hold o) _ c.in-Hold.is (holds_one P (what.Hold o) tt o (λ os are. are) true (λ Q e. e))

pub returns-in-Release : goal.returns-in-Release
returns-in-Release c =
    let P = c.args.uncounted.now.contents.now in
    let o = c.in-Release.key in
    of_this P c.args.what.now (what.Release o) _ c.in-Release.is (holds_one P (what.Release o) tt o (λ os are. are) false (λ Q e. e))

pub returns-in-Nop : goal.returns-in-Nop
returns-in-Nop c =
    let P = c.args.uncounted.now.contents.now in
    let o = c.in-Nop.key in
    of_this P c.args.what.now (what.Nop o) _ c.in-Nop.is (makes_nop P (what.Nop o) tt o (λ os are. are) true (λ Q e. e))

pub returns-in-Unnop : goal.returns-in-Unnop
returns-in-Unnop c =
    let P = c.args.uncounted.now.contents.now in
    let o = c.in-Unnop.key in
    of_this P c.args.what.now (what.Unnop o) _ c.in-Unnop.is (makes_nop P (what.Unnop o) tt o (λ os are. are) false (λ Q e. e))

pub returns-in-SetAvailable : goal.returns-in-SetAvailable
returns-in-SetAvailable c =
    let P = c.args.uncounted.now.contents.now in
    let r = c.in-SetAvailable.name in
    let available = c.in-SetAvailable.available in
    let w = what.SetAvailable r available in
    let clear = clear_of P c.args.what.now w c.in-SetAvailable.is c.requires.clear.0 c.requires.clear.1 in
    of_this P c.args.what.now w _ c.in-SetAvailable.is (makes_available P w tt r available (clear refusal.UnknownResource) refl)

pub returns-in_ok-workstation_with-in-ReplaceIntervals : goal.returns-in_ok-workstation_with-in-ReplaceIntervals
returns-in_ok-workstation_with-in-ReplaceIntervals c =
    let P = c.args.uncounted.now.contents.now in
    let name = c.in-ReplaceIntervals.name in
    let w = what.ReplaceIntervals name c.in-ReplaceIntervals.intervals in
    let v = c.in_ok-workstation_with-in-ReplaceIntervals.field-0 in
    let told = c.in_ok-workstation_with-in-ReplaceIntervals.ensures in
    let clear = clear_of P c.args.what.now w c.in-ReplaceIntervals.is c.requires.clear.0 c.requires.clear.1 in
    let legal = subst (λ items. All IsInterval items) c.deref.ensures.value c.read_for_proof.ensures in
    let changes = subst (λ items. record P { workstations = insert P.workstations v.0 v.1 } ≡ opened name items P) c.deref-in-ReplaceIntervals.ensures.value told.opens in
    of_this P c.args.what.now w _ c.in-ReplaceIntervals.is (opens P w legal v (ap (contains_key P.workstations) told.name ∙ clear refusal.UnknownWorkstation) changes)
