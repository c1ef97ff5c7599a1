use Rattle.std.proofs.Common.{codes}
use Rattle.plan_basics.specs.Minutes.{IsMinuteText}
use Rattle.serde_json.specs.View.{view}
use Rattle.request_json.specs.Members.{HasText}
use Rattle.request_json.specs.Requests.{SpellsOperation, SpellsOccurrence}
use Rattle.request_json.specs.RequestFaults.{IsOfKind}
use Rattle.request_json.proofs.Found.{some_is}
use Rattle.request_json.proofs.faults.kinds.fits.Goals as goal

pub returns-in-At : goal.returns-in-At
returns-in-At c = rw c.in-At.is (some_is (λ minute. HasText (view c.args.value.now) (codes "at") (λ text. IsMinuteText text minute)) c.minute_at.result c.is_some.result c.is_some.ensures c.minute_at.ensures)

pub returns-in-Do : goal.returns-in-Do
returns-in-Do c = rw c.in-Do.is (some_is (IsOfKind (view c.args.value.now)) c.kind_at.result c.is_some-in-Do.result c.is_some-in-Do.ensures c.kind_at.ensures)

pub returns-in-Op : goal.returns-in-Op
returns-in-Op c = rw c.in-Op.is (some_is (λ key. HasText (view c.args.value.now) (codes "op") (λ text. SpellsOperation text key)) c.operation_at.result c.is_some-in-Op.result c.is_some-in-Op.ensures c.operation_at.ensures)

pub returns-in-Occ : goal.returns-in-Occ
returns-in-Occ c = rw c.in-Occ.is (some_is (λ key. HasText (view c.args.value.now) (codes "occ") (λ text. SpellsOccurrence text key)) c.occurrence_at.result c.is_some-in-Occ.result c.is_some-in-Occ.ensures c.occurrence_at.ensures)

pub returns-in-From : goal.returns-in-From
returns-in-From c = rw c.in-From.is (some_is (λ key. HasText (view c.args.value.now) (codes "from") (λ text. SpellsOperation text key)) c.operation_at-in-From.result c.is_some-in-From.result c.is_some-in-From.ensures c.operation_at-in-From.ensures)

pub returns-in-To : goal.returns-in-To
returns-in-To c = rw c.in-To.is (some_is (λ key. HasText (view c.args.value.now) (codes "to") (λ text. SpellsOperation text key)) c.operation_at-in-To.result c.is_some-in-To.result c.is_some-in-To.ensures c.operation_at-in-To.ensures)

pub returns-in-Intervals : goal.returns-in-Intervals
returns-in-Intervals c = rw c.in-Intervals.is c.has_intervals.ensures
