-- What is reported of an operation.
use Rattle.std.specs.Prelude.{◌≡◌, Some}
use Rattle.std.specs.FinMap.{get}
use Rattle.plan_basics.specs.declared.keys.OpKey.{OpKey}
use Rattle.plan_model.specs.Contents.{Contents, HasAttribute, IsInPlan}
use Rattle.plan_model.specs.Status.{HasStatus}
use Rattle.derived_figures.specs.declared.outlines.ReportedOperation.{ReportedOperation}
use Rattle.status_rules.specs.declared.Status.{Status}

-- o is this operation of the plan, on a workstation of this attribute, and has this status alone
pub record IsReported (P : Contents) (o : OpKey) (x : ReportedOperation) : Type 0 where
  pub operation : get P.operations o ≡ Some x.operation.now
  pub attribute : HasAttribute P x.operation.now.workstation x.attribute
  pub status : HasStatus P o x.status
  pub alone : (s : Status) → HasStatus P o s → s ≡ x.status

-- o is an operation of the plan, and has this status alone
pub record IsOfStatus (P : Contents) (o : OpKey) (s : Status) : Type 0 where
  pub known : IsInPlan P o
  pub status : HasStatus P o s
  pub alone : (t : Status) → HasStatus P o t → t ≡ s
