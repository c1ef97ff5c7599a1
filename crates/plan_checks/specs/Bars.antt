-- What is reported of an operation, and what its report asks of every plan where it is so.
use Rattle.std.specs.Prelude.{ℕ, Some}
use Rattle.plan_basics.specs.declared.Refusal.{Refusal}
use Rattle.plan_basics.specs.declared.keys.OpKey.{OpKey}
use Rattle.plan_basics.specs.Refusals.{IsLeastRefusal, NoneRefuses}
use Rattle.plan_model.specs.Contents.{Contents}
use Rattle.plan_records.specs.Acceptance.{MayBeStarted}
use Rattle.derived_figures.specs.Reports.{IsReported}
use Rattle.derived_figures.specs.declared.outlines.ReportedOperation.{ReportedOperation}

-- what a start at minute m asks of the plan, of an operation that is reported so
abbrev pub MayBeStartedAt : ReportedOperation → ℕ → Contents → OpKey → Refusal → Type 0
MayBeStartedAt x m P o = MayBeStarted P m o x.operation.now (Some x.attribute)

-- in any plan where it is reported so, none of these lines refuses
abbrev pub MeetsAll : ReportedOperation → (Contents → OpKey → Refusal → Type 0) → Type 0
MeetsAll x lines = (P : Contents) (o : OpKey) → IsReported P o x → NoneRefuses (lines P o)

-- in any plan where it is reported so, r is the least refusal of these lines
abbrev pub FailsAt : ReportedOperation → (Contents → OpKey → Refusal → Type 0) → Refusal → Type 0
FailsAt x lines r = (P : Contents) (o : OpKey) → IsReported P o x → IsLeastRefusal (lines P o) r
