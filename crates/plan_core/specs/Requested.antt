-- What a request is answered, and the plan that it leaves.
use Rattle.plan_model.specs.Plan.{Plan}
use Rattle.plan_records.specs.Answer.{Answer}
use Rattle.plan_records.specs.Run.{Answers, plain, usable}
use Rattle.plan_records.specs.Step.{Receipts}
use Rattle.plan_records.specs.declared.Request.{Request}

-- what a request is answered, and the plan that it leaves: a step, or want of memory, whatever receipts are kept beside the plan
abbrev pub IsAnswered : Plan → Request → Answer → Plan → Type 0
IsAnswered P q reply after =
    (receipts : Receipts) → Answers (record { plan = P; receipts = receipts }) usable (plain q) reply (record { plan = after; receipts = receipts }) usable
