-- A request has an answer, and one, which leaves one plan.
use Rattle.std.specs.Prelude.{◌≡◌, List, All}
use Rattle.plan_basics.specs.declared.Refusal.TheVariants as refusal
use Rattle.plan_records.specs.plan_model.specs.Plan.{Plan, IsSoundPlan}
use Rattle.plan_records.specs.Changes.{IsRequest}
use Rattle.plan_records.specs.declared.Request.{Request}
use Rattle.plan_records.specs.Answer.{Answer}
use Rattle.plan_records.specs.Answer.{refused}
use Rattle.plan_records.specs.Step.{Step, NumberedStep, Numbered, IsNumbered, Receipts}
use Rattle.plan_records.specs.Run.{State, Call, CallStep, plain, numbered, Usable, usable, Run}

-- a plan and a request determine the answer, and the plan that it leaves
abbrev pub OneStep : Type 0
OneStep = (P a b : Plan) (q : Request) (x y : Answer) → Step P q x a → Step P q y b → (x ≡ y) × (a ≡ b)

-- so it is with a tracker's request, where the receipts that it leaves are determined too
abbrev pub OneNumberedStep : Type 0
OneNumberedStep = (P a b : Plan) (T U V : Receipts) (n : Numbered) (x y : Answer) → NumberedStep P T n x a U → NumberedStep P T n y b V → (x ≡ y) × (a ≡ b) × (U ≡ V)

-- neither want of memory nor a fault of the store answers for the plan
abbrev pub IsOfThePlan : Answer → Type 0
IsOfThePlan (refused refusal.Memory) = ⊥
IsOfThePlan (refused refusal.Store) = ⊥
IsOfThePlan (refused refusal.Reopen) = ⊥
IsOfThePlan x = Unit {0}

-- a state and calls determine the answers and the last state of a run in which the plan alone answers
abbrev pub OneRun : Type 0
OneRun = (s : State) (u : Usable) (calls : List Call) (xs ys : List Answer) (a b : State) (v w : Usable) → All IsOfThePlan xs → All IsOfThePlan ys → Run s u calls xs a v → Run s u calls ys b w → (xs ≡ ys) × (a ≡ b) × (v ≡ w)

-- each request to a sound plan has an answer, which leaves some plan
abbrev pub SomeStep : Type 0
SomeStep = (P : Plan) (q : Request) → IsSoundPlan P → IsRequest q.what → (x : Answer) × (after : Plan) × Step P q x after

-- so has each numbered request, of a legal tracker
abbrev pub SomeNumberedStep : Type 0
SomeNumberedStep = (P : Plan) (T : Receipts) (n : Numbered) → IsSoundPlan P → IsRequest n.request.what → IsNumbered n → (x : Answer) × (after : Plan) × (receipts : Receipts) × NumberedStep P T n x after receipts

-- no step is an answer for memory or the store
abbrev pub PlanAnswers : Type 0
PlanAnswers = (s t : State) (c : Call) (x : Answer) → CallStep s c x t → IsOfThePlan x

-- a call's own parts are legal
abbrev pub IsCall : Call → Type 0
IsCall (plain q) = IsRequest q.what
IsCall (numbered n) = IsRequest n.request.what × IsNumbered n

-- from a sound plan all calls have a run in which the plan alone answers
abbrev pub SomeRun : Type 0
SomeRun = (s : State) (calls : List Call) → IsSoundPlan s.plan → All IsCall calls → (replies : List Answer) × (t : State) × All IsOfThePlan replies × Run s usable calls replies t usable
