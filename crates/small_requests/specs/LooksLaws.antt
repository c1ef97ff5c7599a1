-- That a request looks at no more operation records than it is allowed.
use Rattle.std.specs.Prelude.{◌≡◌, ℕ, ◌+◌, ◌*◌, ◌≤◌, Bool, true, List, length}
use Rattle.std.specs.FinMap.{len}
use Rattle.plan_basics.specs.Minutes.{IsMoment}
use Rattle.plan_basics.specs.Refusals.{NoneRefuses}
use Rattle.plan_basics.specs.declared.keys.OpKey.{OpKey}
use Rattle.small_requests.specs.RequestEdits.{IsRerun, IsSmall}
use Rattle.plan_model.specs.Contents.{Contents}
use Rattle.plan_model.specs.Ready.{IsChosen, named}
use Rattle.plan_model.specs.Valid.{IsSound}
use Rattle.plan_model.specs.Moves.{AreLiveAlike, IsMovedAt}
use Rattle.plan_records.specs.Acceptance.{MayBeDone}
use Rattle.plan_records.specs.Work.{IsAllowance, by_whole_plan}
use Rattle.plan_records.specs.declared.What.{What}
use Rattle.small_requests.specs.StepLooks.{AreWorkedAt, IsStepLooked, one_at_least}

-- a small request that isn't refused made Q of P by edits at these places, and then these operations were named
pub record IsSmallStep (P Q : Contents) (w : What) (m : ℕ) (edits : List ℕ) (os : List OpKey) : Type 0 where
  pub sound : IsSound P
  pub sound_after : IsSound Q
  pub small : IsSmall w
  pub moment : IsMoment m
  pub clear : NoneRefuses (MayBeDone P m w)
  pub moved : IsMovedAt P Q edits
  pub alike : AreLiveAlike P Q
  pub worked : AreWorkedAt P Q w edits
  pub chosen : IsChosen Q m os

-- a small step is within its allowance: one look to check it, one at each edited operation (or one where none is), those of the step itself, and one at each row that is noted
abbrev pub SmallStepsLookFew : Type 0
SmallStepsLookFew = (P Q : Contents) (w : What) (m : ℕ) (is_rerun : Bool) (edits : List ℕ) (os : List OpKey) (noted before after work n : ℕ) →
    IsSmallStep P Q w m edits os → (is_rerun ≡ true → IsRerun w) →
    IsStepLooked P Q is_rerun edits os noted before after → before ≤ 1 + one_at_least (length edits) → work ≤ after + noted →
    IsAllowance P w (named os Q) n → work ≤ n

-- a look, and four at each record of the plan that it leads to, are within the allowance by the whole plan
abbrev pub WholePlansLookFew : Type 0
WholePlansLookFew = (Q : Contents) (work : ℕ) → work ≤ 1 + 4 * len Q.operations → work ≤ by_whole_plan Q
