-- Requests one after another, and their replies.
use Rattle.std.specs.Prelude.{◌≡◌, List, [], ◌∷◌}
use Rattle.plan_basics.specs.declared.Refusal.TheVariants as refusal
use Rattle.std.specs.FinMap as map
use Rattle.plan_drafts.specs.plan_model.specs.Plan.{Plan, no_plan}
use Rattle.plan_records.specs.declared.Request.{Request}
use Rattle.plan_records.specs.Answer.{Answer}
use Rattle.plan_records.specs.Answer.{accepted, refused}
use Rattle.plan_records.specs.Step.{Step, NumberedStep, Numbered, Receipts}

-- a request by an operator, or a numbered one by a tracker
pub data Call : Type 0 where
  plain : Request → Call
  numbered : Numbered → Call

-- a plan, and the trackers' receipts beside it
pub record State : Type 0 where
  pub plan : Plan
  pub receipts : Receipts

-- what a call is answered, and the state that it leaves
abbrev pub CallStep : State → Call → Answer → State → Type 0
CallStep s (plain q) reply t = Step s.plan q reply t.plan × (t.receipts ≡ s.receipts)
CallStep s (numbered n) reply t = NumberedStep s.plan s.receipts n reply t.plan t.receipts

-- whether the next call is carried out
pub data Usable : Type 0 where
  usable : Usable
  to_be_reopened : Usable

-- a step, or want of memory, or a fault of the store, after which each call is answered that the desk is to be reopened
-- (both may answer any call, so calls determine a run only where neither does)
abbrev pub Answers : State → Usable → Call → Answer → State → Usable → Type 0
Answers s usable c (refused refusal.Memory) t u = (t ≡ s) × (u ≡ usable)
Answers s usable c (refused refusal.Store) t u = (t ≡ s) × (u ≡ to_be_reopened)
Answers s usable c reply t u = CallStep s c reply t × (u ≡ usable)
Answers s to_be_reopened c (refused refusal.Reopen) t u = (t ≡ s) × (u ≡ to_be_reopened)
Answers s to_be_reopened c _ t u = ⊥

-- the answers to calls in their order, and the state and the usability at their end
abbrev pub Run : State → Usable → List Call → List Answer → State → Usable → Type 0
Run s u [] [] t v = (t ≡ s) × (v ≡ u)
Run s u (c ∷ cs) (reply ∷ replies) t v = (mid : State) × (w : Usable) × Answers s u c reply mid w × Run mid w cs replies t v
Run s u [] (reply ∷ replies) t v = ⊥
Run s u (c ∷ cs) [] t v = ⊥

-- before anything is loaded or received
abbrev pub empty_state : State
empty_state = record { plan = no_plan; receipts = map.empty }

-- the calls that were accepted, and their replies
abbrev pub accepted_calls : List Call → List Answer → List Call
accepted_calls (c ∷ cs) (accepted chosen ∷ replies) = c ∷ accepted_calls cs replies
accepted_calls (c ∷ cs) (refused r ∷ replies) = accepted_calls cs replies
accepted_calls [] replies = []
accepted_calls (c ∷ cs) [] = []

-- the answers that accepted
abbrev pub accepted_replies : List Answer → List Answer
accepted_replies [] = []
accepted_replies (accepted chosen ∷ replies) = accepted chosen ∷ accepted_replies replies
accepted_replies (refused r ∷ replies) = accepted_replies replies

-- the accepted calls of a run, taken alone, are a run with the same replies, last plan and receipts
abbrev pub AcceptedAlone : Type 0
AcceptedAlone = (s t : State) (u v : Usable) (cs : List Call) (replies : List Answer) → Run s u cs replies t v → Run s usable (accepted_calls cs replies) (accepted_replies replies) t usable
