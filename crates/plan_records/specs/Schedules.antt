-- Calls, stops and openings, one after another.
use Rattle.std.specs.Prelude.{◌≡◌, ◌⊎◌, ℕ, List, [], ◌∷◌, Option, Some, None}
use Rattle.plan_basics.specs.declared.keys.OpKey.{OpKey}
use Rattle.plan_basics.specs.declared.Refusal.{Refusal}
use Rattle.plan_drafts.specs.plan_model.specs.Plan.{IsSoundPlan}
use Rattle.plan_records.specs.Answer.{Answer}
use Rattle.plan_records.specs.Answer.{accepted, refused}
use Rattle.plan_records.specs.Receipts.{AreReceipts}
use Rattle.plan_records.specs.Run.{State, Call, CallStep, Run, Usable, usable, to_be_reopened, Answers, empty_state}

-- what an opening answers: a desk with this plan and these receipts; that the tables are no plan's; or nothing, for want of memory, by a fault or by a stop
pub data Opened : Type 0 where
  found : State → Opened
  damaged : Opened
  nothing : Opened

-- a call that ended, a call that was stopped, a stop between calls, or an opening
pub data Event : Type 0 where
  ended : Call → Answer → Event
  -- its desk is gone, or stays and answers that it is to be reopened
  stopped : Call → Option Usable → Event
  stop : Event
  opening : Opened → Event

-- the version of the tables, what they hold, and the desk if there is one
pub record World : Type 0 where
  pub version : ℕ
  pub stored : State
  pub desk : Option Usable

-- after `create` in a database without tables
abbrev pub created : World
created = record { version = 2; stored = empty_state; desk = Some usable }

-- a desk may have this state
abbrev pub IsDeskState : State → Type 0
IsDeskState s = IsSoundPlan s.plan × AreReceipts s.plan.loaded s.receipts

-- what an event makes of what is stored, and of the desk, if there is one
abbrev pub Leaves : State → Option Usable → Event → State → Option Usable → Type 0
Leaves s (Some u) (ended c reply) t d = (v : Usable) × Answers s u c reply t v × (d ≡ Some v)
Leaves s (Some usable) (stopped c None) t d = ((t ≡ s) ⊎ ((named : List OpKey) × CallStep s c (accepted named) t)) × (d ≡ None)
Leaves s (Some usable) (stopped c (Some v)) t d = ((t ≡ s) ⊎ ((named : List OpKey) × CallStep s c (accepted named) t)) × (v ≡ to_be_reopened) × (d ≡ Some to_be_reopened)
Leaves s (Some to_be_reopened) (stopped c None) t d = (t ≡ s) × (d ≡ None)
Leaves s d stop t e = (t ≡ s) × (e ≡ None)
Leaves s None (opening (found x)) t d = IsDeskState s × (x ≡ s) × (t ≡ s) × (d ≡ Some usable)
Leaves s None (opening damaged) t d = ¬ IsDeskState s × (t ≡ s) × (d ≡ None)
Leaves s None (opening nothing) t d = (t ≡ s) × (d ≡ None)
Leaves s d event t e = ⊥

-- what an event makes of the version: a call needs the second; an opening that finds a state leaves the second, and one that answers nothing may have, where the tables hold a desk's state
-- (what was called under the first stands before a schedule, by Begins, so that a tracker's numbers stay used up)
abbrev pub LeavesVersion : State → ℕ → Event → ℕ → Type 0
LeavesVersion s v (ended c reply) w = (v ≡ 2) × (w ≡ 2)
LeavesVersion s v (stopped c d) w = (v ≡ 2) × (w ≡ 2)
LeavesVersion s v stop w = w ≡ v
LeavesVersion s v (opening (found x)) w = w ≡ 2
LeavesVersion s v (opening damaged) w = w ≡ v
LeavesVersion s v (opening nothing) w = (w ≡ v) ⊎ (IsDeskState s × (w ≡ 2))

-- events one after another, each from what the one before left
abbrev pub Schedule : World → List Event → World → Type 0
Schedule w [] x = x ≡ w
Schedule w (event ∷ events) x = (mid : World) × Leaves w.stored w.desk event mid.stored mid.desk × LeavesVersion w.stored w.version event mid.version × Schedule mid events x

-- the calls of a run and their answers, as events
abbrev pub ended_calls : List Call → List Answer → List Event
ended_calls (c ∷ calls) (reply ∷ replies) = ended c reply ∷ ended_calls calls replies
ended_calls [] replies = []
ended_calls (c ∷ calls) [] = []

-- where schedules begin, and what was called before: a desk that was just created; or tables of the first version that hold what a run left, without a desk
abbrev pub Begins : List Event → World → Type 0
Begins earlier w =
    ((earlier ≡ []) × (w ≡ created))
    ⊎ ((calls : List Call) × (replies : List Answer) × (u : Usable) × Run empty_state usable calls replies w.stored u × (earlier ≡ ended_calls calls replies) × (w.version ≡ 1) × (w.desk ≡ None))

-- of the events' calls: all that were answered accepted, and some of the stopped, in order
pub data IsWithin : List Event → List Call → List Answer → Type 0 where
  no_more : IsWithin [] [] []
  was_accepted : {c : Call} {named : List OpKey} {events : List Event} {calls : List Call} {replies : List Answer} → IsWithin events calls replies → IsWithin (ended c (accepted named) ∷ events) (c ∷ calls) (accepted named ∷ replies)
  was_refused : {c : Call} {r : Refusal} {events : List Event} {calls : List Call} {replies : List Answer} → IsWithin events calls replies → IsWithin (ended c (refused r) ∷ events) calls replies
  was_in : {c : Call} {d : Option Usable} {named : List OpKey} {events : List Event} {calls : List Call} {replies : List Answer} → IsWithin events calls replies → IsWithin (stopped c d ∷ events) (c ∷ calls) (accepted named ∷ replies)
  was_out : {c : Call} {d : Option Usable} {events : List Event} {calls : List Call} {replies : List Answer} → IsWithin events calls replies → IsWithin (stopped c d ∷ events) calls replies
  between : {events : List Event} {calls : List Call} {replies : List Answer} → IsWithin events calls replies → IsWithin (stop ∷ events) calls replies
  opened : {x : Opened} {events : List Event} {calls : List Call} {replies : List Answer} → IsWithin events calls replies → IsWithin (opening x ∷ events) calls replies
