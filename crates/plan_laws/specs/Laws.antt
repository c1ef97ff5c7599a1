-- What every schedule of calls, stops and openings leaves.
use Rattle.std.specs.Prelude.{◌≡◌, List, ◌∷◌, ◌++◌, Contains, None, Some}
use Rattle.plan_basics.specs.declared.keys.OpKey.{OpKey}
use Rattle.plan_records.specs.Answer.{Answer, accepted}
use Rattle.plan_records.specs.Run.{State, Call, Run, empty_state, numbered, to_be_reopened, usable}
use Rattle.plan_records.specs.Schedules.{Begins, Event, IsDeskState, IsWithin, Leaves, Schedule, World, damaged, ended, found, opening, stopped}
use Rattle.plan_records.specs.Step.{Numbered}
use Rattle.plan_laws.specs.Acts.{Act, EachActedOnce, HasActed, HaveOneNumber, RunWithActs}

-- a desk may have this state, and it is what a run leaves over the calls of these events that were answered accepted and over some of the stopped; in that run a tracker's number acted once at most, and each request that was answered accepted has acted, and named the keys of its answer
pub record IsLeftBy (events : List Event) (s : State) : Type 0 where
  pub legal : IsDeskState s
  pub calls : List Call
  pub replies : List Answer
  pub within : IsWithin events calls replies
  pub run : Run empty_state usable calls replies s usable
  pub acts : List Act
  pub acted : RunWithActs empty_state calls replies s acts
  pub once : EachActedOnce acts
  pub accepted_acted : (n : Numbered) (named : List OpKey) → Contains events (ended (numbered n) (accepted named)) → HasActed acts n named

-- each opening that finds a plan and receipts finds what the events before it left
abbrev pub EachOpeningFinds : List Event → Type 0
EachOpeningFinds events = (before after : List Event) (s : State) → events ≡ before ++ opening (found s) ∷ after → IsLeftBy before s

-- all accepted replies for a tracker and number are for one text, and name the same keys
abbrev pub NumbersNameTheSame : List Event → Type 0
NumbersNameTheSame events =
    (a b : Numbered) (x y : List OpKey) → Contains events (ended (numbered a) (accepted x)) → Contains events (ended (numbered b) (accepted y))
    → HaveOneNumber a b → (a.text ≡ b.text) × (x ≡ y)

-- what is stored after these events is what they left, no opening among them found the tables damaged, and each found what the events before it left; and a tracker's number has one accepted reply
pub record KeepsRequests (events : List Event) (w : World) : Type 0 where
  pub left : IsLeftBy events w.stored
  pub undamaged : ¬ Contains events (opening damaged)
  pub found_left : EachOpeningFinds events
  pub same : NumbersNameTheSame events

-- so it is after every schedule that begins with a desk that was just created, or with tables of the first version that hold what a run left; the calls of that run count as events before it
abbrev pub EverySchedule : Type 0
EverySchedule = (earlier events : List Event) (start w : World) → Begins earlier start → Schedule start events w → KeepsRequests (earlier ++ events) w

-- what a stop in a call leaves, a fault of the store in it may leave too, and the desk stays, to be opened again
abbrev pub FaultsLeaveAsStops : Type 0
FaultsLeaveAsStops =
    (s t : State) (c : Call) → Leaves s (Some usable) (stopped c None) t None → Leaves s (Some usable) (stopped c (Some to_be_reopened)) t (Some to_be_reopened)
