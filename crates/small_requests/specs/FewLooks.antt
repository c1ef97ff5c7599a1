-- Which operations a request touches that goes on from a few of them.
use Rattle.std.specs.Prelude.{◌⊎◌, ◌≤◌, List, length, Contains}
use Rattle.std.specs.List.{IsDistinct}
use Rattle.std.specs.Ordering.{eq_by_cmp}
use Rattle.plan_basics.specs.declared.keys.OpKey.{OpKey}
use Rattle.plan_basics.specs.Keys.{operation_cmp}
use Rattle.plan_model.specs.Contents.{Contents, Precedes}
use Rattle.plan_records.specs.Work.{IsWorkedOn}
use Rattle.plan_records.specs.declared.What.{What}

-- no operation stands twice
abbrev pub AreOnce : List OpKey → Type 0
AreOnce = IsDistinct (eq_by_cmp operation_cmp)

-- a pair of the plan that the request leaves leads to o from an operation that is worked on
abbrev pub FollowsWork : Contents → What → Contents → OpKey → Type 0
FollowsWork P w Q o = (c : OpKey) × IsWorkedOn P w Q c × Precedes Q c o

-- o is worked on, and some pair leads to it
abbrev pub IsFollower : Contents → What → Contents → OpKey → Type 0
IsFollower P w Q o = IsWorkedOn P w Q o × ((p : OpKey) × Precedes Q p o)

-- what a request touches in going from P to Q: it edits some operations, from `first` on, of which some are followers; finds that some wait for nothing more; names some to start
pub record IsTouching (P : Contents) (w : What) (Q : Contents) (first edited followers zeros named touched : List OpKey) : Type 0 where
  -- it begins with one at most
  pub few_first : length first ≤ 1
  -- none is edited twice
  pub edited_once : AreOnce edited
  -- nor a follower twice
  pub followers_once : AreOnce followers
  -- nor found at zero twice
  pub zeros_once : AreOnce zeros
  -- nor named twice
  pub named_once : AreOnce named
  -- nor touched twice
  pub touched_once : AreOnce touched
  -- what is edited is worked on
  pub edited_is_work : (o : OpKey) → Contains edited o → IsWorkedOn P w Q o
  -- and so is what is named
  pub named_is_work : (o : OpKey) → Contains named o → IsWorkedOn P w Q o
  -- what is edited is the first, or follows what is worked on
  pub edited_in_turn : (o : OpKey) → Contains edited o → Contains first o ⊎ FollowsWork P w Q o
  -- a follower is one
  pub are_followers : (o : OpKey) → Contains followers o → IsFollower P w Q o
  -- what is found at zero is a follower too, or follows what is worked on
  pub zeros_in_turn : (o : OpKey) → Contains zeros o → IsFollower P w Q o ⊎ FollowsWork P w Q o
  -- what is touched is edited or named, or follows what is worked on
  pub touched_by : (o : OpKey) → Contains touched o → Contains edited o ⊎ (FollowsWork P w Q o ⊎ Contains named o)
