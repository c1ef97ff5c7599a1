-- What an operation takes of its workstation and holds of special resources, by its mark.
use Rattle.std.specs.Prelude.{◌≡◌, ◌≢◌, true, false, cond, Some, None}
use Rattle.std.specs.FinMap.{get}
use Rattle.plan_basics.specs.Keys.{Name}
use Rattle.plan_basics.specs.declared.keys.OpKey.{OpKey}
use Rattle.special_resources.specs.Holders.{Usage}
use Rattle.special_resources.specs.Holdings.{Held}
use Rattle.special_resources.specs.Needs.{Usages}
use Rattle.status_rules.specs.Table.{marked_status}
use Rattle.status_rules.specs.declared.Mark.{Mark}
use Rattle.plan_model.specs.Contents.{Operation}
use Rattle.plan_model.specs.Holdings.{holds_resource, holds_server}
use Rattle.start_choice.specs.Takings.{HaveTaken, with_one_more}
use Rattle.workstations.specs.declared.Capacity.{Capacity}

-- what is given out with what the operation takes by its mark, where the rest take this
abbrev pub with_taking : Capacity → Operation → Capacity
with_taking rest op = cond (holds_server (marked_status op.mark)) (with_one_more rest op) rest

-- o has released what it needs and, with this mark, doesn't hold; nothing else changes
pub record HaveReleased (before : Held) (o : OpKey) (needs : Usages) (mark : Mark) (after : Held) : Type 0 where
  pub others : (p : OpKey) (r : Name) → p ≢ o → get after (r, p) ≡ get before (r, p)
  pub freed : (r : Name) (usage : Usage) → get needs r ≡ Some usage → holds_resource usage.keep (marked_status mark) ≡ false → get after (r, o) ≡ None
  pub kept : (r : Name) → ((usage : Usage) → get needs r ≡ Some usage → holds_resource usage.keep (marked_status mark) ≡ true) → get after (r, o) ≡ get before (r, o)

-- o has released what it needs and, with this mark, doesn't hold, and then taken what it does hold
abbrev pub HaveRetaken : Held → OpKey → Usages → Mark → Held → Type 0
HaveRetaken before o needs mark after = (between : Held) × HaveReleased before o needs mark between × HaveTaken between o needs mark after
