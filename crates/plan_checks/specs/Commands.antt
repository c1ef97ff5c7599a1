-- What reports and commands are about, and which operations are under way.
use Rattle.std.specs.Prelude.{◌≡◌, ◌≢◌}
use Rattle.plan_model.specs.Contents.{Contents}
use Rattle.plan_basics.specs.declared.keys.OccKey.{OccKey}
use Rattle.plan_basics.specs.declared.keys.OpKey.{OpKey}
use Rattle.plan_model.specs.Status.{IsUnderWay}
use Rattle.plan_records.specs.declared.What.{What}
use Rattle.plan_records.specs.declared.What.TheVariants as what

-- q is another operation than o, and under way
abbrev pub IsOtherUnderWay : Contents → OpKey → OpKey → Type 0
IsOtherUnderWay P o q = (q ≢ o) × IsUnderWay P q

-- o is an operation of the occurrence, and under way
abbrev pub IsItsUnderWay : Contents → OccKey → OpKey → Type 0
IsItsUnderWay P c o = (o.occurrence ≡ c) × IsUnderWay P o

-- the request extends the plan: what it asks is asked of what is left of it
abbrev pub Extends : What → Type 0
Extends (what.Extend a) = Unit {0}
Extends _ = ⊥
