-- Open intervals of a workstation as JSON writes them.
use Rattle.std.specs.Prelude.{◌≡◌, ℕ, List}
use Rattle.plan_basics.specs.Intervals.{OpenInterval, IsInterval}
use Rattle.plan_basics.specs.Minutes.{IsMomentText}
use Rattle.serde_json.specs.Data.{Data, string, number, unsigned, array, item, no_items}

-- a whole number
abbrev pub whole : ℕ → Data
whole n = number (unsigned n)

-- the text of a moment
abbrev pub IsMomentOf : Data → ℕ → Type 0
IsMomentOf d m = (text : List ℕ) × (d ≡ string text) × IsMomentText text m

-- first minute and end, and servers, R1 and R2, of a valid interval
pub record ArePartsOf (x : OpenInterval) (from end servers r1 r2 : Data) : Type 0 where
  pub valid : IsInterval x
  pub moments : IsMomentOf from x.from × IsMomentOf end x.end
  pub numbers : (servers ≡ whole x.servers) × (r1 ≡ whole x.r1) × (r2 ≡ whole x.r2)

-- an array of these five
abbrev pub IsIntervalOf : Data → OpenInterval → Type 0
IsIntervalOf d x = (from : Data) × (end : Data) × (servers : Data) × (r1 : Data) × (r2 : Data) × ArePartsOf x from end servers r1 r2
    × (d ≡ array (item from (item end (item servers (item r1 (item r2 no_items))))))
