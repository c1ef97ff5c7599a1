-- Workstations that take no more operations at a minute, whatever is asked of them.
use Rattle.std.specs.Prelude.{◌≡◌, ◌⊎◌, ℕ, Bool, true, List, Some, length, slice_get}
use Rattle.plan_basics.specs.declared.Refusal.TheVariants as refusal
use Rattle.workstations.specs.Timetables.{NamedWorkstation}
use Rattle.workstations.specs.Workstations.{HasRoom, Workstation}
use Rattle.workstations.specs.declared.Capacity.{Capacity}

-- where this is given out it is closed at m, or has no server left
abbrev pub IsShut : Workstation → ℕ → Capacity → Type 0
IsShut w m taken = (¬ HasRoom w m taken 0 0 refusal.Closed) ⊎ (¬ HasRoom w m taken 0 0 refusal.NoServer)

-- each workstation has its index in both lists, and where it is told to be shut it is, by what it has given out
-- (a shut one need not be told to be: that costs a look, and changes no answer)
pub record AreShut (rows : List NamedWorkstation) (m : ℕ) (given : List Capacity) (shut : List Bool) : Type 0 where
  pub sized : length given ≡ length rows
  pub told : length shut ≡ length rows
  pub each : (i : ℕ) (w : NamedWorkstation) (taken : Capacity) → slice_get shut i ≡ Some true → slice_get rows i ≡ Some w → slice_get given i ≡ Some taken → IsShut w.1 m taken
