-- Workstations: when they are open, what is given out and open, and how much is ready.
use Rattle.std.specs.Prelude.{◌≡◌, ◌⊎◌, ℕ, ℤ, pos, negsuc, true, false, List, length, Option, None, Some}
use Rattle.std.specs.FinMap.{entries, get}
use Rattle.std.specs.List.{AllZip}
use Rattle.plan_basics.specs.Intervals.{IsOpenAt, OpenInterval}
use Rattle.plan_basics.specs.Keys.{Name}
use Rattle.plan_model.specs.Holdings.{given_out}
use Rattle.plan_model.specs.Plan.{Plan}
use Rattle.plan_reasons.specs.Reasons.{IsClosedAt, IsNextOpening}
use Rattle.plan_reasons.specs.plan_core.specs.Views.{AreReadyViews}
use Rattle.plan_reasons.specs.plan_core.specs.declared.views.OpView.{OpView}
use Rattle.workstations.specs.Workstations.{capacity_of, Workstation}
use Rattle.plan_shows.specs.declared.stations.Hours.{Hours}
use Rattle.plan_shows.specs.declared.stations.WorkstationView.{WorkstationView}

-- while this interval is open: until its end, with what it offers
abbrev pub open_hours : OpenInterval → Hours
open_hours x = record { is_open = true; until = pos x.end; offered = capacity_of x }

-- a moment, or one before all of them where there is none
abbrev pub minute_if_any : Option ℕ → ℤ
minute_if_any (Some m) = pos m
minute_if_any None = negsuc 0

-- while none is: until the next one begins, if there is one, with nothing
abbrev pub closed_hours : Option ℕ → Hours
closed_hours next = record { is_open = false; until = minute_if_any next; offered = record { servers = 0; r1 = 0; r2 = 0 } }

-- an interval of the workstation contains the minute, and these are its hours; or none does, and they are those up to its next one
abbrev pub AreHours : Workstation → ℕ → Hours → Type 0
AreHours ws m h =
    ((x : OpenInterval) × (get ws.intervals x.from ≡ Some x) × IsOpenAt x m × (h ≡ open_hours x))
    ⊎ (IsClosedAt ws m × ((next : Option ℕ) × IsNextOpening ws m next × (h ≡ closed_hours next)))

-- what the plan has under this name, at its clock
pub record IsWorkstationView (P : Plan) (x : Name × Workstation) (v : WorkstationView) : Type 0 where
  pub name : v.name ≡ x.0
  pub attribute : v.attribute ≡ x.1.attribute
  pub hours : AreHours x.1 P.clock v.hours
  pub given : v.given ≡ given_out P.contents x.0
  pub ready : (views : List OpView) × AreReadyViews P.contents x.0 views × (v.ready ≡ length views)

-- all workstations, by name
abbrev pub AreWorkstationViews : Plan → List WorkstationView → Type 0
AreWorkstationViews P views = AllZip (IsWorkstationView P) (entries P.contents.workstations) views
