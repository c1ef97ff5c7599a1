-- A plan that is loaded into a new desk.
use Rattle.std.specs.Prelude.{◌⊎◌, ℤ, Option}
use Rattle.plan_basics.specs.declared.Refusal.{Refusal}
use Rattle.plan_records.specs.plan_model.specs.Contents.{Contents}
use Rattle.plan_records.specs.Answer.{Answer, refused}
use Rattle.plan_records.specs.Run.{Answers, State, Usable, empty_state, plain, usable}
use Rattle.plan_records.specs.declared.Request.{Request}
use Rattle.plan_records.specs.declared.What.TheVariants.{Load}
use Rattle.desk_tables.specs.Faults.{IsOpeningRefusal}

-- the load of a draft at a minute; of none, for a text that denotes none
abbrev pub load_request : ℤ → Option Contents → Request
load_request at draft = record { at = at; what = Load draft }

-- a desk at which nothing is loaded answers so to the load of a draft at a minute, and this is its state then
abbrev pub IsLoaded : ℤ → Option Contents → Answer → State → Type 0
IsLoaded at found a s = (v : Usable) × Answers empty_state usable (plain (load_request at found)) a s v

-- why a draft isn't loaded into a new desk
abbrev pub IsLoadRefusal : ℤ → Option Contents → Refusal → Type 0
IsLoadRefusal at found r = ((s : State) × IsLoaded at found (refused r) s) ⊎ IsOpeningRefusal r
