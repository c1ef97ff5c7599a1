-- What a request for a list is told.
use Rattle.std.specs.Prelude.{◌≡◌, ◌⊎◌, ℕ, List, map, true, false}
use Rattle.std.specs.FinMap.{contains_key}
use Rattle.plan_basics.specs.Names.{IsName}
use Rattle.plan_basics.specs.declared.Refusal.{Refusal}
use Rattle.plan_basics.specs.declared.Refusal.TheVariants as refusal
use Rattle.desk_tables.specs.plan_core.specs.Views.{AreReadyViews, AreOccViews}
use Rattle.desk_tables.specs.plan_core.specs.declared.views.OccView.{OccView}
use Rattle.desk_tables.specs.plan_core.specs.declared.views.OpView.{OpView}
use Rattle.desk_tables.specs.plan_model.specs.Contents.{Contents}
use Rattle.desk_tables.specs.plan_model.specs.Plan.{Plan}
use Rattle.plan_records.specs.Run.{Usable, usable, to_be_reopened}
use Rattle.plan_records.specs.declared.Reply.TheVariants as reply
use Rattle.request_json.specs.declared.rows.OccurrenceRow.{OccurrenceRow}
use Rattle.request_json.specs.declared.rows.ReadyRow.{ReadyRow}
use Rattle.tracker_http.specs.declared.told.Told.{Told}
use Rattle.tracker_http.specs.declared.told.Told.TheVariants as told

-- what a ready list shows of an operation
abbrev pub ready_row : OpView → ReadyRow
ready_row v = record { op = v.key; priority = v.priority; duration = v.duration; latest = v.latest; held = v.held; status = v.status }

-- what the list of occurrences shows of one
abbrev pub occurrence_row : OccView → OccurrenceRow
occurrence_row v = record { occurrence = v.key; priority = v.priority; deadline = v.deadline; status = v.status }

-- the name is that of a workstation of the plan
abbrev pub NamesWorkstation : List ℕ → Contents → Type 0
NamesWorkstation name P = IsName 4 name × (contains_key P.workstations name ≡ true)

-- the ready list of a workstation: its rows in ready order; or that there is no such workstation
abbrev pub TellsReady : List ℕ → Contents → Told → Type 0
TellsReady name P (told.Ready rows) = NamesWorkstation name P × ((views : List OpView) × AreReadyViews P name views × (rows.items ≡ map ready_row views))
TellsReady name P (told.Answer (reply.Refused refusal.UnknownWorkstation)) = ¬ NamesWorkstation name P
TellsReady name P t = ⊥

-- the list of occurrences: its rows in key order
abbrev pub TellsOccurrences : Contents → Told → Type 0
TellsOccurrences P (told.Occurrences rows) = (views : List OccView) × AreOccViews P views × (rows.items ≡ map occurrence_row views)
TellsOccurrences P t = ⊥

-- why no list is told: after a fault of the store the desk is to be reopened, else no plan is loaded
abbrev pub IsListRefusal : Usable → Plan → Refusal → Type 0
IsListRefusal to_be_reopened P r = r ≡ refusal.Reopen
IsListRefusal usable P r = (P.loaded ≡ false) × (r ≡ refusal.NotLoaded)

-- lists are told
abbrev pub IsListed : Usable → Plan → Type 0
IsListed u P = (u ≡ usable) × (P.loaded ≡ true)

-- a list is refused, or told of what the plan holds
abbrev pub TellsList : (Contents → Told → Type 0) → Usable → Plan → Told → Type 0
TellsList Tells u P x = ((r : Refusal) × IsListRefusal u P r × (x ≡ told.Answer (reply.Refused r))) ⊎ (IsListed u P × Tells P.contents x)
