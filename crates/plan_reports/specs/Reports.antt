-- What each report tells of a plan, and when it is refused.
use Rattle.std.specs.Prelude.{◌≡◌, Bool, if◌then◌else◌, ℕ, List, Option, Some, None, is_some}
use Rattle.std.specs.FinMap.{contains_key, get}
use Rattle.std.specs.Io.KnownBytes.{Appends}
use Rattle.plan_basics.specs.Keys.{Name}
use Rattle.plan_basics.specs.Watched.{AppendsBeginning}
use Rattle.plan_basics.specs.declared.Refusal.{Refusal}
use Rattle.plan_basics.specs.declared.Refusal.TheVariants as refusal
use Rattle.plan_basics.specs.declared.keys.OpKey.{OpKey}
use Rattle.desk_tables.specs.plan_core.specs.Views.{AreOccViews, AreReadyViews}
use Rattle.desk_tables.specs.plan_core.specs.declared.views.OccView.{OccView}
use Rattle.desk_tables.specs.plan_core.specs.declared.views.OpView.{OpView}
use Rattle.plan_model.specs.Plan.{Plan}
use Rattle.desk_tables.specs.Errors.{AreErrorRows}
use Rattle.desk_tables.specs.declared.errors.ErrorRow.{ErrorRow}
use Rattle.plan_shows.specs.plan_reasons.specs.Whys.{IsWhy}
use Rattle.plan_shows.specs.plan_reasons.specs.declared.answer.Why.{Why}
use Rattle.plan_shows.specs.plan_reasons.specs.Texts.{why_text}
pub use Rattle.plan_shows.specs.Shows.{IsOwed}
use Rattle.plan_shows.specs.Shows.{show_refusal_of}
use Rattle.plan_shows.specs.declared.shows.Show.{Show}
use Rattle.plan_reports.specs.Late.{AreLateViews}
use Rattle.plan_reports.specs.Texts.{errors_text, late_text, occurrences_text, ready_text}

-- the text tells what is ready on this workstation, in the order of the ready list
abbrev pub IsReadyReport : Plan → Name → List ℕ → Type 0
IsReadyReport P w text = (views : List OpView) × AreReadyViews P.contents w views × (text ≡ ready_text w P.clock views)

-- it tells all occurrences, in key order
abbrev pub IsOccurrenceReport : Plan → List ℕ → Type 0
IsOccurrenceReport P text = (views : List OccView) × AreOccViews P.contents views × (text ≡ occurrences_text P.clock views)

-- it tells the operations in error, in key order
abbrev pub IsErrorReport : Plan → List ℕ → Type 0
IsErrorReport P text = (rows : List ErrorRow) × AreErrorRows P.contents rows × (text ≡ errors_text P.clock rows)

-- it tells the operations that are late, by latest start and then key
abbrev pub IsLateReport : Plan → List ℕ → Type 0
IsLateReport P text = (views : List OpView) × AreLateViews P views × (text ≡ late_text P.clock views)

-- it tells why this operation doesn't go on at this moment: every reason, and the roots of what it waits for
abbrev pub IsWhyReport : Plan → OpKey → ℕ → List ℕ → Type 0
IsWhyReport P o m text = (w : Why) × IsWhy P.contents o m w × (text ≡ why_text o m w)

-- the refusal that a desk owes to any report, if one: it has to be opened again, or else no plan is loaded
abbrev pub refusal_of : Bool → Plan → Option Refusal
refusal_of usable P = if usable then (if P.loaded then None else Some refusal.NotLoaded) else Some refusal.Reopen

-- so to the report of what is ready: these come first, and then that the workstation isn't in the plan
abbrev pub ready_refusal_of : Bool → Plan → Name → Option Refusal
ready_refusal_of usable P w =
    if usable then (if P.loaded then (if contains_key P.contents.workstations w then None else Some refusal.UnknownWorkstation) else Some refusal.NotLoaded) else Some refusal.Reopen

-- so to the report of an operation: these come first, and then that it isn't in the plan
abbrev pub why_refusal_of : Bool → Plan → OpKey → Option Refusal
why_refusal_of usable P o =
    if usable then (if P.loaded then (if is_some (get P.contents.operations o) then None else Some refusal.UnknownOperation) else Some refusal.NotLoaded) else Some refusal.Reopen

-- so to a show: that the desk has to be opened again, and else what is owed of its plan
abbrev pub desk_show_refusal_of : Bool → Show → Plan → Option Refusal
desk_show_refusal_of usable s P = if usable then show_refusal_of s P else Some refusal.Reopen

-- no refusal is owed, and such a text was added to the known bytes
abbrev pub IsWritten : Option Refusal → (List ℕ → Type 0) → Option (List ℕ) → Option (List ℕ) → Type 0
IsWritten owed IsText old new = (owed ≡ None) × ((text : List ℕ) × IsText text × Appends old new text)

-- no refusal is owed, and a beginning of such a text was added
abbrev pub IsBegun : Option Refusal → (List ℕ → Type 0) → Option (List ℕ) → Option (List ℕ) → Type 0
IsBegun owed IsText old new = (owed ≡ None) × ((text : List ℕ) × IsText text × AppendsBeginning old new text)
