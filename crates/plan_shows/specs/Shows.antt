-- What each show tells of a plan and of trackers' receipts, and when it is refused.
use Rattle.std.specs.Prelude.{◌≡◌, if◌then◌else◌, List, [], ◌∷◌, ℕ, map, flat_map, codes, Option, Some, None, Bool}
use Rattle.std.specs.FinMap.{contains_key, get}
use Rattle.plan_basics.specs.KeyTexts.{occurrence_text, operation_text}
use Rattle.plan_basics.specs.MomentTexts.{moment_text}
use Rattle.plan_basics.specs.declared.Refusal.{Refusal}
use Rattle.plan_basics.specs.declared.Refusal.TheVariants as refusal
use Rattle.plan_model.specs.Contents.{Contents}
use Rattle.plan_model.specs.Plan.{Plan}
use Rattle.plan_model.specs.Starts.{Reaches}
use Rattle.plan_reasons.specs.plan_core.specs.declared.views.OpView.{OpView}
use Rattle.plan_reasons.specs.plan_core.specs.plan_records.specs.Step.{Receipts}
use Rattle.plan_shows.specs.Columns.{dependency_columns, interval_columns, operation_columns, reached_columns, row_columns, started_columns, tracker_columns, workstation_columns}
use Rattle.report_lines.specs.Lines.{report}
use Rattle.workstations.specs.Workstations.{Workstation}
use Rattle.plan_shows.specs.Dependencies.{AreDependencyViews}
use Rattle.plan_shows.specs.Intervals.{intervals_of}
use Rattle.plan_shows.specs.Resources.{AreResourceViews, rows_of}
use Rattle.plan_shows.specs.Stations.{AreWorkstationViews}
use Rattle.plan_shows.specs.Trackers.{AreTrackerViews}
use Rattle.plan_shows.specs.Views.{AreViewsOf, IsOfOccurrence, IsStarted}
use Rattle.plan_shows.specs.declared.dependencies.DependencyView.{DependencyView}
use Rattle.plan_shows.specs.declared.resources.ResourceView.{ResourceView}
use Rattle.plan_shows.specs.declared.shows.Show.{Show}
use Rattle.plan_shows.specs.declared.shows.Show.TheVariants as show
use Rattle.plan_shows.specs.declared.stations.WorkstationView.{WorkstationView}
use Rattle.plan_shows.specs.declared.trackers.TrackerView.{TrackerView}

-- what a first line ends with: the moment of the clock
abbrev pub at_moment : ℕ → List (List ℕ)
at_moment clock = codes "AT" ∷ moment_text clock ∷ []

-- the text is this show of the plan, and of these receipts
abbrev pub IsShow : Show → Plan → Receipts → List ℕ → Type 0
-- what is started, by key
IsShow show.Started P T text =
    (views : List OpView) × AreViewsOf P.contents (IsStarted P.contents) views
    × (text ≡ report (codes "STARTED" ∷ at_moment P.clock) (map started_columns views))
-- the operations of an occurrence, by number
IsShow (show.Operations c) P T text =
    (views : List OpView) × AreViewsOf P.contents (IsOfOccurrence P.contents c) views
    × (text ≡ report (codes "OPERATIONS" ∷ occurrence_text c ∷ at_moment P.clock) (map operation_columns views))
-- the special resources by name, each followed by those that hold it, by key
IsShow show.Resources P T text =
    (views : List ResourceView) × AreResourceViews P.contents views
    × (text ≡ report (codes "RESOURCES" ∷ at_moment P.clock) (map row_columns (flat_map rows_of views)))
-- the workstations, by name
IsShow show.Workstations P T text =
    (views : List WorkstationView) × AreWorkstationViews P views
    × (text ≡ report (codes "WORKSTATIONS" ∷ at_moment P.clock) (map workstation_columns views))
-- the trackers, by name
IsShow show.Trackers P T text =
    (views : List TrackerView) × AreTrackerViews T views
    × (text ≡ report (codes "TRACKERS" ∷ at_moment P.clock) (map tracker_columns views))
-- the dependencies of an occurrence, by predecessor, then successor
IsShow (show.Dependencies c) P T text =
    (views : List DependencyView) × AreDependencyViews P.contents c views
    × (text ≡ report (codes "DEPENDENCIES" ∷ occurrence_text c ∷ at_moment P.clock) (map dependency_columns views))
-- what a rerun of an operation reaches, itself too, by key
IsShow (show.Reach o) P T text =
    (views : List OpView) × AreViewsOf P.contents (Reaches P.contents o) views
    × (text ≡ report (codes "REACH" ∷ operation_text o ∷ at_moment P.clock) (map reached_columns views))
-- the open intervals of a workstation, by first minute
IsShow (show.Intervals w) P T text =
    (ws : Workstation) × (get P.contents.workstations w ≡ Some ws)
    × (text ≡ report (codes "INTERVALS" ∷ w ∷ at_moment P.clock) (map interval_columns (intervals_of ws)))

-- whether the plan has what is to be shown; if not, this refusal is owed
abbrev pub unless_there : Bool → Refusal → Option Refusal
unless_there there r = if there then None else Some r

-- the refusal that is owed to a show of a loaded plan, if one: the occurrence, the operation or the workstation isn't in it
abbrev pub unknown_refusal_of : Show → Contents → Option Refusal
unknown_refusal_of (show.Operations c) P = unless_there (contains_key P.occurrences c) refusal.UnknownOccurrence
unknown_refusal_of (show.Dependencies c) P = unless_there (contains_key P.occurrences c) refusal.UnknownOccurrence
unknown_refusal_of (show.Reach o) P = unless_there (contains_key P.operations o) refusal.UnknownOperation
unknown_refusal_of (show.Intervals w) P = unless_there (contains_key P.workstations w) refusal.UnknownWorkstation
unknown_refusal_of _ P = None

-- the refusal that is owed to a show, if one: no plan is loaded; or what is to be shown isn't in it
abbrev pub show_refusal_of : Show → Plan → Option Refusal
show_refusal_of s P = if P.loaded then unknown_refusal_of s P.contents else Some refusal.NotLoaded

-- where a refusal is owed, it is the one that is given; else only that memory lacks
abbrev pub IsOwed : Option Refusal → Refusal → Type 0
IsOwed (Some owed) r = r ≡ owed
IsOwed None r = r ≡ refusal.Memory
