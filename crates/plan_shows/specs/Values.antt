-- What is started, and how the desk is, as JSON values. Members stand in the order of their names, as they are written.
use Rattle.std.specs.Prelude.{◌≡◌, if◌then◌else◌, ℕ, List, map, codes, Option, Some, None}
use Rattle.std.specs.FinMap.{contains_key}
use Rattle.plan_basics.specs.KeyTexts.{operation_text}
use Rattle.plan_basics.specs.Keys.{Name}
use Rattle.plan_basics.specs.MomentTexts.{moment_text}
use Rattle.plan_basics.specs.declared.Refusal.{Refusal}
use Rattle.plan_basics.specs.declared.Refusal.TheVariants as refusal
use Rattle.plan_basics.specs.declared.keys.OpKey.{OpKey}
use Rattle.plan_model.specs.Contents.{Contents}
use Rattle.plan_model.specs.Plan.{Plan}
use Rattle.plan_reasons.specs.plan_core.specs.declared.views.OpView.{OpView}
use Rattle.request_json.specs.Intervals.{whole}
use Rattle.serde_json.specs.Data.{Data, array, boolean, member, no_members, null, object, string}
use Rattle.serde_json.specs.View.{items_of}
use Rattle.serde_json.specs.Written.{compact_text}
use Rattle.plan_shows.specs.Columns.{mark_word}
use Rattle.plan_shows.specs.Views.{AreViewsOf, IsStarted, IsStartedOn}

-- an operation that is started
abbrev pub started_data : OpView → Data
started_data v =
    object (member (codes "duration") (whole v.duration)
    (member (codes "mark") (string (mark_word v.mark))
    (member (codes "op") (string (operation_text v.key))
    (member (codes "ws") (string v.workstation) no_members))))

-- what is started: on this workstation, or on any
abbrev pub IsListed : Option Name → Contents → OpKey → Type 0
IsListed (Some w) P = IsStartedOn P w
IsListed None P = IsStarted P

-- the text is the array of what is started, by key
abbrev pub IsStartedText : Option Name → Plan → List ℕ → Type 0
IsStartedText w P text = (views : List OpView) × AreViewsOf P.contents (IsListed w P.contents) views × (text ≡ compact_text (array (items_of (map started_data views))))

-- the refusal that is owed to it, if one: no plan is loaded; or the workstation isn't in it
abbrev pub started_refusal_of : Option Name → Plan → Option Refusal
started_refusal_of (Some w) P =
    if P.loaded then (if contains_key P.contents.workstations w then None else Some refusal.UnknownWorkstation) else Some refusal.NotLoaded
started_refusal_of None P = if P.loaded then None else Some refusal.NotLoaded

-- the moment of the clock; null before a plan is loaded
abbrev pub clock_data : Plan → Data
clock_data P = if P.loaded then string (moment_text P.clock) else null

-- how the desk is: its clock, whether a plan is loaded, and for how many minutes the clock has stood
abbrev pub health_data : ℕ → Plan → Data
health_data stood P = object (member (codes "clock") (clock_data P) (member (codes "loaded") (boolean P.loaded) (member (codes "stood") (whole stood) no_members)))
