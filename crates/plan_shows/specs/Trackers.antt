-- Trackers, each with the last of its requests that was accepted.
use Rattle.std.specs.Prelude.{◌≡◌, ℕ, List, Option, MatchOption}
use Rattle.std.specs.FinMap.{entries}
use Rattle.std.specs.List.{AllZip}
use Rattle.plan_basics.specs.Keys.{Name}
use Rattle.plan_reasons.specs.plan_core.specs.plan_records.specs.Step.{Receipt, Receipts}
use Rattle.plan_reasons.specs.plan_core.specs.plan_records.specs.declared.Request.{Request}
use Rattle.request_json.specs.Requests.{ReadsAsReport}
use Rattle.request_json.specs.declared.NumberedRequest.{NumberedRequest}
use Rattle.plan_shows.specs.declared.trackers.TrackerView.{TrackerView}

-- what the text asks as the report of a tracker; none where it is no report, as a text may be that didn't come over HTTP
abbrev pub IsAskedBy : List ℕ → Option Request → Type 0
IsAskedBy text asked = MatchOption asked ((n : NumberedRequest) → ¬ ReadsAsReport text n) (λ r. (n : NumberedRequest) × ReadsAsReport text n × (r ≡ n.request))

-- the tracker's receipt: its number, and what its text asks
pub record IsTrackerView (x : Name × Receipt) (v : TrackerView) : Type 0 where
  pub tracker : v.tracker ≡ x.0
  pub number : v.number ≡ x.1.number
  pub request : IsAskedBy x.1.text v.request

-- all trackers that have a receipt, by name
abbrev pub AreTrackerViews : Receipts → List TrackerView → Type 0
AreTrackerViews T views = AllZip IsTrackerView (entries T) views
