-- The clock's guard: a request whose moment is too far after the plan's clock is told so, and nothing changes.
use Rattle.std.specs.Prelude.{◌≡◌, ◌⊎◌, ℕ, ◌+◌, ℤ, pos, ◌<ℤ◌, List, Option, Some, None, true}
use Rattle.http_messages.specs.declared.asking.Asked.{Asked}
use Rattle.http_messages.specs.declared.asking.Asked.TheVariants as asked
use Rattle.http_messages.specs.declared.statuses.Status.TheVariants as status
use Rattle.desk_tables.specs.plan_model.specs.Plan.{Plan}
use Rattle.plan_records.specs.Run.{plain}
use Rattle.plan_records.specs.declared.Request.{Request}
use Rattle.request_json.specs.Requests.{ReadsAsRequest, ReadsAsReport}
use Rattle.request_json.specs.declared.NumberedRequest.{NumberedRequest}
use Rattle.tracker_http.specs.Exchange.{Seen, TellsAnswer, TellsBadBody, Tells, report_call}
use Rattle.tracker_http.specs.declared.told.Told.{Told}
use Rattle.tracker_http.specs.declared.told.Told.TheVariants as told

-- where there is a guard of so many minutes: the moment is more than these after the clock of a loaded plan
abbrev pub IsTooFar : Option ℕ → Plan → ℤ → Type 0
IsTooFar (Some ahead) P at = (P.loaded ≡ true) × (pos (P.clock + ahead) <ℤ at)
IsTooFar None P at = ⊥

-- what a request of this moment is told: that it is too far ahead, and then nothing changes; or what it is told without a guard
abbrev pub Guarded : Option ℕ → ℤ → (Seen → Told → Seen → Type 0) → Seen → Told → Seen → Type 0
Guarded ahead at TellsUnguarded s x t =
    (IsTooFar ahead s.state.plan at × (x ≡ told.Fault status.UnprocessableEntity) × (t ≡ s))
    ⊎ ((¬ IsTooFar ahead s.state.plan at) × TellsUnguarded s x t)

-- a report is made, if the body is one and the guard lets it
abbrev pub TellsReportWithin : Option ℕ → List ℕ → Seen → Told → Seen → Type 0
TellsReportWithin ahead body s x t =
    ((n : NumberedRequest) × ReadsAsReport body n × Guarded ahead n.request.at (TellsAnswer (report_call n body)) s x t)
    ⊎ (((n : NumberedRequest) → ¬ ReadsAsReport body n) × TellsBadBody s x t)

-- an operator's request is made, if the body is one and the guard lets it
abbrev pub TellsOperatorWithin : Option ℕ → List ℕ → Seen → Told → Seen → Type 0
TellsOperatorWithin ahead body s x t =
    ((q : Request) × ReadsAsRequest body q × Guarded ahead q.at (TellsAnswer (plain q)) s x t)
    ⊎ (((q : Request) → ¬ ReadsAsRequest body q) × TellsBadBody s x t)

-- what a request in good form is told, and the desk after it; lists have no moment
abbrev pub TellsWithin : Option ℕ → Asked → Seen → Told → Seen → Type 0
TellsWithin ahead (asked.Report body) s x t = TellsReportWithin ahead body.items s x t
TellsWithin ahead (asked.Operator body) s x t = TellsOperatorWithin ahead body.items s x t
TellsWithin ahead (asked.Ready name) s x t = Tells (asked.Ready name) s x t
TellsWithin ahead asked.Occurrences s x t = Tells asked.Occurrences s x t
