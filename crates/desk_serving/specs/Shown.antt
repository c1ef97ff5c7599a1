-- What a look is shown of a desk.
use Rattle.std.specs.Prelude.{◌≡◌, ◌⊎◌, Bool, true, false, if◌then◌else◌, ℕ, nat_lt, List, Option, Some, None, unwrap_or}
use Rattle.board_pages.specs.Boards.{IsBoard}
use Rattle.html_pages.specs.Looks.{look_parts}
use Rattle.html_pages.specs.Pieces.{bytes}
use Rattle.html_pages.specs.Refusals.{front_parts, refused_parts}
use Rattle.board_pages.specs.declared.views.View.{View}
use Rattle.board_pages.specs.declared.views.Watch.{Watch}
use Rattle.board_pages.specs.forecast_texts.specs.plan_outlooks.specs.forecasting.specs.Known.{since_in}
use Rattle.board_pages.specs.forecast_texts.specs.Texts.{IsForecastText}
use Rattle.http_messages.specs.Replies.{page_reply, reply, text_reply}
use Rattle.http_messages.specs.declared.looks.Detail.{Detail}
use Rattle.http_messages.specs.declared.looks.Detail.TheVariants as detail
use Rattle.http_messages.specs.declared.looks.Look.{Look}
use Rattle.http_messages.specs.declared.looks.Look.TheVariants as look
use Rattle.http_messages.specs.declared.looks.Page.{Page}
use Rattle.http_messages.specs.declared.looks.Page.TheVariants as page
use Rattle.http_messages.specs.declared.queries.BoardQuery.{BoardQuery}
use Rattle.http_messages.specs.declared.queries.Until.{Until}
use Rattle.http_messages.specs.declared.queries.Until.TheVariants as until
use Rattle.http_messages.specs.declared.statuses.Status.TheVariants as status
use Rattle.plan_basics.specs.KeyTexts.{IsOccurrenceText}
use Rattle.plan_basics.specs.Keys.{IsOccurrenceKey, Name}
use Rattle.plan_basics.specs.Names.{IsName}
use Rattle.plan_basics.specs.Refusals.{name_of}
use Rattle.plan_basics.specs.declared.Refusal.{Refusal}
use Rattle.plan_basics.specs.declared.Refusal.TheVariants as refusal
use Rattle.plan_basics.specs.declared.keys.OccKey.{OccKey}
use Rattle.plan_basics.specs.declared.keys.OpKey.{OpKey}
use Rattle.plan_reports.specs.desk_tables.specs.Desk.{DeskState}
use Rattle.plan_reports.specs.desk_tables.specs.plan_model.specs.Plan.{Plan}
use Rattle.plan_reports.specs.desk_tables.specs.plan_records.specs.declared.Reply.TheVariants as answer
use Rattle.plan_reports.specs.plan_shows.specs.Shows.{IsShow}
use Rattle.plan_reports.specs.plan_shows.specs.Typed.{IsTypedOperation}
use Rattle.plan_reports.specs.plan_shows.specs.Values.{health_data, started_refusal_of, IsStartedText}
use Rattle.plan_reports.specs.plan_shows.specs.declared.shows.Show.{Show}
use Rattle.plan_reports.specs.plan_shows.specs.declared.shows.Show.TheVariants as show
use Rattle.plan_reports.specs.Reports.{desk_show_refusal_of, ready_refusal_of, refusal_of, why_refusal_of, IsErrorReport, IsLateReport, IsOccurrenceReport, IsReadyReport, IsWhyReport}
use Rattle.serde_json.specs.Written.{compact_text}
use Rattle.desk_serving.specs.Judged.{IsJudgedText}
use Rattle.desk_serving.specs.declared.terms.Terms.{Terms}
use Rattle.tracker_http.specs.Told.{reply_of, status_of_refusal}
use Rattle.tracker_http.specs.declared.told.Told.TheVariants as told

-- the reply that tells a refusal
abbrev pub refused_reply : Refusal → List ℕ
refused_reply r = reply_of (told.Answer (answer.Refused r))

-- the reply that tells a refusal as a page, which loads again unless it is to be still
abbrev pub refused_page_reply : Bool → Refusal → List ℕ
refused_page_reply still r = page_reply (status_of_refusal r) (bytes (refused_parts still (name_of r)))

-- as what a text is shown: as it is, or as a page under a key, with or without rows
abbrev pub shown_as : Bool → List ℕ → Bool → List ℕ → List ℕ
shown_as false key rows text = text_reply text
shown_as true key rows text = page_reply status.Success (bytes (look_parts key rows text))

-- and a refusal, as a page by its name
abbrev pub refused_as : Bool → Refusal → List ℕ
refused_as false r = refused_reply r
refused_as true r = page_reply (status_of_refusal r) (bytes (look_parts (name_of r) false (name_of r)))

-- the reply that tells a value by its text
abbrev pub value_reply : List ℕ → List ℕ
value_reply text = reply status.Success text

-- the refusal that is owed is told in a reply of one form; where none is, such a text is, in one of the other
abbrev pub ShowsBy : (Refusal → List ℕ) → (List ℕ → List ℕ) → Option Refusal → (List ℕ → Type 0) → List ℕ → Type 0
ShowsBy refused form (Some r) IsText output = output ≡ refused r
ShowsBy refused form None IsText output = (text : List ℕ) × IsText text × (output ≡ form text)

-- so, the refusal as a value
abbrev pub ShowsIn : (List ℕ → List ℕ) → Option Refusal → (List ℕ → Type 0) → List ℕ → Type 0
ShowsIn = ShowsBy refused_reply

-- a text for people
abbrev pub ShowsText : Option Refusal → (List ℕ → Type 0) → List ℕ → Type 0
ShowsText = ShowsIn text_reply

-- the text of a value
abbrev pub ShowsValue : Option Refusal → (List ℕ → Type 0) → List ℕ → Type 0
ShowsValue = ShowsIn value_reply

-- what a desk owes: that it is to be opened again comes first
abbrev pub owed_by : Bool → Option Refusal → Option Refusal
owed_by usable owed = if usable then owed else Some refusal.Reopen

-- the refusal that a desk owes to whoever asks for something that no plan has
abbrev pub refusal_or : Refusal → Bool → Plan → Refusal
refusal_or r usable P = unwrap_or (refusal_of usable P) r

-- the bytes are the text of this key
abbrev pub NamesOccurrence : List ℕ → OccKey → Type 0
NamesOccurrence bytes c = IsOccurrenceKey c × IsOccurrenceText bytes c

-- a show of the desk
abbrev pub ShowsShow : {S : Type 0} → Show → DeskState S → List ℕ → Type 0
ShowsShow s d output = ShowsText (desk_show_refusal_of d.is_usable s d.plan) (IsShow s d.plan d.receipts) output

-- what is started, on this workstation or on any
abbrev pub ShowsStarted : {S : Type 0} → Option Name → DeskState S → List ℕ → Type 0
ShowsStarted w d output = ShowsValue (owed_by d.is_usable (started_refusal_of w d.plan)) (IsStartedText w d.plan) output

-- the text of a forecast from the plan's clock on, by what is known of starts
abbrev pub ShowsForecast : {S : Type 0} → (OpKey → Option ℕ) → DeskState S → List ℕ → Type 0
ShowsForecast starts d output = ShowsText (refusal_of d.is_usable d.plan) (IsForecastText d.plan starts d.plan.clock None) output

-- ---- the board

-- the moment up to which it is asked to tell, if it is one
abbrev pub moment_of : Until → Option ℕ
moment_of until.End = None
moment_of (until.Moment m) = Some m
moment_of until.NoMoment = None

-- it is refused where it is none, or before the plan's clock
abbrev pub until_refusal_of : ℕ → Until → Option Refusal
until_refusal_of clock until.End = None
until_refusal_of clock (until.Moment m) = if nat_lt m clock then Some refusal.Past else None
until_refusal_of clock until.NoMoment = Some refusal.MomentRange

-- the refusal that a desk owes to whoever asks for the board: what it owes for any report, or else that of the moment
abbrev pub board_refusal_of : Bool → Plan → Until → Option Refusal
board_refusal_of usable P u = if usable then (if P.loaded then until_refusal_of P.clock u else Some refusal.NotLoaded) else Some refusal.Reopen

-- how it is looked at
abbrev pub view_of : BoardQuery → View
view_of q = record { is_still = q.is_still; until = moment_of q.until }

-- its page, of a forecast from the plan's clock on; a refusal is a page too
abbrev pub ShowsBoard : {S : Type 0} → (OpKey → Option ℕ) → BoardQuery → Option Watch → DeskState S → List ℕ → Type 0
ShowsBoard starts q watch d output =
    ShowsBy (refused_page_reply q.is_still) (page_reply status.Success) (board_refusal_of d.is_usable d.plan q.until) (IsBoard d.plan starts d.plan.clock (view_of q) watch) output

-- for how many minutes a plan's clock has stood, as far as it is known
abbrev pub stood_in : Option Watch → ℕ
stood_in (Some w) = w.stood
stood_in None = 0

-- what is shown under one path alone, by these terms
abbrev pub ShowsPage : {S : Type 0} → Terms → Page → DeskState S → List ℕ → Type 0
ShowsPage terms page.Front d output = output ≡ page_reply status.Success (bytes front_parts)
ShowsPage terms page.Occurrences d output = ShowsText (refusal_of d.is_usable d.plan) (IsOccurrenceReport d.plan) output
ShowsPage terms page.Errors d output = ShowsText (refusal_of d.is_usable d.plan) (IsErrorReport d.plan) output
ShowsPage terms page.Late d output = ShowsText (refusal_of d.is_usable d.plan) (IsLateReport d.plan) output
ShowsPage terms page.ShowStarted d output = ShowsShow show.Started d output
ShowsPage terms page.ShowResources d output = ShowsShow show.Resources d output
ShowsPage terms page.ShowWorkstations d output = ShowsShow show.Workstations d output
ShowsPage terms page.ShowTrackers d output = ShowsShow show.Trackers d output
ShowsPage terms page.Started d output = ShowsStarted None d output
ShowsPage terms page.Health d output = ShowsValue (owed_by d.is_usable None) (λ text. text ≡ compact_text (health_data (stood_in terms.watch) d.plan)) output
ShowsPage terms page.Forecast d output = ShowsForecast (since_in terms.known) d output

-- the report of what is ready on the workstation of this name; one that is no name is no plan's
abbrev pub ShowsReady : {S : Type 0} → List ℕ → DeskState S → List ℕ → Type 0
ShowsReady name d output =
    (IsName 4 name × ShowsText (ready_refusal_of d.is_usable d.plan name) (IsReadyReport d.plan name) output)
    ⊎ ((¬ IsName 4 name) × (output ≡ refused_reply (refusal_or refusal.UnknownWorkstation d.is_usable d.plan)))

-- so, what is started on it
abbrev pub ShowsStartedOn : {S : Type 0} → List ℕ → DeskState S → List ℕ → Type 0
ShowsStartedOn name d output =
    (IsName 4 name × ShowsStarted (Some name) d output)
    ⊎ ((¬ IsName 4 name) × (output ≡ refused_reply (refusal_or refusal.UnknownWorkstation d.is_usable d.plan)))

-- why the operation of this key doesn't go on at the plan's clock, as a text or as a page; what is no key is no plan's
abbrev pub ShowsWhy : {S : Type 0} → Bool → List ℕ → DeskState S → List ℕ → Type 0
ShowsWhy as_page key d output =
    ((o : OpKey) × IsTypedOperation key o × ShowsBy (refused_as as_page) (shown_as as_page key false) (why_refusal_of d.is_usable d.plan o) (IsWhyReport d.plan o d.plan.clock) output)
    ⊎ (((o : OpKey) → ¬ IsTypedOperation key o) × (output ≡ refused_as as_page (refusal_or refusal.UnknownOperation d.is_usable d.plan)))

-- so, the operations of an occurrence
abbrev pub ShowsOperations : {S : Type 0} → Bool → List ℕ → DeskState S → List ℕ → Type 0
ShowsOperations as_page key d output =
    ((c : OccKey) × NamesOccurrence key c
    × ShowsBy (refused_as as_page) (shown_as as_page key true) (desk_show_refusal_of d.is_usable (show.Operations c) d.plan) (IsShow (show.Operations c) d.plan d.receipts) output)
    ⊎ (((c : OccKey) → ¬ NamesOccurrence key c) × (output ≡ refused_as as_page (refusal_or refusal.UnknownOccurrence d.is_usable d.plan)))

-- so, its dependencies
abbrev pub ShowsDependencies : {S : Type 0} → List ℕ → DeskState S → List ℕ → Type 0
ShowsDependencies key d output =
    ((c : OccKey) × NamesOccurrence key c × ShowsShow (show.Dependencies c) d output)
    ⊎ (((c : OccKey) → ¬ NamesOccurrence key c) × (output ≡ refused_reply (refusal_or refusal.UnknownOccurrence d.is_usable d.plan)))

-- so, what a rerun of an operation reaches
abbrev pub ShowsReach : {S : Type 0} → List ℕ → DeskState S → List ℕ → Type 0
ShowsReach key d output =
    ((o : OpKey) × IsTypedOperation key o × ShowsShow (show.Reach o) d output)
    ⊎ (((o : OpKey) → ¬ IsTypedOperation key o) × (output ≡ refused_reply (refusal_or refusal.UnknownOperation d.is_usable d.plan)))

-- so, the open intervals of a workstation, by its name
abbrev pub ShowsIntervals : {S : Type 0} → List ℕ → DeskState S → List ℕ → Type 0
ShowsIntervals name d output =
    (IsName 4 name × ShowsShow (show.Intervals name) d output)
    ⊎ ((¬ IsName 4 name) × (output ≡ refused_reply (refusal_or refusal.UnknownWorkstation d.is_usable d.plan)))

-- so, what the text of a request is told, which isn't asked
abbrev pub ShowsJudged : {S : Type 0} → List ℕ → DeskState S → List ℕ → Type 0
ShowsJudged body d output = ShowsValue (owed_by d.is_usable None) (IsJudgedText d.plan body) output

-- what is shown of one thing, by its name or its key
abbrev pub ShowsDetail : {S : Type 0} → Detail → List ℕ → DeskState S → List ℕ → Type 0
ShowsDetail detail.Ready name d output = ShowsReady name d output
ShowsDetail detail.Why key d output = ShowsWhy false key d output
ShowsDetail detail.WhyPage key d output = ShowsWhy true key d output
ShowsDetail detail.Operations key d output = ShowsOperations false key d output
ShowsDetail detail.OperationsPage key d output = ShowsOperations true key d output
ShowsDetail detail.Started name d output = ShowsStartedOn name d output
ShowsDetail detail.Dependencies key d output = ShowsDependencies key d output
ShowsDetail detail.Reach key d output = ShowsReach key d output
ShowsDetail detail.Intervals name d output = ShowsIntervals name d output

-- what a look is shown, by these terms
abbrev pub Shows : {S : Type 0} → Terms → Look → DeskState S → List ℕ → Type 0
Shows terms (look.Page p) d output = ShowsPage terms p d output
Shows terms (look.Board q) d output = ShowsBoard (since_in terms.known) q terms.watch d output
Shows terms (look.Detail x name) d output = ShowsDetail x name.items d output
Shows terms (look.Judged text) d output = ShowsJudged text.items d output
