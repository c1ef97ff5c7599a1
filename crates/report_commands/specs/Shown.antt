-- What the program shows of a report, and of a show.
use Rattle.std.specs.Prelude.{◌≡◌, ◌⊎◌, Bool, ℕ, List, Option, Result, Ok, Err, codes}
use Rattle.std.specs.Io.KnownBytes.{Appends}
use Rattle.plan_basics.specs.KeyTexts.{IsOccurrenceText}
use Rattle.plan_basics.specs.Keys.{IsOccurrenceKey}
use Rattle.plan_basics.specs.Names.{IsName}
use Rattle.plan_basics.specs.declared.Refusal.{Refusal}
use Rattle.plan_records.specs.plan_model.specs.Plan.{Plan}
use Rattle.plan_reports.specs.Reports.{IsErrorReport, IsLateReport, IsOccurrenceReport, IsOwed, IsReadyReport, IsWritten, desk_show_refusal_of, ready_refusal_of, refusal_of}
use Rattle.plan_reports.specs.plan_shows.specs.Shows.{IsShow}
use Rattle.plan_reports.specs.plan_shows.specs.Typed.{IsTypedOperation}
use Rattle.plan_reports.specs.plan_shows.specs.declared.shows.Show.{Show}
use Rattle.plan_reports.specs.plan_shows.specs.declared.shows.Show.TheVariants as show
use Rattle.plan_records.specs.Step.{Receipts}
use Rattle.plan_reports.specs.declared.reports.ReportFault.{ReportFault}
use Rattle.plan_reports.specs.declared.reports.ReportFault.TheVariants as report_fault
use Rattle.plan_records.specs.Answer.{refused}
use Rattle.command_desks.specs.desk_tables.specs.Faults.{IsOpeningRefusal}
use Rattle.command_answers.specs.Answers.{IsShown, refusal_line}
use Rattle.command_answers.specs.Given.{AsksReport}
use Rattle.command_answers.specs.declared.endings.Ending.{Ending}
use Rattle.command_answers.specs.declared.endings.Ending.TheVariants as ending
use Rattle.command_answers.specs.declared.given.Kind.{Kind}
use Rattle.command_answers.specs.declared.given.Kind.TheVariants as kind

-- the text is this report of a plan
abbrev pub IsReport : Kind → Plan → List ℕ → Type 0
IsReport (kind.Ready w) P text = IsReadyReport P w text
IsReport kind.Occurrences P text = IsOccurrenceReport P text
IsReport kind.Errors P text = IsErrorReport P text
IsReport kind.Late P text = IsLateReport P text

-- the refusal that a desk owes to this report, if one
abbrev pub report_refusal_of : Kind → Bool → Plan → Option Refusal
report_refusal_of (kind.Ready w) usable P = ready_refusal_of usable P w
report_refusal_of kind.Occurrences usable P = refusal_of usable P
report_refusal_of kind.Errors usable P = refusal_of usable P
report_refusal_of kind.Late usable P = refusal_of usable P

-- how a run ends behind a report: it was written, and nothing is added; or its refusal was shown
abbrev pub IsEndOf : Result (Unit {0}) ReportFault → Option (List ℕ) → Option (List ℕ) → Ending → Type 0
IsEndOf (Ok x) old new ending.Done = new ≡ old
IsEndOf (Err (report_fault.Refused r)) old new ending.Refused = Appends old new (refusal_line r)
IsEndOf written old new e = ⊥

-- a text was shown: its bytes were added to the known ones; or the line of the refusal that is owed, or of want of memory
abbrev pub IsTold : Option Refusal → (List ℕ → Type 0) → Option (List ℕ) → Option (List ℕ) → Ending → Type 0
IsTold owed IsText old new ending.Done = IsWritten owed IsText old new
IsTold owed IsText old new ending.Refused = (r : Refusal) × IsOwed owed r × Appends old new (refusal_line r)
IsTold owed IsText old new ending.Misunderstood = ⊥

-- a report was shown, or why it is refused
abbrev pub IsReportShown : Kind → Bool → Plan → Option (List ℕ) → Option (List ℕ) → Ending → Type 0
IsReportShown k usable P = IsTold (report_refusal_of k usable P) (IsReport k P)

-- the report that is asked for was shown, of some desk; or why none could be opened
abbrev pub IsReportAsked : List ℕ → Option (List ℕ) → Option (List ℕ) → Option (List ℕ) → Ending → Type 0
IsReportAsked word ws old new ending =
    (k : Kind) × AsksReport word ws k
    × (((usable : Bool) × (P : Plan) × IsReportShown k usable P old new ending)
    ⊎ ((r : Refusal) × IsOpeningRefusal r × IsShown (refused r) old new ending))

-- a show is asked for by its word; that of an occurrence, of an operation or of a workstation by the text that is given for it too
abbrev pub AsksShow : List ℕ → (List ℕ → List ℕ) → Show → Type 0
AsksShow word given show.Started = word ≡ codes "started"
AsksShow word given (show.Operations c) = (word ≡ codes "operations") × IsOccurrenceKey c × IsOccurrenceText (given (codes "occ")) c
AsksShow word given show.Resources = word ≡ codes "resources"
AsksShow word given show.Workstations = word ≡ codes "workstations"
AsksShow word given show.Trackers = word ≡ codes "trackers"
AsksShow word given (show.Dependencies c) = (word ≡ codes "dependencies") × IsOccurrenceKey c × IsOccurrenceText (given (codes "occ")) c
AsksShow word given (show.Reach o) = (word ≡ codes "reach") × IsTypedOperation (given (codes "op")) o
AsksShow word given (show.Intervals w) = (word ≡ codes "intervals") × IsName 4 w × (w ≡ given (codes "ws"))

-- the words ask for no show
abbrev pub AsksNoShow : List ℕ → (List ℕ → List ℕ) → Type 0
AsksNoShow word given = (s : Show) → ¬ AsksShow word given s

-- a show was shown, or why it is refused
abbrev pub IsShowShown : Show → Bool → Plan → Receipts → Option (List ℕ) → Option (List ℕ) → Ending → Type 0
IsShowShown s usable P T = IsTold (desk_show_refusal_of usable s P) (IsShow s P T)

-- the show that is asked for was shown, of some desk; or why none could be opened
abbrev pub IsShowAsked : List ℕ → (List ℕ → List ℕ) → Option (List ℕ) → Option (List ℕ) → Ending → Type 0
IsShowAsked word given old new ending =
    (s : Show) × AsksShow word given s
    × (((usable : Bool) × (P : Plan) × (T : Receipts) × IsShowShown s usable P T old new ending)
    ⊎ ((r : Refusal) × IsOpeningRefusal r × IsShown (refused r) old new ending))
