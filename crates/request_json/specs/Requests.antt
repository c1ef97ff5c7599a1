-- What a JSON text says as a request of an operator, or as a numbered report of a tracker.
use Rattle.std.specs.Prelude.{◌≡◌, ℕ, ◌≤◌, List, [], ◌∷◌, ◌++◌, MatchOption, codes}
use Rattle.std.specs.List.{AllZip}
use Rattle.plan_basics.specs.declared.keys.OccKey.{OccKey}
use Rattle.plan_basics.specs.declared.keys.OpKey.{OpKey}
use Rattle.plan_basics.specs.declared.limits.TheConstants.{GREATEST_REQUEST_NUMBER}
use Rattle.plan_basics.specs.Keys.{IsOccurrenceKey, IsOperationKey}
use Rattle.plan_basics.specs.KeyTexts.{IsOccurrenceText, IsOperationText}
use Rattle.plan_basics.specs.Minutes.{IsMinuteText}
use Rattle.plan_basics.specs.Names.{IsName, IsResourceName}
use Rattle.plan_records.specs.plan_model.specs.Contents.{Contents, AddedParts}
use Rattle.plan_records.specs.declared.Request.{Request}
use Rattle.plan_records.specs.declared.What.{What}
use Rattle.plan_records.specs.declared.What.TheVariants as what
use Rattle.plan_import.specs.Texts.{TextDenotes, TextDenotesAddition, TextDenotesExtension}
use Rattle.serde_json.specs.Data.{Data, boolean, string, array}
use Rattle.serde_json.specs.View.{items_of}
use Rattle.request_json.specs.Members.{Member, IsJsonOf, HasExactly}
use Rattle.request_json.specs.Intervals.{whole, IsIntervalOf}
use Rattle.request_json.specs.declared.NumberedRequest.{NumberedRequest}

-- the text is that of an operation's key
abbrev pub SpellsOperation : List ℕ → OpKey → Type 0
SpellsOperation text key = IsOperationKey key × IsOperationText text key

-- the text is that of an occurrence's key
abbrev pub SpellsOccurrence : List ℕ → OccKey → Type 0
SpellsOccurrence text key = IsOccurrenceKey key × IsOccurrenceText text key

-- the member `op` alone, with the key of this operation
abbrev pub NamesOperation : OpKey → List Member → Type 0
NamesOperation key members = (op : List ℕ) × SpellsOperation op key × (members ≡ (codes "op", string op) ∷ [])

-- what is asked, by the text of the member `do` and by the members that come with it
abbrev pub Asks : What → List ℕ → List Member → Type 0
-- a report of what became of an operation
Asks (what.Started key) verb members = (verb ≡ codes "started") × NamesOperation key members
Asks (what.Ended key) verb members = (verb ≡ codes "ended") × NamesOperation key members
Asks (what.Interrupted key) verb members = (verb ≡ codes "interrupted") × NamesOperation key members
Asks (what.Unknown key) verb members = (verb ≡ codes "unknown") × NamesOperation key members
-- a report of an error has its code too
Asks (what.Error key code) verb members = (verb ≡ codes "error") × (op : List ℕ) × SpellsOperation op key × IsName 4 code
    × (members ≡ (codes "op", string op) ∷ (codes "code", string code) ∷ [])
-- a command on an operation
Asks (what.Hold key) verb members = (verb ≡ codes "hold") × NamesOperation key members
Asks (what.Release key) verb members = (verb ≡ codes "release") × NamesOperation key members
Asks (what.Nop key) verb members = (verb ≡ codes "nop") × NamesOperation key members
Asks (what.Unnop key) verb members = (verb ≡ codes "unnop") × NamesOperation key members
Asks (what.Rerun key) verb members = (verb ≡ codes "rerun") × NamesOperation key members
Asks (what.Complete key) verb members = (verb ≡ codes "complete") × NamesOperation key members
-- a tick has no more members
Asks what.Tick verb members = (verb ≡ codes "tick") × (members ≡ [])
-- a load has the plan's text, any text: what denotes no plan is a request all the same
Asks (what.Load plan) verb members = (verb ≡ codes "load") × (records : List ℕ) × (members ≡ (codes "records", string records) ∷ [])
    × MatchOption plan ((P : Contents) → ¬ TextDenotes records P) (TextDenotes records)
-- and so has an addition
Asks (what.AddOccurrence addition) verb members = (verb ≡ codes "add") × (records : List ℕ) × (members ≡ (codes "records", string records) ∷ [])
    × MatchOption addition ((s : AddedParts) → ¬ TextDenotesAddition records s) (TextDenotesAddition records)
-- and so has an extension
Asks (what.Extend extension) verb members = (verb ≡ codes "extend") × (records : List ℕ) × (members ≡ (codes "records", string records) ∷ [])
    × MatchOption extension ((s : AddedParts) → ¬ TextDenotesExtension records s) (TextDenotesExtension records)
-- a deletion has the key of an occurrence
Asks (what.DeleteOccurrence key) verb members = (verb ≡ codes "delete") × (occ : List ℕ) × SpellsOccurrence occ key × (members ≡ (codes "occ", string occ) ∷ [])
-- a dependency goes from its predecessor to its successor
Asks (what.AddDependency predecessor successor) verb members = (verb ≡ codes "depend") × (from : List ℕ) × (to : List ℕ)
    × SpellsOperation from predecessor × SpellsOperation to successor × (members ≡ (codes "from", string from) ∷ (codes "to", string to) ∷ [])
-- a resource is made available, or not, by true or false
Asks (what.SetAvailable resource available) verb members = (verb ≡ codes "available") × IsResourceName resource
    × (members ≡ (codes "resource", string resource) ∷ (codes "value", boolean available) ∷ [])
-- a workstation gets an array of intervals
Asks (what.ReplaceIntervals workstation intervals) verb members = (verb ≡ codes "intervals") × IsName 4 workstation × (rows : List Data)
    × AllZip IsIntervalOf rows intervals.items × (members ≡ (codes "ws", string workstation) ∷ (codes "intervals", array (items_of rows)) ∷ [])

-- the value is an object of these members, of `at`, of `do` and of what comes with it, and no others; together they say the request
abbrev pub SaysRequest : Data → List Member → Request → Type 0
SaysRequest d others r = (at : List ℕ) × (verb : List ℕ) × (more : List Member) × IsMinuteText at r.at × Asks r.what verb more
    × HasExactly d ((codes "at", string at) ∷ (codes "do", string verb) ∷ others ++ more)

-- what a tracker may report
abbrev pub IsReport : What → Type 0
IsReport (what.Started key) = Unit {0}
IsReport (what.Ended key) = Unit {0}
IsReport (what.Error key code) = Unit {0}
IsReport (what.Interrupted key) = Unit {0}
IsReport (what.Unknown key) = Unit {0}
IsReport _ = ⊥

-- the value is a report with its tracker and its number
abbrev pub SaysReport : Data → NumberedRequest → Type 0
SaysReport d n = IsName 8 n.tracker × (n.number ≤ GREATEST_REQUEST_NUMBER) × IsReport n.request.what
    × SaysRequest d ((codes "tracker", string n.tracker) ∷ (codes "number", whole n.number) ∷ []) n.request

-- the bytes are the JSON text of a request without tracker and number
abbrev pub ReadsAsRequest : List ℕ → Request → Type 0
ReadsAsRequest bytes r = (d : Data) × IsJsonOf bytes d × SaysRequest d [] r

-- the bytes are the JSON text of a report
abbrev pub ReadsAsReport : List ℕ → NumberedRequest → Type 0
ReadsAsReport bytes n = (d : Data) × IsJsonOf bytes d × SaysReport d n
