-- The faults of a request's text, member by member.
use Rattle.std.specs.Prelude.{◌≡◌, ◌≢◌, ◌⊎◌, ℕ, ℤ, ◌+◌, ◌≤◌, Bool, List, [], codes, Option, Some, None, Vec, is_some, if◌then◌else◌}
use Rattle.std.specs.List.{AllZip}
use Rattle.std.specs.declared.alloc.Global.{Global}
use Rattle.plan_basics.specs.Intervals.{OpenInterval}
use Rattle.plan_basics.specs.declared.keys.OccKey.{OccKey}
use Rattle.plan_basics.specs.declared.keys.OpKey.{OpKey}
use Rattle.plan_basics.specs.declared.limits.TheConstants.{GREATEST_REQUEST_NUMBER}
use Rattle.plan_basics.specs.Minutes.{IsMinuteText}
use Rattle.plan_basics.specs.Names.{IsName, IsResourceName}
use Rattle.plan_records.specs.declared.Request.{Request}
use Rattle.serde_json.specs.Data.{Data, boolean, string, array}
use Rattle.serde_json.specs.Find.{get, as_object}
use Rattle.serde_json.specs.View.{items_of}
use Rattle.request_json.specs.Members.{IsJsonOf, HasMember, HasText, IsNameAt, member_count}
use Rattle.request_json.specs.Counted.{IsReportVerb}
use Rattle.request_json.specs.Intervals.{whole, IsIntervalOf}
use Rattle.request_json.specs.Requests.{SpellsOperation, SpellsOccurrence, SaysRequest, ReadsAsRequest}
use Rattle.request_json.specs.declared.faults.kinds.MemberName.{MemberName}
use Rattle.request_json.specs.declared.faults.kinds.MemberName.TheVariants as name
use Rattle.request_json.specs.declared.faults.kinds.RequestKind.{RequestKind}
use Rattle.request_json.specs.declared.faults.kinds.RequestKind.TheVariants as kind
use Rattle.request_json.specs.declared.faults.finding.RequestFault.{RequestFault}
use Rattle.request_json.specs.declared.faults.finding.RequestFault.TheVariants as fault

-- the name of a member as it is written
abbrev pub member_text : MemberName → List ℕ
member_text name.At = codes "at"
member_text name.Do = codes "do"
member_text name.Op = codes "op"
member_text name.Code = codes "code"
member_text name.Occ = codes "occ"
member_text name.Records = codes "records"
member_text name.From = codes "from"
member_text name.To = codes "to"
member_text name.Resource = codes "resource"
member_text name.Value = codes "value"
member_text name.Ws = codes "ws"
member_text name.Intervals = codes "intervals"
member_text name.Tracker = codes "tracker"
member_text name.Number = codes "number"
member_text name.ReportDo = codes "do"

-- the `do` of what is asked of an operation by its key alone
abbrev pub IsOperationVerb : List ℕ → Type 0
IsOperationVerb verb = (verb ≡ codes "started") ⊎ ((verb ≡ codes "ended") ⊎ ((verb ≡ codes "interrupted") ⊎ ((verb ≡ codes "unknown") ⊎ ((verb ≡ codes "hold")
    ⊎ ((verb ≡ codes "release") ⊎ ((verb ≡ codes "nop") ⊎ ((verb ≡ codes "unnop") ⊎ ((verb ≡ codes "rerun") ⊎ (verb ≡ codes "complete")))))))))

-- the `do` of what brings records
abbrev pub IsRecordsVerb : List ℕ → Type 0
IsRecordsVerb verb = (verb ≡ codes "load") ⊎ ((verb ≡ codes "add") ⊎ (verb ≡ codes "extend"))

-- the `do` of a request of the kind
abbrev pub IsVerbOf : RequestKind → List ℕ → Type 0
IsVerbOf kind.Tick verb = verb ≡ codes "tick"
IsVerbOf kind.OnOperation verb = IsOperationVerb verb
IsVerbOf kind.Error verb = verb ≡ codes "error"
IsVerbOf kind.Delete verb = verb ≡ codes "delete"
IsVerbOf kind.Records verb = IsRecordsVerb verb
IsVerbOf kind.Depend verb = verb ≡ codes "depend"
IsVerbOf kind.Available verb = verb ≡ codes "available"
IsVerbOf kind.Intervals verb = verb ≡ codes "intervals"

-- the first member that comes with `at` and `do`
abbrev pub first_of_kind : RequestKind → Option MemberName
first_of_kind kind.Tick = None
first_of_kind kind.OnOperation = Some name.Op
first_of_kind kind.Error = Some name.Op
first_of_kind kind.Delete = Some name.Occ
first_of_kind kind.Records = Some name.Records
first_of_kind kind.Depend = Some name.From
first_of_kind kind.Available = Some name.Resource
first_of_kind kind.Intervals = Some name.Ws

-- the second
abbrev pub second_of_kind : RequestKind → Option MemberName
second_of_kind kind.Error = Some name.Code
second_of_kind kind.Depend = Some name.To
second_of_kind kind.Available = Some name.Value
second_of_kind kind.Intervals = Some name.Intervals
second_of_kind _ = None

-- the value's `do` is that of the kind
abbrev pub IsOfKind : Data → RequestKind → Type 0
IsOfKind d k = HasText d (codes "do") (IsVerbOf k)

-- the value has the member, and it is of its form: a date and time, a known `do`, a key, a name, a text of any kind, true or false, an array of intervals, a number, a report's `do`
abbrev pub Fits : Data → MemberName → Type 0
Fits d name.At = (minute : ℤ) × HasText d (codes "at") (λ text. IsMinuteText text minute)
Fits d name.Do = (k : RequestKind) × IsOfKind d k
Fits d name.Op = (key : OpKey) × HasText d (codes "op") (λ text. SpellsOperation text key)
Fits d name.Code = (code : List ℕ) × IsNameAt d (codes "code") (IsName 4) code
Fits d name.Occ = (key : OccKey) × HasText d (codes "occ") (λ text. SpellsOccurrence text key)
Fits d name.Records = (text : List ℕ) × HasMember d (codes "records", string text)
Fits d name.From = (key : OpKey) × HasText d (codes "from") (λ text. SpellsOperation text key)
Fits d name.To = (key : OpKey) × HasText d (codes "to") (λ text. SpellsOperation text key)
Fits d name.Resource = (resource : List ℕ) × IsNameAt d (codes "resource") IsResourceName resource
Fits d name.Value = (value : Bool) × HasMember d (codes "value", boolean value)
Fits d name.Ws = (workstation : List ℕ) × IsNameAt d (codes "ws") (IsName 4) workstation
Fits d name.Intervals = (rows : List Data) × (intervals : Vec OpenInterval Global) × HasMember d (codes "intervals", array (items_of rows)) × AllZip IsIntervalOf rows intervals.items
Fits d name.Tracker = (tracker : List ℕ) × IsNameAt d (codes "tracker") (IsName 8) tracker
Fits d name.Number = (number : ℕ) × (number ≤ GREATEST_REQUEST_NUMBER) × HasMember d (codes "number", whole number)
Fits d name.ReportDo = HasText d (codes "do") IsReportVerb

-- what is wrong with one member that the request must have: it isn't there, or isn't of its form
abbrev pub IsFaultOfMember : Data → MemberName → RequestFault → Type 0
IsFaultOfMember d m (fault.Missing n) = (n ≡ m) × (get (member_text m) d ≡ None)
IsFaultOfMember d m (fault.Wrong n) = (n ≡ m) × (get (member_text m) d ≢ None) × ¬ Fits d m
IsFaultOfMember d m _ = ⊥

-- what is wrong with it, if the request has such a member
abbrev pub IsFaultOfAny : Data → Option MemberName → RequestFault → Type 0
IsFaultOfAny d found f = (m : MemberName) × (found ≡ Some m) × IsFaultOfMember d m f

-- 1 where the value has the member, else 0
abbrev pub has : Data → Option MemberName → ℕ
has d None = 0
has d (Some m) = if is_some (get (member_text m) d) then 1 else 0

-- how many members of a request of the kind the value has
abbrev pub known_members : Data → RequestKind → ℕ
known_members d k = has d (Some name.At) + has d (Some name.Do) + has d (first_of_kind k) + has d (second_of_kind k)

-- it has others too
abbrev pub HasOthers : Data → RequestKind → RequestFault → Type 0
HasOthers d k fault.Others = member_count d ≢ Some (known_members d k)
HasOthers d k _ = ⊥

-- what is wrong with what comes with a `do` of the kind
abbrev pub IsFaultOfKind : Data → RequestKind → RequestFault → Type 0
IsFaultOfKind d k f = IsFaultOfAny d (first_of_kind k) f ⊎ (IsFaultOfAny d (second_of_kind k) f ⊎ HasOthers d k f)

-- what is wrong with an object that is to be a request: with `at`, with `do`, and, where this is known, with what comes with it
abbrev pub IsFaultOfObject : Data → RequestFault → Type 0
IsFaultOfObject d f = IsFaultOfMember d name.At f ⊎ (IsFaultOfMember d name.Do f ⊎ ((k : RequestKind) × IsOfKind d k × IsFaultOfKind d k f))

-- what is wrong with a value: it is no object, or what is wrong with that
abbrev pub IsFaultOfValue : Data → RequestFault → Type 0
IsFaultOfValue d fault.NoObject = as_object d ≡ None
IsFaultOfValue d f = (as_object d ≢ None) × IsFaultOfObject d f

-- what is wrong with a text: it is no JSON text, or what is wrong with its value
abbrev pub IsRequestFault : List ℕ → RequestFault → Type 0
IsRequestFault body fault.NoJson = (d : Data) → ¬ IsJsonOf body d
IsRequestFault body f = (d : Data) × IsJsonOf body d × IsFaultOfValue d f

-- the value says some request
abbrev pub SaysSomeRequest : Data → Type 0
SaysSomeRequest d = (r : Request) × SaysRequest d [] r

-- the text is that of some request
abbrev pub ReadsAsSomeRequest : List ℕ → Type 0
ReadsAsSomeRequest body = (r : Request) × ReadsAsRequest body r

-- the member that a fault is told of; `request` where it is of the whole
abbrev pub place_text : RequestFault → List ℕ
place_text (fault.Missing m) = member_text m
place_text (fault.Wrong m) = member_text m
place_text fault.Others = codes "do"
place_text fault.OthersInReport = codes "do"
place_text _ = codes "request"
