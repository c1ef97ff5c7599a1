-- The faults of a report's text, member by member.
use Rattle.std.specs.Prelude.{◌≡◌, ◌≢◌, ◌⊎◌, ℕ, ◌+◌, List, codes, Some, None}
use Rattle.serde_json.specs.Data.{Data, string}
use Rattle.serde_json.specs.Find.{as_object}
use Rattle.request_json.specs.Counted.{IsReportVerb}
use Rattle.request_json.specs.Members.{IsJsonOf, HasMember, member_count}
use Rattle.request_json.specs.RequestFaults.{first_of_kind, has, known_members, second_of_kind, IsFaultOfAny, IsFaultOfMember, IsVerbOf}
use Rattle.request_json.specs.declared.faults.kinds.MemberName.{MemberName}
use Rattle.request_json.specs.declared.faults.kinds.MemberName.TheVariants as name
use Rattle.request_json.specs.declared.faults.kinds.RequestKind.{RequestKind}
use Rattle.request_json.specs.declared.faults.finding.RequestFault.{RequestFault}
use Rattle.request_json.specs.declared.faults.finding.RequestFault.TheVariants as fault

-- how many members of a report of the kind the value has: `tracker` and `number`, and those of such a request
abbrev pub report_members : Data → RequestKind → ℕ
report_members d k = known_members d k + (has d (Some name.Tracker) + has d (Some name.Number))

-- the value's `do` is a report's, and that of the kind
abbrev pub IsReportOfKind : Data → RequestKind → Type 0
IsReportOfKind d k = (verb : List ℕ) × HasMember d (codes "do", string verb) × IsReportVerb verb × IsVerbOf k verb

-- it has others too
abbrev pub HasOthersInReport : Data → RequestKind → RequestFault → Type 0
HasOthersInReport d k fault.OthersInReport = member_count d ≢ Some (report_members d k)
HasOthersInReport d k _ = ⊥

-- what is wrong with one of two members that must be there
abbrev pub IsFaultOfTwo : Data → MemberName → MemberName → RequestFault → Type 0
IsFaultOfTwo d first second f = IsFaultOfMember d first f ⊎ IsFaultOfMember d second f

-- what is wrong with what comes with a report's `do` of the kind
abbrev pub IsReportFaultOfKind : Data → RequestKind → RequestFault → Type 0
IsReportFaultOfKind d k f = IsFaultOfAny d (first_of_kind k) f ⊎ (IsFaultOfAny d (second_of_kind k) f ⊎ HasOthersInReport d k f)

-- what is wrong with an object that is to be a report: with who reports and its number, with `at` and `do`, and, where this is a report's, with what comes with it
abbrev pub IsReportFaultOfObject : Data → RequestFault → Type 0
IsReportFaultOfObject d f =
    IsFaultOfTwo d name.Tracker name.Number f ⊎ (IsFaultOfTwo d name.At name.ReportDo f ⊎ ((k : RequestKind) × IsReportOfKind d k × IsReportFaultOfKind d k f))

-- what is wrong with a value: it is no object, or what is wrong with that
abbrev pub IsReportFaultOfValue : Data → RequestFault → Type 0
IsReportFaultOfValue d fault.NoObject = as_object d ≡ None
IsReportFaultOfValue d f = (as_object d ≢ None) × IsReportFaultOfObject d f

-- what is wrong with a text: it is no JSON text, or what is wrong with its value
abbrev pub IsReportFault : List ℕ → RequestFault → Type 0
IsReportFault body fault.NoJson = (d : Data) → ¬ IsJsonOf body d
IsReportFault body f = (d : Data) × IsJsonOf body d × IsReportFaultOfValue d f
