-- What the text of a request is told, which isn't asked.
use Rattle.std.specs.Prelude.{◌≡◌, ◌⊎◌, ℕ, List, [], map, codes, string_bytes}
use Rattle.extension_faults.specs.Judged.{IsJudgedBeside}
use Rattle.extension_faults.specs.Warned.{AreWarningsBeside}
use Rattle.extension_faults.specs.text_faults.specs.declared.additions.faults.AddedText.TheVariants as added
use Rattle.plan_reports.specs.desk_tables.specs.plan_model.specs.Plan.{Plan}
use Rattle.serde_json.specs.Data.{Data, array, member, no_members, object, string}
use Rattle.serde_json.specs.View.{items_of}
use Rattle.serde_json.specs.Written.{compact_text}
use Rattle.tracker_http.specs.Faulty.{AreFaultLines}
use Rattle.tracker_http.specs.request_json.specs.Brought.{Brings}
use Rattle.tracker_http.specs.request_json.specs.RequestFaults.{IsRequestFault, ReadsAsSomeRequest}
use Rattle.tracker_http.specs.request_json.specs.declared.records.Brought.{Brought}
use Rattle.tracker_http.specs.request_json.specs.declared.records.Brought.TheVariants as brought

-- what is wrong, and what is warned of, as a value
abbrev pub judged_data : List Data → List Data → Data
judged_data faults warnings = object (member (codes "faults") (array (items_of faults)) (member (codes "warnings") (array (items_of warnings)) no_members))

-- what is wrong with records that are brought to the plan, beside it, and what they are warned of
abbrev pub JudgesBrought : Plan → Brought → List (List ℕ) → List (List ℕ) → Type 0
JudgesBrought P (brought.Addition text) faults warnings = IsJudgedBeside added.Addition P (string_bytes text) faults × AreWarningsBeside P (string_bytes text) warnings
JudgesBrought P (brought.Extension text) faults warnings = IsJudgedBeside added.Extension P (string_bytes text) faults × AreWarningsBeside P (string_bytes text) warnings

-- of a request: what is wrong with the records that it brings; nothing, where it brings none
abbrev pub JudgesRequest : Plan → List ℕ → List (List ℕ) → List (List ℕ) → Type 0
JudgesRequest P body faults warnings =
    ((b : Brought) × Brings body b × JudgesBrought P b faults warnings)
    ⊎ (((b : Brought) → ¬ Brings body b) × (faults ≡ []) × (warnings ≡ []))

-- of a text: all that is wrong with it as a request, and nothing else; where it is one, what is wrong with what it brings
abbrev pub Judges : Plan → List ℕ → List (List ℕ) → List (List ℕ) → Type 0
Judges P body faults warnings =
    ((¬ ReadsAsSomeRequest body) × AreFaultLines (IsRequestFault body) faults × (warnings ≡ []))
    ⊎ (ReadsAsSomeRequest body × JudgesRequest P body faults warnings)

-- the text of all that
abbrev pub IsJudgedText : Plan → List ℕ → List ℕ → Type 0
IsJudgedText P body text = (faults : List (List ℕ)) × (warnings : List (List ℕ)) × Judges P body faults warnings × (text ≡ compact_text (judged_data (map string faults) (map string warnings)))
