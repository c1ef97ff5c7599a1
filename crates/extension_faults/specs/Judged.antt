-- What is told of a text that adds to a plan, beside that plan at its clock, line by line.
use Rattle.std.specs.Prelude.{◌≡◌, ◌≢◌, true, false, ◌⊎◌, pos, ℕ, zero, suc, ◌-◌, ◌≤◌, List, [], ◌∷◌, ◌++◌, length, map, take, codes, decimal, Option, MatchOption}
use Rattle.std.specs.List.{AllPairs, AllZip}
use Rattle.plan_basics.specs.Refusals.{name_of, number_of}
use Rattle.plan_basics.specs.declared.Refusal.{Refusal}
use Rattle.plan_basics.specs.declared.keys.OpKey.{OpKey}
use Rattle.plan_drafts.specs.plan_model.specs.Contents.{AddedParts}
use Rattle.plan_drafts.specs.plan_model.specs.Plan.{Plan}
use Rattle.plan_import.specs.Lines.{BeginOn}
use Rattle.plan_records.specs.Answer.{accepted, refused}
use Rattle.plan_records.specs.Step.{Step}
use Rattle.plan_records.specs.declared.Request.{Request}
use Rattle.plan_records.specs.declared.What.{What}
use Rattle.plan_records.specs.declared.What.TheVariants as what
use Rattle.record_faults.specs.declared.faults.RecordFault.{RecordFault}
use Rattle.record_faults.specs.declared.circles.Circle.{Circle}
use Rattle.text_faults.specs.AddedTexts.{AreFaultsOfAddedText, TextDenotesAs, TextDenotesSomeAdded}
use Rattle.text_faults.specs.TextFaults.{line_at}
use Rattle.text_faults.specs.declared.additions.faults.AddedText.{AddedText}
use Rattle.text_faults.specs.declared.additions.faults.AddedText.TheVariants as kind
use Rattle.text_faults.specs.declared.additions.faults.PlacedFault.{PlacedFault}
use Rattle.extension_faults.specs.Beside.{AreFaultsBesideText}
use Rattle.extension_faults.specs.Limits.{AreFaultsOfWholeText}
use Rattle.extension_faults.specs.declared.judging.TheConstants.{MOST_TOLD}
use Rattle.extension_faults.specs.declared.kinds.FaultBeside.{FaultBeside}

-- a line that tells something of the record at the place
abbrev pub TellsFrom : List ℕ → ℕ → List ℕ → Type 0
TellsFrom starts place line = (wrong : List ℕ) × (line ≡ codes "line " ++ decimal (line_at starts place) ++ codes ": " ++ wrong)

-- how many more there are, if there are
abbrev pub more_lines : ℕ → List (List ℕ)
more_lines zero = []
more_lines (suc n) = (decimal (suc n) ++ codes " more") ∷ []

-- of faults at these places of a text each of the first is told in its line, and then how many more there are
pub record AreTold (text : List ℕ) (places : List ℕ) (lines : List (List ℕ)) : Type 0 where
  pub starts : List ℕ
  pub begin : BeginOn text starts
  pub first : List (List ℕ)
  pub each : AllZip (TellsFrom starts) (take MOST_TOLD places) first
  pub all : lines ≡ first ++ more_lines (length places - MOST_TOLD)

-- what is found is what the text denotes, as an addition or as an extension, or nothing where it denotes none
abbrev pub IsFoundIn : AddedText → List ℕ → Option AddedParts → Type 0
IsFoundIn added text found = MatchOption found ((s : AddedParts) → ¬ TextDenotesAs added text s) (TextDenotesAs added text)

-- what is asked by it
abbrev pub what_of : AddedText → Option AddedParts → What
what_of kind.Addition found = what.AddOccurrence found
what_of kind.Extension found = what.Extend found

-- the plan accepts the request
abbrev pub IsTaken : Plan → Request → Type 0
IsTaken P q = (named : List OpKey) × (after : Plan) × Step P q (accepted named) after

-- it refuses it for this
abbrev pub IsRefused : Plan → Request → Refusal → Type 0
IsRefused P q r = Step P q (refused r) P

-- whether it refuses it, and for what
abbrev pub IsRefusalTold : Plan → Request → Option Refusal → Type 0
IsRefusalTold P q told = MatchOption told (IsTaken P q) (IsRefused P q)

-- what is asked at its clock
abbrev pub at_clock : Plan → What → Request
at_clock P w = record { at = pos P.clock; what = w }

-- the plan accepts this at its clock
abbrev pub Accepts : Plan → What → Type 0
Accepts P w = IsTaken P (at_clock P w)

-- it refuses it for this
abbrev pub Refuses : Plan → What → Refusal → Type 0
Refuses P w r = IsRefused P (at_clock P w) r

-- the places of faults
abbrev pub places_of : List RecordFault → List ℕ
places_of faults = map (λ (f : RecordFault). f.place) faults

-- the line of what the plan refuses it for, by number and name
abbrev pub refusal_told : Refusal → List ℕ
refusal_told r = codes "the whole: the plan doesn't take it (" ++ (decimal (number_of r) ++ codes " " ++ name_of r) ++ codes ")"

-- that line alone is told
abbrev pub TellsRefusal : Refusal → List (List ℕ) → Type 0
TellsRefusal r lines = lines ≡ refusal_told r ∷ []

-- what is wrong with the whole is told, where no record has a fault: of its records, or what the plan refuses it for
abbrev pub TellsWhole : Plan → List ℕ → Refusal → List (List ℕ) → Type 0
TellsWhole P text r lines =
    (faults : List RecordFault) × (circle : Option Circle) × AreFaultsOfWholeText P.contents text circle faults
    × (((faults ≢ []) × AreTold text (places_of faults) lines) ⊎ ((faults ≡ []) × TellsRefusal r lines))

-- what is wrong with its records beside the plan is told, in their order; where nothing is, what is wrong with the whole
abbrev pub TellsBeside : Plan → List ℕ → Refusal → List (List ℕ) → Type 0
TellsBeside P text r lines =
    (faults : List FaultBeside) × AreFaultsBesideText P.contents text faults × AllPairs (λ (a : FaultBeside) (b : FaultBeside). a.place ≤ b.place) faults
    × (((faults ≢ []) × AreTold text (map (λ (f : FaultBeside). f.place) faults) lines) ⊎ ((faults ≡ []) × TellsWhole P text r lines))

-- of what a plan refuses: what is wrong beside it, once it is loaded
abbrev pub TellsRefused : Plan → List ℕ → Refusal → List (List ℕ) → Type 0
TellsRefused P text r lines = ((P.loaded ≡ true) × TellsBeside P text r lines) ⊎ ((P.loaded ≡ false) × TellsRefusal r lines)

-- of a text that denotes something: nothing is told where the plan takes it
abbrev pub TellsAsked : AddedText → Plan → List ℕ → List (List ℕ) → Type 0
TellsAsked added P text lines =
    (found : Option AddedParts) × IsFoundIn added text found
    × ((Accepts P (what_of added found) × (lines ≡ [])) ⊎ ((r : Refusal) × Refuses P (what_of added found) r × TellsRefused P text r lines))

-- what is wrong with the text by itself is told, in the order of its records; where nothing is, what is wrong with it beside the plan
abbrev pub IsJudgedBeside : AddedText → Plan → List ℕ → List (List ℕ) → Type 0
IsJudgedBeside added P text lines =
    (faults : List PlacedFault) × AreFaultsOfAddedText added text faults × AllPairs (λ (a : PlacedFault) (b : PlacedFault). a.place ≤ b.place) faults
    × (((faults ≢ []) × AreTold text (map (λ (f : PlacedFault). f.place) faults) lines) ⊎ (TextDenotesSomeAdded added text × TellsAsked added P text lines))
