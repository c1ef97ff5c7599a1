-- What the words give, and the texts that they name.
use Rattle.std.specs.Prelude.{◌≡◌, ℕ, ℤ, List, Option, Some, None, MatchOption, codes}
use Rattle.plan_basics.specs.Minutes.{IsMinuteText}
use Rattle.plan_basics.specs.Names.{IsName}
use Rattle.plan_import.specs.Texts.{TextDenotes, TextDenotesExtension}
use Rattle.plan_records.specs.plan_model.specs.Contents.{AddedParts, Contents}
use Rattle.plan_records.specs.declared.Request.{Request}
use Rattle.request_json.specs.Requests.{ReadsAsRequest}
use Rattle.command_answers.specs.declared.given.Kind.{Kind}
use Rattle.command_answers.specs.declared.given.Kind.TheVariants as kind

-- the minute that the words give, if they give one
abbrev pub IsMinuteGiven : Option (List ℕ) → Option ℤ → Type 0
IsMinuteGiven (Some text) (Some z) = IsMinuteText text z
IsMinuteGiven None None = Unit {0}
IsMinuteGiven text z = ⊥

-- the text is no moment
abbrev pub IsNoMinute : List ℕ → Type 0
IsNoMinute text = (z : ℤ) → ¬ IsMinuteText text z

-- what the words give is no moment, and not nothing either
abbrev pub IsNoMinuteGiven : Option (List ℕ) → Type 0
IsNoMinuteGiven given = (z : Option ℤ) → ¬ IsMinuteGiven given z

-- the text is no request of an operator
abbrev pub IsNoRequest : List ℕ → Type 0
IsNoRequest text = (q : Request) → ¬ ReadsAsRequest text q

-- a report is asked for by its word; that of what is ready by the name of a workstation too
abbrev pub AsksReport : List ℕ → Option (List ℕ) → Kind → Type 0
AsksReport word ws (kind.Ready w) = (word ≡ codes "ready") × IsName 4 w × (ws ≡ Some w)
AsksReport word ws kind.Occurrences = word ≡ codes "occurrences"
AsksReport word ws kind.Errors = word ≡ codes "errors"
AsksReport word ws kind.Late = word ≡ codes "late"

-- the words ask for no report
abbrev pub AsksNoReport : List ℕ → Option (List ℕ) → Type 0
AsksNoReport word ws = (k : Kind) → ¬ AsksReport word ws k

-- the plan that a text denotes; or none, where it denotes none
abbrev pub IsPlanOf : List ℕ → Option Contents → Type 0
IsPlanOf text found = MatchOption found ((P : Contents) → ¬ TextDenotes text P) (λ draft. TextDenotes text draft)

-- the extension that a text denotes; or none, where it denotes none
abbrev pub IsExtensionOf : List ℕ → Option AddedParts → Type 0
IsExtensionOf text found = MatchOption found ((s : AddedParts) → ¬ TextDenotesExtension text s) (λ extension. TextDenotesExtension text extension)
