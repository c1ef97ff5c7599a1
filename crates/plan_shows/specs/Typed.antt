-- The key of an operation as people type it.
use Rattle.std.specs.Prelude.{◌≡◌, ℕ, ◌<◌, ◌≤◌, List, ◌++◌, length, All, codes}
use Rattle.std.specs.Str.Parse.{digits_value}
use Rattle.plan_basics.specs.KeyTexts.{IsSplit, occurrence_text}
use Rattle.plan_basics.specs.Keys.{IsOperationKey}
use Rattle.plan_basics.specs.declared.keys.OpKey.{OpKey}
use Rattle.plan_reasons.specs.plan_drafts.specs.plan_items.specs.Numerals.{IsDigit}

-- one to three decimal digits
pub record IsTypedNumber (text : List ℕ) : Type 0 where
  pub digits : All IsDigit text
  pub some : 0 < length text
  pub short : length text ≤ 3

-- the number that they tell, with zeros before it or not
abbrev pub TellsNumber : List ℕ → ℕ → Type 0
TellsNumber text n = IsTypedNumber text × (n ≡ digits_value 10 text)

-- the text is `APP/MOMENT/N`: the occurrence, a slash and the number in one to three digits
abbrev pub IsTypedOperation : List ℕ → OpKey → Type 0
IsTypedOperation text o = IsOperationKey o × ((number : List ℕ) × TellsNumber number o.number × (text ≡ occurrence_text o.occurrence ++ codes "/" ++ number))

-- the same with so many digits
abbrev pub IsTypedBy : ℕ → List ℕ → OpKey → Type 0
IsTypedBy width text o = IsOperationKey o × ((number : List ℕ) × TellsNumber number o.number × IsSplit width text (occurrence_text o.occurrence) number)
