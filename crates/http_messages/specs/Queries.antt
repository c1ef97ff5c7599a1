-- What the query of the board's path asks for: a page that isn't loaded again, by `still`; and up to when it tells, by `until=` and a moment; an ampersand joins both.
use Rattle.std.specs.Prelude.{◌≡◌, ◌≢◌, ◌⊎◌, ◌↔◌, ℕ, ◌+◌, ◌<◌, ◌==◌, Bool, IsTrue, List, ◌++◌, length, drop, codes}
use Rattle.std.specs.List.{before_first}
use Rattle.percent_encoding.specs.Percent.{percent_decode}
use Rattle.plan_basics.specs.Minutes.{IsMomentText}
use Rattle.http_messages.specs.declared.queries.BoardQuery.{BoardQuery}
use Rattle.http_messages.specs.declared.queries.Until.{Until}
use Rattle.http_messages.specs.declared.queries.Until.TheVariants as until

-- what a text has after the first such byte; nothing where it has none
abbrev pub after_first : (ℕ → Bool) → List ℕ → List ℕ
after_first is text = drop (length (before_first is text) + 1) text

-- the query of a target: what comes after its first question mark
abbrev pub query_of : List ℕ → List ℕ
query_of target = after_first (λ b. b == 63) target

-- a text goes on after this, and the bytes are what comes then, without its escapes
abbrev pub GoesOnBy : List ℕ → List ℕ → List ℕ → Type 0
GoesOnBy before text bytes = (rest : List ℕ) × (0 < length rest) × (text ≡ before ++ rest) × (bytes ≡ percent_decode rest)

-- the two parts of a query: before and after its first ampersand
abbrev pub first_part : List ℕ → List ℕ
first_part query = before_first (λ b. b == 38) query

abbrev pub second_part : List ℕ → List ℕ
second_part query = after_first (λ b. b == 38) query

-- a query asks for a page that isn't loaded again: a part of it is `still`
abbrev pub IsStillIn : List ℕ → Type 0
IsStillIn query = (first_part query ≡ codes "still") ⊎ (second_part query ≡ codes "still")

-- up to when a part asks to tell: it says nothing of this, or it names a moment, or what is none
abbrev pub IsUntil : List ℕ → Until → Type 0
IsUntil part until.End = (text : List ℕ) → ¬ GoesOnBy (codes "until=") part text
IsUntil part (until.Moment m) = (text : List ℕ) × GoesOnBy (codes "until=") part text × IsMomentText text m
IsUntil part until.NoMoment = (text : List ℕ) × GoesOnBy (codes "until=") part text × ((m : ℕ) → ¬ IsMomentText text m)

-- up to when a query does: by its first part, or else by its second
abbrev pub IsUntilIn : List ℕ → Until → Type 0
IsUntilIn query u = (IsUntil (first_part query) u × (u ≢ until.End)) ⊎ (IsUntil (first_part query) until.End × IsUntil (second_part query) u)

-- what a query asks of the board
pub record IsBoardQuery (query : List ℕ) (asked : BoardQuery) : Type 0 where
  pub still : IsTrue asked.is_still ↔ IsStillIn query
  pub until : IsUntilIn query asked.until
