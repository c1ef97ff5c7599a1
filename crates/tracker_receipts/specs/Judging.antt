-- What a number and a text are told.
use Rattle.std.specs.Prelude.{◌≡◌, ℕ, ◌+◌, List, Option}
use Rattle.plan_basics.specs.Keys.{Name}
use Rattle.plan_laws.specs.plan_records.specs.Answer.{Answer, accepted, refused}
use Rattle.plan_laws.specs.plan_records.specs.Step.{AnswersAgain, Numbered, Receipt, last_number}
use Rattle.plan_laws.specs.plan_records.specs.declared.Request.{Request}
use Rattle.tracker_receipts.specs.declared.judging.Judged.{Judged}
use Rattle.tracker_receipts.specs.declared.judging.Judged.TheVariants.{New, Again, Refused}

-- a request of a tracker, with its number and its text
abbrev pub numbered_by : Name → ℕ → List ℕ → Request → Numbered
numbered_by tracker number text q = record { tracker = tracker; number = number; text = text; request = q }

-- it is new
abbrev pub IsNew : Judged → Type 0
IsNew New = Unit {0}
IsNew _ = ⊥

-- it is answered so: with the kept keys, or refused
abbrev pub IsAnsweredBy : Judged → Answer → Type 0
IsAnsweredBy New reply = ⊥
IsAnsweredBy (Again named) reply = reply ≡ accepted named.now
IsAnsweredBy (Refused refusal) reply = reply ≡ refused refusal

-- after the tracker's last receipt, the request is told so
abbrev pub IsJudged : Option Receipt → Numbered → Judged → Type 0
IsJudged last n New = n.number ≡ last_number last + 1
IsJudged last n (Again named) = AnswersAgain last n (accepted named.now)
IsJudged last n (Refused refusal) = AnswersAgain last n (refused refusal)
