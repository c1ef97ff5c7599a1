-- The tick by which a plan is brought to the moment that the words give.
use Rattle.std.specs.Prelude.{◌≡◌, ℕ, ℤ, pos, true, List, ◌++◌, codes, decimal, Option, Some, None, IsSomeAnd, ◌<ℤ◌}
use Rattle.std.specs.Io.KnownBytes.{Appends}
use Rattle.sqlite.specs.Store.{Ghosts}
use Rattle.command_desks.specs.desk_tables.specs.Desk.{DeskState}
use Rattle.plan_records.specs.plan_model.specs.Plan.{Plan}
use Rattle.http_messages.specs.declared.asking.Asked.{Asked}
use Rattle.http_messages.specs.declared.asking.Asked.TheVariants as asked
use Rattle.http_messages.specs.declared.wanting.Asking.{Asking}
use Rattle.desk_serving.specs.tracker_http.specs.Journalled.{answer_lines, request_lines, Takes}
use Rattle.desk_serving.specs.tracker_http.specs.Guard.{IsTooFar}
use Rattle.desk_serving.specs.tracker_http.specs.Readings.{ReadsFor}
use Rattle.desk_serving.specs.tracker_http.specs.declared.reading.Reading.{Reading}
use Rattle.desk_serving.specs.tracker_http.specs.declared.told.Told.TheVariants as told
use Rattle.command_answers.specs.Answers.{line}
use Rattle.plan_records.specs.declared.Reply.{Reply}

-- a plan is loaded, and its clock is earlier than this moment
abbrev pub IsBehind : Plan → ℤ → Type 0
IsBehind P at = (P.loaded ≡ true) × (pos P.clock <ℤ at)

-- the body of an operator's request for a tick at the moment of this text
abbrev pub tick_body : List ℕ → List ℕ
tick_body text = codes "{\"at\":\"" ++ text ++ codes "\",\"do\":\"tick\"}"

-- an operator asks for a tick at the moment of this text
abbrev pub IsTickAsked : List ℕ → Asked → Type 0
IsTickAsked text (asked.Operator body) = body.items ≡ tick_body text
IsTickAsked text a = ⊥

-- so, and who it is isn't known
abbrev pub IsTick : List ℕ → Asking → Type 0
IsTick text a = IsTickAsked text a.asked × (a.by ≡ None)

-- the desk is asked so, and answers this; the journal has both lines
abbrev pub IsTicked : {S : Type 0} → Ghosts S → List ℕ → DeskState S → Reply → DeskState S → Option (List ℕ) → Option (List ℕ) → Type 0
IsTicked g text d reply e old new =
    (a : Asking) × IsTick text a × (r : Reading) × ReadsFor a.asked r × Takes g None a.asked d (told.Answer reply) e × Appends old new (request_lines d.plan r a ++ answer_lines a.asked (told.Answer reply))

-- there is a moment, and it is more than so many minutes after the clock of a loaded plan
abbrev pub IsBeyond : ℕ → Plan → Option ℤ → Type 0
IsBeyond minutes P at = IsSomeAnd at (IsTooFar (Some minutes) P)

-- what is shown where the moment of the words is more than so many minutes after the plan's clock: both, and what to do
abbrev pub gap_text : List ℕ → List ℕ → ℕ → List ℕ
gap_text clock text minutes =
    codes "clock " ++ (clock ++ (codes ", --at " ++ (text ++ (codes ": more than --gap " ++ (decimal minutes ++ (line (codes " minutes")
    ++ line (codes "start the desk with a true --at, or with a larger --gap")))))))
