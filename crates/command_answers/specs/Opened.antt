-- Where there is no desk: why, and what is shown.
use Rattle.std.specs.Prelude.{◌≡◌, ℕ, List, Option}
use Rattle.plan_basics.specs.declared.Refusal.{Refusal}
use Rattle.plan_records.specs.Answer.{refused}
use Rattle.command_answers.specs.Answers.{IsShown}
use Rattle.command_answers.specs.Statuses.{IsOfSurroundings}
use Rattle.command_answers.specs.declared.endings.Ending.{Ending}
use Rattle.command_answers.specs.declared.endings.Fault.{Fault}
use Rattle.command_answers.specs.declared.endings.NoDesk.{NoDesk}
use Rattle.command_answers.specs.declared.endings.NoDesk.TheVariants as no_desk

-- such a refusal, or a fault of the surroundings
abbrev pub IsWhyNoDesk : (Refusal → Type 0) → NoDesk → Type 0
IsWhyNoDesk Why (no_desk.Refused r) = Why r
IsWhyNoDesk Why (no_desk.Faulty f) = IsOfSurroundings f

-- its refusal was shown
abbrev pub IsNoneShown : NoDesk → Option (List ℕ) → Option (List ℕ) → Ending → Type 0
IsNoneShown (no_desk.Refused r) old new e = IsShown (refused r) old new e
IsNoneShown (no_desk.Faulty f) old new e = ⊥

-- its fault; or one of the surroundings, where its refusal can't be shown
abbrev pub IsFaultOfNone : NoDesk → Fault → Type 0
IsFaultOfNone (no_desk.Refused r) f = IsOfSurroundings f
IsFaultOfNone (no_desk.Faulty g) f = f ≡ g
