-- What is shown of a load.
use Rattle.std.proofs.Common.{refl, inl, inr, ℕ, ℤ, List, Option, Result, IfOk}
use Rattle.std.proofs.lemmas.Result.{IfOk-weaker}
use Rattle.plan_basics.specs.Minutes.{IsMinuteText}
use Rattle.request_commands.specs.Databases.{IsAnswerToLoad}
use Rattle.plan_records.specs.plan_model.specs.Contents.{Contents}
use Rattle.plan_records.specs.Answer.{Answer, accepted, refused}
use Rattle.command_desks.specs.desk_tables.specs.plan_core.specs.Trials.{IsAnswerAlone}
use Rattle.sqlite.specs.State.{State as StoreState}
use Rattle.command_answers.specs.Answers.{IsShown}
use Rattle.request_commands.specs.Loads.{IsCheckShown, IsLoadAnswer, IsLoadOf, IsLoadShown}
use Rattle.command_answers.specs.declared.endings.Ending.{Ending}
use Rattle.command_answers.specs.declared.endings.Fault.{Fault}

-- the answer at a database is that of a desk
load_answer : (before after : StoreState) (at : ℤ) (found : Option Contents) (a : Answer) → IsAnswerToLoad before after at found a → IsLoadAnswer at found a
load_answer before after at found (accepted named) (s, t, from, step, holds) = inl (s, t, step)
load_answer before after at found (refused r) (inl opening, stays, brought) = inr (r, opening.0, refl)
load_answer before after at found (refused r) (inr (s, from, step), stays, brought) = inl (s, s, step)

-- it was shown
pub load_told : (at : ℤ) (found : Option Contents) (before after : StoreState) (a : Answer) (r : Result Ending Fault) (old new : Option (List ℕ))
    → IsAnswerToLoad before after at found a → IfOk r (IsShown a old new) → IfOk r (IsLoadOf at found old new)
load_told at found before after a r old new answers shown =
    IfOk-weaker r (IsShown a old new) (IsLoadOf at found old new)
    (λ (e : Ending) (is : IsShown a old new e). (a, load_answer before after at found a answers, is)) shown

-- at the moment that the words give
pub load_shown : (moment : List ℕ) (at : ℤ) (found : Option Contents) (r : Result Ending Fault) (old new : Option (List ℕ))
    → IsMinuteText moment at → IfOk r (IsLoadOf at found old new) → IfOk r (IsLoadShown moment old new)
load_shown moment at found r old new says shown =
    IfOk-weaker r (IsLoadOf at found old new) (IsLoadShown moment old new)
    (λ (e : Ending) (was : IsLoadOf at found old new e). (at, says, found, was.0, was.1, was.2)) shown

-- so is that of an empty desk
pub check_shown : (moment : List ℕ) (at : ℤ) (found : Option Contents) (a : Answer) (r : Result Ending Fault) (old new : Option (List ℕ))
    → IsMinuteText moment at → IsAnswerAlone at found a → IfOk r (IsShown a old new) → IfOk r (IsCheckShown moment old new)
check_shown moment at found a r old new says answers shown =
    IfOk-weaker r (IsShown a old new) (IsCheckShown moment old new)
    (λ (e : Ending) (is : IsShown a old new e). (at, says, found, a, answers, is)) shown
