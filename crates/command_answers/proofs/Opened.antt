-- What is shown where there is no desk.
use Rattle.std.proofs.Common.{ℕ, List, Option, Result, Ok, Err, IfOk, IfErr}
use Rattle.std.proofs.lemmas.Result.{IfErr-weaker, IfOk-weaker}
use Rattle.plan_basics.specs.declared.Refusal.{Refusal}
use Rattle.plan_records.specs.Answer.{refused}
use Rattle.command_answers.specs.Answers.{IsShown}
use Rattle.command_answers.specs.Opened.{IsFaultOfNone, IsWhyNoDesk, IsNoneShown}
use Rattle.command_answers.specs.Statuses.{IsOfSurroundings}
use Rattle.command_answers.specs.declared.endings.Ending.{Ending}
use Rattle.command_answers.specs.declared.endings.Fault.{Fault}
use Rattle.command_answers.specs.declared.endings.NoDesk.{NoDesk}
use Rattle.command_answers.specs.declared.endings.NoDesk.TheVariants as no_desk

-- the refusal was shown
pub none_shown : (Why : Refusal → Type 0) (none : NoDesk) (r : Result Ending Fault) (old new : Option (List ℕ))
    → IsWhyNoDesk Why none → IfOk r (IsNoneShown none old new) → IfOk r (λ e. (q : Refusal) × Why q × IsShown (refused q) old new e)
none_shown Why (no_desk.Refused q) r old new why shown =
    IfOk-weaker r (IsNoneShown (no_desk.Refused q) old new) (λ e. (p : Refusal) × Why p × IsShown (refused p) old new e)
    (λ (e : Ending) (is : IsNoneShown (no_desk.Refused q) old new e). (q, why, is)) shown
none_shown Why (no_desk.Faulty f) (Ok e) old new why shown = absurd shown
none_shown Why (no_desk.Faulty f) (Err g) old new why shown = tt

-- the fault is one of the surroundings
pub none_faults : (Why : Refusal → Type 0) (none : NoDesk) (r : Result Ending Fault) → IsWhyNoDesk Why none → IfErr r (IsFaultOfNone none) → IfErr r IsOfSurroundings
none_faults Why (no_desk.Refused q) r why of = IfErr-weaker r (IsFaultOfNone (no_desk.Refused q)) IsOfSurroundings (λ (f : Fault) (is : IsFaultOfNone (no_desk.Refused q) f). is) of
none_faults Why (no_desk.Faulty f) (Ok e) why of = tt
none_faults Why (no_desk.Faulty f) (Err g) why of = rw of why

-- why there is none, said more widely
pub none_wider : (Why Other : Refusal → Type 0) (none : NoDesk) → ((q : Refusal) → Why q → Other q) → IsWhyNoDesk Why none → IsWhyNoDesk Other none
none_wider Why Other (no_desk.Refused q) wider why = wider q why
none_wider Why Other (no_desk.Faulty f) wider why = why
