-- A plan that wasn't loaded: what holds of the run then, for a relation that holds where the load's refusal was shown and of each fault of the surroundings.
use Rattle.std.proofs.Common.{ℕ, ℤ, List, Option, Result, Ok, Err, IfOk, IfErr}
use Rattle.plan_basics.specs.declared.Refusal.{Refusal}
use Rattle.plan_records.specs.plan_model.specs.Contents.{Contents}
use Rattle.plan_records.specs.Answer.{refused}
use Rattle.command_answers.specs.Answers.{IsShown}
use Rattle.command_answers.specs.Opened.{IsFaultOfNone, IsWhyNoDesk, IsNoneShown}
use Rattle.command_answers.specs.Statuses.{IsOfSurroundings}
use Rattle.command_answers.specs.declared.endings.Ending.{Ending}
use Rattle.command_answers.specs.declared.endings.Fault.{Fault}
use Rattle.command_answers.specs.declared.endings.NoDesk.{NoDesk}
use Rattle.command_answers.specs.declared.endings.NoDesk.TheVariants as no_desk
use Rattle.command_desks.specs.Loaded.{IsLoadRefusal}

module _ (at : ℤ) (found : Option Contents) (old new : Option (List ℕ)) (Q : Result Ending Fault → Type 0)
    (shows : (e : Ending) → (r : Refusal) × IsLoadRefusal at found r × IsShown (refused r) old new e → Q (Ok e))
    (fails : (f : Fault) → IsOfSurroundings f → Q (Err f)) where
  -- the load was refused, and that was shown
  load_refused : (refusal : Refusal) (r : Result Ending Fault)
      → IsLoadRefusal at found refusal → IfOk r (IsShown (refused refusal) old new) → IfErr r IsOfSurroundings → Q r
  load_refused refusal (Ok e) why shown of = shows e (refusal, why, shown)
  load_refused refusal (Err f) why shown of = fails f of

  -- why there is no desk was shown, or its fault handed on
  pub unloaded : (none : NoDesk) (r : Result Ending Fault)
      → IsWhyNoDesk (IsLoadRefusal at found) none → IfOk r (IsNoneShown none old new) → IfErr r (IsFaultOfNone none) → Q r
  unloaded (no_desk.Refused q) (Ok e) why shown of = load_refused q (Ok e) why shown tt
  unloaded (no_desk.Refused q) (Err g) why shown of = load_refused q (Err g) why tt of
  unloaded (no_desk.Faulty f) (Ok e) why shown of = absurd shown
  unloaded (no_desk.Faulty f) (Err g) why shown of = fails g (rw of why)
