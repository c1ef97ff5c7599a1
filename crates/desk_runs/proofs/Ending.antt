-- How a run of `desk` ends that shows something.
use Rattle.std.proofs.Common.{◌≡◌, List, ℕ, Option, Result, Ok, Err, IfOk}
use Rattle.plan_basics.specs.declared.Refusal.{Refusal}
use Rattle.command_desks.specs.desk_tables.specs.plan_records.specs.Answer.{refused}
use Rattle.command_answers.specs.Answers.{IsShown}
use Rattle.command_answers.specs.declared.endings.Ending.{Ending}
use Rattle.command_answers.specs.declared.endings.Ending.TheVariants as ending
use Rattle.command_answers.specs.declared.endings.Fault.{Fault}
use Rattle.command_answers.specs.declared.endings.NoDesk.{NoDesk}
use Rattle.command_answers.specs.declared.endings.NoDesk.TheVariants as no_desk
use Rattle.command_answers.specs.Opened.{IsNoneShown}

-- a refusal that is shown ends it so
pub refused_shown : (r : Refusal) (old new : Option (List ℕ)) (told : Result Ending Fault) → IfOk told (IsShown (refused r) old new) → IfOk told (λ e. e ≡ ending.Refused)
refused_shown r old new (Ok e) shown = shown.1
refused_shown r old new (Err f) shown = tt

-- and so does why there is no desk
pub none_shown : (none : NoDesk) (old new : Option (List ℕ)) (told : Result Ending Fault) → IfOk told (IsNoneShown none old new) → IfOk told (λ e. e ≡ ending.Refused)
none_shown (no_desk.Refused r) old new told shown = refused_shown r old new told shown
none_shown (no_desk.Faulty f) old new (Ok e) shown = absurd shown
none_shown (no_desk.Faulty f) old new (Err g) shown = tt
