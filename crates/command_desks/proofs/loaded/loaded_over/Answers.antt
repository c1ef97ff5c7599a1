use Rattle.std.proofs.Common.{FitsSigned, inr, to_z-of_z, w64}
use Rattle.plan_basics.specs.declared.Refusal.{Refusal}
use Rattle.desk_tables.specs.Faults.{IsOpeningRefusal}
use Rattle.command_desks.specs.Loaded.{IsLoadRefusal}
use Rattle.command_answers.proofs.Opened.{none_wider}
use Rattle.command_desks.proofs.loaded.loaded_over.Goals as goal

pub returns-in-Ok-clause-loaded : goal.returns-in-Ok-clause-loaded
returns-in-Ok-clause-loaded g c =
    let fits : FitsSigned w64 c.args.at = c.ranges.at in
    simp to_z-of_z at c.desk_with.ensures.loaded

pub returns-in-Ok-clause-refused : goal.returns-in-Ok-clause-refused
returns-in-Ok-clause-refused g c =
    let fits : FitsSigned w64 c.args.at = c.ranges.at in
    simp to_z-of_z at c.desk_with.ensures.refused

pub returns-in-Err-clause-refused : goal.returns-in-Err-clause-refused
returns-in-Err-clause-refused g c =
    none_wider IsOpeningRefusal (IsLoadRefusal c.args.at c.args.draft) c.in-Err.none (λ (q : Refusal) (is : IsOpeningRefusal q). inr is) c.in-Err.ensures.refused
