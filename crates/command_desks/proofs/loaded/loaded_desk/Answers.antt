use Rattle.std.proofs.Common.{FitsSigned, to_z-of_z, w64}
use Rattle.command_desks.proofs.loaded.loaded_desk.Goals as goal

pub returns-in-Ok-clause-loaded : goal.returns-in-Ok-clause-loaded
returns-in-Ok-clause-loaded c =
    let fits : FitsSigned w64 c.args.at = c.ranges.at in
    simp to_z-of_z at c.loaded_over.ensures.loaded

pub returns-in-Ok-clause-refused : goal.returns-in-Ok-clause-refused
returns-in-Ok-clause-refused c =
    let fits : FitsSigned w64 c.args.at = c.ranges.at in
    simp to_z-of_z at c.loaded_over.ensures.refused
