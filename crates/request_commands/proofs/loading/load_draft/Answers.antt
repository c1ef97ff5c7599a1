use Rattle.std.proofs.Common.{FitsSigned, to_z-of_z, w64}
use Rattle.request_commands.proofs.loading.load_draft.Goals as goal

pub returns-in-Ok-clause-shown : goal.returns-in-Ok-clause-shown
returns-in-Ok-clause-shown g c =
    let fits : FitsSigned w64 c.args.at = c.ranges.at in
    simp to_z-of_z at c.load_over.ensures.shown
