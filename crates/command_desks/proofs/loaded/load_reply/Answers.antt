use Rattle.std.proofs.Common.{FitsSigned, to_z-of_z, w64}
use Rattle.command_desks.proofs.loaded.load_reply.Goals as goal

pub returns : goal.returns
returns g c =
    let fits : FitsSigned w64 c.args.at = c.ranges.at in
    simp to_z-of_z at c.call.ensures.answers
