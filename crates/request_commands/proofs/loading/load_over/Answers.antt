use Rattle.std.proofs.Common.{FitsSigned, to_z-of_z, w64}
use Rattle.plan_basics.specs.Watched.{inner_of}
use Rattle.plan_records.specs.Answer.{answer_of}
use Rattle.request_commands.proofs.Loaded.{load_told}
use Rattle.request_commands.proofs.loading.load_over.Goals as goal

pub returns-clause-shown : goal.returns-clause-shown
returns-clause-shown g c =
    let fits : FitsSigned w64 c.args.at = c.ranges.at in
    load_told c.args.at c.args.draft _ _ (answer_of c.load_into-reply.result.0) c.tell-told.result
    (g.W.Write.contents (inner_of c.args.out.now)) (g.W.Write.contents (inner_of c.tell-told.new.out))
    (simp to_z-of_z at c.load_into-reply.ensures) c.tell-told.ensures.shown
