use Rattle.std.proofs.Common.{subst}
use Rattle.journal_starts.specs.Lines.{AreMentioned}
use Rattle.desk_runs.proofs.Followed.{first_known}
use Rattle.desk_runs.proofs.following.known_by.Goals as goal

pub returns : goal.returns
returns c =
    let read = subst (λ clock. AreMentioned clock c.args.journal.now c.in_ok-mentions.mentions.items) c.clock.ensures.value c.in_ok-mentions.ensures in
    first_known c.args.plan.now.plan c.args.journal.now c.in_ok-mentions.mentions.items read c.told.result c.told.ensures.going (rw c.deref.ensures.value at c.told.ensures.told)
