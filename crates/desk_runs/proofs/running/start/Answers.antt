use Rattle.plan_basics.specs.Watched.{inner_of}
use Rattle.desk_runs.proofs.Ending.{refused_shown}
use Rattle.desk_runs.proofs.running.start.Goals as goal

pub returns-in-Some-Refused-clause-ending : goal.returns-in-Some-Refused-clause-ending
returns-in-Some-Refused-clause-ending g c =
    refused_shown c.in-Some-Refused.refusal (g.W.Write.contents (inner_of c.args.out.now)) (g.W.Write.contents (inner_of c.tell.new.out)) c.tell.result c.tell.ensures.shown

pub brought_to-requires : goal.brought_to-requires
brought_to-requires g c = record { known = rw c.plan.ensures.plan at c.in_ok-terms.ensures.first.known.going }
