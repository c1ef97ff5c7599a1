use Rattle.std.proofs.Common.{◌∙◌, sym, true≢false}
use Rattle.plan_basics.specs.Watched.{inner_of}
use Rattle.request_commands.proofs.Replayed.{other_answer, same_answer}
use Rattle.request_commands.proofs.replaying.compare.Goals as goal

pub returns-then-same-clause-compared : goal.returns-then-same-clause-compared
returns-then-same-clause-compared g c x is =
    let old = g.W.Write.contents (inner_of c.args.out.now) in
    same_answer c.args.answer.number c.args.answer.text.now x c.args.told.now is old old (c.in_ok-same.ensures.0 c.if-same.true)

pub returns-else-same-clause-compared : goal.returns-else-same-clause-compared
returns-else-same-clause-compared g c x is =
    other_answer c.args.answer.number c.args.answer.text.now x c.args.told.now is (g.W.Write.contents (inner_of c.args.out.now)) (g.W.Write.contents (inner_of c.tell_parting.new.out))
    c.tell_parting.result (λ e. true≢false (sym (c.in_ok-same.ensures.1 e) ∙ c.if-same.false)) (c.tell_parting.ensures.shown x is)
