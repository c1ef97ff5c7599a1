use Rattle.std.proofs.lemmas.List.{get_or_default}
use Rattle.satisfaction.proofs.Journals.{unwritten, written}
use Rattle.satisfaction.proofs.journal.write.Goals as goal

pub returns-in_err-push-clause-journaled : goal.returns-in_err-push-clause-journaled
returns-in_err-push-clause-journaled c = unwritten c.args.wait_states.now c.args.journal.now.items c.push.new.self.items c.in_err-push.ensures.items

pub returns-clause-journaled : goal.returns-clause-journaled
returns-clause-journaled c = written c.args.wait_states.now c.args.journal.now.items c.push.new.self.items c.args.node c.args.new _ c.requires
    (λ d. get_or_default c.args.wait_states.now c.args.node _ d c.requires) c.in_ok-push.ensures.items
