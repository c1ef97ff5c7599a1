use Rattle.http_messages.proofs.Guarded.{text_of_requester}
use Rattle.http_messages.proofs.requesters.requester_of.Goals as goal

pub returns-in_default : goal.returns-in_default
returns-in_default c = λ text. c.in_default.ensures.cases.0 (text_of_requester c.args.value.now text)
