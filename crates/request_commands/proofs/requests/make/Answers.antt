use Rattle.std.proofs.Common.{◌≡◌, ◌∙◌, codes, refl, subst, Err}
use Rattle.clap.specs.Matches.{found_of}
use Rattle.plan_basics.specs.Watched.{inner_of}
use Rattle.command_answers.specs.request_json.specs.Requests.{ReadsAsRequest}
use Rattle.command_answers.specs.Given.{IsNoRequest}
use Rattle.command_words.specs.Words.{text_given}
use Rattle.command_answers.specs.declared.endings.Fault.TheVariants as fault
use Rattle.command_answers.proofs.Statuses.{of_them}
use Rattle.request_commands.proofs.Told.{request_shown, unread}
use Rattle.request_commands.proofs.requests.make.Goals as goal

pub returns-in-Err-clause-fault : goal.returns-in-Err-clause-fault
returns-in-Err-clause-fault g c =
    let text = text_given (found_of c.args.given.now) (codes "request") in
    let same : c.as_bytes.result.now ≡ text = c.as_bytes.ensures.value ∙ c.value_of.ensures in
    unread (IsNoRequest text) (Err c.in-Err.fault) c.in-Err.fault refl (rw same at c.in-Err.ensures.fault)

pub returns-in-Ok-clause-shown : goal.returns-in-Ok-clause-shown
returns-in-Ok-clause-shown g c =
    let text = text_given (found_of c.args.given.now) (codes "request") in
    let same : c.as_bytes.result.now ≡ text = c.as_bytes.ensures.value ∙ c.value_of.ensures in
    request_shown c.make_stored.result (g.W.Write.contents (inner_of c.args.out.now)) (g.W.Write.contents (inner_of c.make_stored.new.out)) text c.in-Ok.request
    (subst (λ t. ReadsAsRequest t c.in-Ok.request) same c.in-Ok.ensures.request) c.make_stored.ensures.shown

pub returns-in-Ok-clause-fault : goal.returns-in-Ok-clause-fault
returns-in-Ok-clause-fault g c =
    of_them (λ f. (f ≡ fault.Request) × IsNoRequest (text_given (found_of c.args.given.now) (codes "request"))) c.make_stored.result c.make_stored.ensures.fault
