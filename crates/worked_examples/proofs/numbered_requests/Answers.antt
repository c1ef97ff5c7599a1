use Rattle.worked_examples.proofs.NightTold.{numbered_again, numbered_request, run_told_twice}
use Rattle.worked_examples.proofs.numbered_requests.Goals as goal

pub returns : goal.returns
returns c = record { accepted = numbered_request; again = numbered_again; run = run_told_twice }
