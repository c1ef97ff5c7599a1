use Rattle.small_requests.proofs.Rerunning.{reruns_go_on}
use Rattle.small_requests.proofs.Targets.{edited_are_unsatisfied}
use Rattle.small_requests.proofs.laws.edits_lead_on.Goals as goal

pub returns : goal.returns
returns c = record { unsatisfied = edited_are_unsatisfied; reruns = reruns_go_on }
