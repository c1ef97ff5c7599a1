use Rattle.std.proofs.Common.{ap, sym, Some}
use Rattle.request_outcomes.proofs.requests.drafted.Goals as goal

pub returns-clause-made : goal.returns-clause-made
returns-clause-made c P = record { is_request = c.graph.ensures.draft; changes = ap Some (sym c.in_ok-copy.ensures) }
