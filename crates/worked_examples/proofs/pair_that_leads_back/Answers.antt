use Rattle.worked_examples.proofs.NightRefusals.{pair_leads_back}
use Rattle.worked_examples.proofs.pair_that_leads_back.Goals as goal

pub returns : goal.returns
returns c = pair_leads_back
