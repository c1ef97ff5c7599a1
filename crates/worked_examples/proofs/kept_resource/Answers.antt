use Rattle.worked_examples.proofs.BillingWaits.{kept_resource}
use Rattle.worked_examples.proofs.kept_resource.Goals as goal

pub returns : goal.returns
returns c = kept_resource
