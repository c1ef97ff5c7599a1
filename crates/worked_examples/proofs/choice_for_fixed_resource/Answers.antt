use Rattle.worked_examples.proofs.TrioRows.{choice_for_fixed_resource}
use Rattle.worked_examples.proofs.choice_for_fixed_resource.Goals as goal

pub returns : goal.returns
returns c = choice_for_fixed_resource
