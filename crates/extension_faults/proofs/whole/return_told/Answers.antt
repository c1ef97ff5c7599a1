use Rattle.extension_faults.proofs.ToldPaths.{one_return}
use Rattle.extension_faults.proofs.whole.return_told.Goals as goal

pub returns : goal.returns
returns c = one_return c.args.circle.now c.in-Some.circle c.in-Some.is c.in_ok-told.told.items c.in_ok-told.ensures.items
