use Rattle.std.proofs.lemmas.Iterator.{YieldsList-from_slice}
use Rattle.std.proofs.lemmas.Iterator.Adapters.{fact_from_collect}
use Rattle.std.proofs.lemmas.Iterator.Consumers.{YieldsList-from_copied}
use Rattle.std.specs.BTreeSet.{IsFromIterResult}
use Rattle.plan_basics.specs.Keys.{operation_cmp}
use Rattle.plan_shows.proofs.reached.set_of.Goals as goal

pub returns : goal.returns
returns c = fact_from_collect (λ keys set. IsFromIterResult operation_cmp keys set) c.collect.result c.collect.ensures.ran (YieldsList-from_copied (YieldsList-from_slice c.args.keys.now cc))
