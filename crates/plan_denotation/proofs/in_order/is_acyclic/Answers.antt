use Rattle.std.proofs.Common.{ap, ◌∙◌}
use Rattle.std.specs.Map.{keys_of}
use Rattle.plan_drafts.proofs.InOrder.{ends_known}
use Rattle.plan_denotation.proofs.in_order.is_acyclic.Goals as goal

pub are_pairs_acyclic-requires-clause-ends : goal.are_pairs_acyclic-requires-clause-ends
are_pairs_acyclic-requires-clause-ends c =
    let listed = c.deref.ensures.value ∙ c.in_ok-keys.ensures ∙ ap keys_of c.operations.ensures.rows in
    ends_known c.args.contents.now c.deref.result.now c.pairs.result.now listed c.pairs.ensures.pairs c.requires

pub returns : goal.returns
returns c = rw c.pairs.ensures.pairs at c.are_pairs_acyclic.ensures
