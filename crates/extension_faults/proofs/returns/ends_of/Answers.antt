use Rattle.std.proofs.Common.{◌∙◌, ◌++◌, ◌∷◌, [], ap, arith}
use Rattle.std.proofs.lemmas.List.{take_all}
use Rattle.extension_faults.specs.Whole.{ends_of}
use Rattle.record_faults.specs.Sayings.{PlacedKeys}
use Rattle.extension_faults.proofs.Numbered.{ends_more}
use Rattle.extension_faults.proofs.returns.ends_of.Goals as goal

pub loop-pair-preserved : goal.loop-pair-preserved
loop-pair-preserved c =
    let pair = c.pair-item.result in
    c.in_ok-extend_from_slice.ensures.items ∙ ap (λ (ks : PlacedKeys). ks ++ ends_of (pair ∷ [])) c.loop-pair.invariant ∙ ends_more c.args.pairs.now c.loop-pair.pair-index pair (omega arith) c.pair-item.is

pub returns : goal.returns
returns c = c.loop-pair.invariant ∙ ap ends_of (take_all c.loop-pair.pair-index c.args.pairs.now (omega arith))
