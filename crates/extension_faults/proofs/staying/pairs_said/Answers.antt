use Rattle.std.proofs.Common.{◌∙◌, ◌++◌, ap, arith}
use Rattle.std.specs.Option.{option_to_list}
use Rattle.std.proofs.lemmas.List.{take_all}
use Rattle.extension_faults.specs.Whole.{pair_said, pairs_said}
use Rattle.extension_faults.proofs.SaidPairs.{said_more}
use Rattle.extension_faults.proofs.staying.pairs_said.Goals as goal

pub loop-place-preserved : goal.loop-place-preserved
loop-place-preserved c =
    let o = c.index-said-place.result in
    c.in_ok-push_said.ensures ∙ ap (λ xs. xs ++ option_to_list (pair_said o)) c.loop-place.invariant ∙ said_more c.args.said.now c.loop-place.place o (omega arith) c.index-said-place.is

pub returns : goal.returns
returns c = c.loop-place.invariant ∙ ap pairs_said (take_all c.loop-place.place c.args.said.now (omega arith))
