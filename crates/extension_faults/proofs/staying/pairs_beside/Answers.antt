use Rattle.std.proofs.Common.{◌∙◌, ◌++◌, ap}
use Rattle.extension_faults.proofs.staying.pairs_beside.Goals as goal

pub returns : goal.returns
returns c =
    let there = c.in_ok-pairs.pairs.items in
    (there, c.in_ok-pairs.ensures, c.in_ok-extend_from_slice.ensures.items ∙ ap (λ told. there ++ told) (c.deref.ensures.value ∙ c.in_ok-told.ensures))
