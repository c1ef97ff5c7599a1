use Rattle.std.proofs.Common.{refl, append_assoc}
use Rattle.extension_faults.proofs.texts.numbered.Goals as goal

pub returns : goal.returns
returns c = simp (c.in_ok-text.ensures.ok, append_assoc) refl
