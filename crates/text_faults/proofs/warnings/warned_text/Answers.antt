use Rattle.std.proofs.Common.{refl, append_assoc}
use Rattle.text_faults.proofs.warnings.warned_text.Goals as goal

pub returns : goal.returns
returns c = simp (c.in_ok-text.ensures.ok, append_assoc) refl
