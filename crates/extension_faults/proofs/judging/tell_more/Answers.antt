use Rattle.std.proofs.Common.{◌∙◌, sym, refl}
use Rattle.extension_faults.proofs.Lines.{no_more_lines}
use Rattle.extension_faults.proofs.judging.tell_more.Goals as goal

pub returns-then-more-eq0 : goal.returns-then-more-eq0
returns-then-more-eq0 c = no_more_lines _ _ _ (sym c.saturating_sub-more.ensures ∙ c.if-more-eq0.true) refl
