use Rattle.derived_figures.proofs.Naming as naming
use Rattle.derived_figures.proofs.laws.naming_keeps_kept.Goals as goal

pub returns : goal.returns
returns c = naming.naming_keeps_kept
