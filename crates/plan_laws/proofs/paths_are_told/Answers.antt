use Rattle.plan_laws.proofs.Ordered.{told_acyclic_pairs, told_path}
use Rattle.plan_laws.proofs.paths_are_told.Goals as goal

pub returns : goal.returns
returns c = record { paths = told_path; cycles = told_acyclic_pairs }
