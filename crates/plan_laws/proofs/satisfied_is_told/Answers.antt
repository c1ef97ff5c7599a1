use Rattle.plan_laws.proofs.Decide.{told_satisfied, from_each, in_each}
use Rattle.plan_laws.proofs.Standing.{satisfied_is_told}
use Rattle.plan_laws.proofs.satisfied_is_told.Goals as goal

pub returns : goal.returns
returns c = record { told = λ P rank r o. told_satisfied P rank r o; each = λ P rank r o. (λ s. in_each P s, from_each P (told_satisfied P rank r) o); valid = satisfied_is_told }
