use Rattle.std.proofs.Common.{arith}
use Rattle.extension_faults.proofs.limits.pairs_counted.Goals as goal

pub returns-clause-number : goal.returns-clause-number
returns-clause-number c = (c.in_ok-staying.staying.items, c.in_ok-staying.ensures, omega (arith, c.len.ensures, c.in_ok-staying.staying.ok.0))

pub returns-clause-small : goal.returns-clause-small
returns-clause-small c = omega (arith, c.len.ensures, c.in_ok-staying.staying.ok.1, c.in_ok-staying.staying.small)
