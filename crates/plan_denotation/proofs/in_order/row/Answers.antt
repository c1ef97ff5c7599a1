use Rattle.std.proofs.Common.{arith, sym}
use Rattle.plan_denotation.proofs.InOrder.{row_made, unknown}
use Rattle.plan_denotation.proofs.Terms.{found_key}
use Rattle.plan_denotation.proofs.in_order.row.Goals as goal

pub returns-in_err-terms : goal.returns-in_err-terms
returns-in_err-terms c =
    rw c.from_residual.ensures (unknown c.args.occurrences.now c.args.needs.now c.args.said.now c.requires.in_order c.in_err-terms.ensures)

pub returns-in_err-needs : goal.returns-in_err-needs
returns-in_err-needs c = rw c.from_residual-in_err-needs.ensures (λ belongs. let few = belongs.few_needs in absurd (omega (arith, c.in_err-needs.ensures, few)))

pub returns : goal.returns
returns c =
    let found = sym c.in_ok-terms.ensures in
    let own = c.in_ok-needs.ensures in (
      record { occurrence = found_key c.args.occurrences.now c.args.said.now.key.occurrence c.in_ok-terms.terms found; few_needs = own.0 },
      row_made c.args.occurrences.now c.args.needs.now c.args.said.now c.in_ok-terms.terms c.unwrap_or.result _ found c.unwrap_or.ensures own.1,
    )
