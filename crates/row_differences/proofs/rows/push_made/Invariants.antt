use Rattle.row_differences.proofs.Making.{IsMadeTo}
use Rattle.row_differences.proofs.rows.push_made.Given as goal

-- what is made so far is added
abbrev pub invariant-loop-place : goal.invariant-loop-place
invariant-loop-place g l = IsMadeTo (λ i r. goal.F-post g l.make i r) l.places l.place-index l.fn.rows.items l.rows.items
