use Rattle.std.proofs.Common.{sym, ◌∙◌}
use Rattle.std.proofs.lemmas.Bool.{false≢true}
use Rattle.store_reads.proofs.Faults.{first_by, second_by}
use Rattle.store_reads.proofs.tables.rows.version_in.Goals as goal

pub returns-then-has_quantity-clause-version : goal.returns-then-has_quantity-clause-version
returns-then-has_quantity-clause-version g c version has = second_by version (sym c.if-has_quantity.true ∙ c.has_quantity.ensures.version version has)

pub returns-else-has_quantity-clause-version : goal.returns-else-has_quantity-clause-version
returns-else-has_quantity-clause-version g c version has = first_by version (sym c.if-has_quantity.false ∙ c.has_quantity.ensures.version version has)

pub returns-else-has_quantity-clause-second : goal.returns-else-has_quantity-clause-second
returns-else-has_quantity-clause-second g c has = absurd (false≢true (sym c.if-has_quantity.false ∙ c.has_quantity.ensures.there has))
