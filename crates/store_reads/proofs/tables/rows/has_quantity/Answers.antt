use Rattle.std.proofs.Common.{ap, codes, subst, sym, ◌∙◌, IsTrue, is_some}
use Rattle.sqlite_schema.specs.Names.{table_named}
use Rattle.store_reads.proofs.Faults.{quantity_named}
use Rattle.store_reads.proofs.tables.rows.has_quantity.Goals as goal

pub returns-clause-version : goal.returns-clause-version
returns-clause-version g c version has =
    c.is_some.ensures ∙ ap is_some (c.table_named.ensures ∙ ap (λ s. table_named s (codes "quantity")) (c.schema.ensures.value ∙ has)) ∙ quantity_named version

pub returns-clause-there : goal.returns-clause-there
returns-clause-there g c has =
    subst IsTrue (sym (c.is_some.ensures ∙ ap is_some (c.table_named.ensures ∙ ap (λ s. table_named s (codes "quantity")) c.schema.ensures.value))) has
