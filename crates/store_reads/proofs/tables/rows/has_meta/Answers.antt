use Rattle.std.proofs.Common.{ap, codes, sym, subst, ◌∙◌, IsTrue, is_some}
use Rattle.sqlite_schema.specs.Names.{table_named}
use Rattle.store_reads.proofs.Faults.{meta_named}
use Rattle.store_reads.proofs.tables.rows.has_meta.Goals as goal

pub returns-clause-there : goal.returns-clause-there
returns-clause-there g c version has =
    subst IsTrue (sym (c.is_some.ensures ∙ ap is_some (c.table_named.ensures ∙ ap (λ s. table_named s (codes "meta")) (c.schema.ensures.value ∙ has)))) (meta_named version)
