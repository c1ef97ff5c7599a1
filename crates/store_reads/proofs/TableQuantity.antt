-- The tables of the second version have one that is called `quantity`.
use Rattle.std.proofs.Common.{◌≡◌, subst, sym}
use Rattle.sqlite.specs.Schema.{Schema}
use Rattle.store_schema.specs.Schema.{desk_schema}
use Rattle.store_schema.specs.declared.texts.Version.TheVariants.{Second}
use Rattle.store_reads.specs.Versions.{HasTableQuantity}
use Rattle.store_reads.proofs.Faults.{quantity_named}

pub second_has_quantity : (schema : Schema) → schema ≡ desk_schema → HasTableQuantity schema
second_has_quantity schema is = subst HasTableQuantity (sym is) (quantity_named Second)
