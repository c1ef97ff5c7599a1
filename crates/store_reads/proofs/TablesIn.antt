-- Which tables a version has.
use Rattle.std.specs.List.{AllByRecursion}
use Rattle.store_schema.specs.declared.texts.Version.{Version}
use Rattle.store_schema.specs.declared.texts.Version.TheVariants.{First, Second}
use Rattle.store_reads.specs.Tables.{tables_of, IsIn}

-- the tables of a version are in it
pub all_in : (version : Version) → AllByRecursion (IsIn version) (tables_of version)
all_in First = (tt, (tt, (tt, (tt, (tt, (tt, (tt, (tt, tt))))))))
all_in Second = (tt, (tt, (tt, (tt, (tt, (tt, (tt, (tt, (tt, (tt, tt))))))))))
