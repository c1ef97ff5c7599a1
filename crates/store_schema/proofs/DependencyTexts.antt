-- What the texts on the table `dependency` mean.
use Rattle.std.proofs.Common.{◌≡◌, Ok, refl}
use Rattle.sqlite.specs.Command.TheVariants.{CreateTable}
use Rattle.sqlite.specs.Compile.{table_defined_by}
use Rattle.sqlite.specs.Listing.{understood}
use Rattle.sqlite.proofs.Callers.{IsPlain, command_of, statement_of}
use Rattle.sqlite_tied.specs.Compute.{everything}
use Rattle.store_schema.specs.Commands.{insert_or_pass, select, delete}
use Rattle.store_schema.specs.Schema.{dependency, schema_6}
use Rattle.store_schema.specs.declared.texts.TheConstants.{CREATE_DEPENDENCY, PUT_DEPENDENCY, READ_DEPENDENCY, DROP_DEPENDENCY}
use Rattle.store_schema.proofs.Tables.{Means, names_of}

pub create_is : (command_of (understood schema_6 CREATE_DEPENDENCY.now) ≡ CreateTable) × (statement_of CREATE_DEPENDENCY.now (understood schema_6 CREATE_DEPENDENCY.now) ≡ CREATE_DEPENDENCY.now) × (table_defined_by CREATE_DEPENDENCY.now ≡ Ok dependency)
unfolding understood everything
create_is = (refl, refl, refl)

pub create_plain : IsPlain (understood schema_6 CREATE_DEPENDENCY.now)
unfolding understood everything
create_plain = (refl, refl)

pub put : Means PUT_DEPENDENCY.now (insert_or_pass 6 6 6)
unfolding understood everything
put = record { is = refl; plain = (refl, refl); unlisted = refl }

pub read : Means READ_DEPENDENCY.now (select 11 (names_of dependency))
unfolding understood everything
read = record { is = refl; plain = (refl, refl); unlisted = refl }

pub drop : Means DROP_DEPENDENCY.now (delete 6 11 6)
unfolding understood everything
drop = record { is = refl; plain = (refl, refl); unlisted = refl }
