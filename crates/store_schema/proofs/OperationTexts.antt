-- What the texts on the table `operation` mean.
use Rattle.std.proofs.Common.{◌≡◌, Ok, refl}
use Rattle.sqlite.specs.Command.TheVariants.{CreateTable}
use Rattle.sqlite.specs.Compile.{table_defined_by}
use Rattle.sqlite.specs.Listing.{understood}
use Rattle.sqlite.proofs.Callers.{IsPlain, command_of, statement_of}
use Rattle.sqlite_tied.specs.Compute.{everything}
use Rattle.store_schema.specs.Commands.{upsert, select, delete}
use Rattle.store_schema.specs.Schema.{operation, schema_5}
use Rattle.store_schema.specs.declared.texts.TheConstants.{CREATE_OPERATION, PUT_OPERATION, READ_OPERATION, DROP_OPERATION}
use Rattle.store_schema.proofs.Tables.{Means, names_of}

pub create_is : (command_of (understood schema_5 CREATE_OPERATION.now) ≡ CreateTable) × (statement_of CREATE_OPERATION.now (understood schema_5 CREATE_OPERATION.now) ≡ CREATE_OPERATION.now) × (table_defined_by CREATE_OPERATION.now ≡ Ok operation)
unfolding understood everything
create_is = (refl, refl, refl)

pub create_plain : IsPlain (understood schema_5 CREATE_OPERATION.now)
unfolding understood everything
create_plain = (refl, refl)

pub put : Means PUT_OPERATION.now (upsert 5 9 16 3)
unfolding understood everything
put = record { is = refl; plain = (refl, refl); unlisted = refl }

pub read : Means READ_OPERATION.now (select 9 (names_of operation))
unfolding understood everything
read = record { is = refl; plain = (refl, refl); unlisted = refl }

pub drop : Means DROP_OPERATION.now (delete 5 9 3)
unfolding understood everything
drop = record { is = refl; plain = (refl, refl); unlisted = refl }
