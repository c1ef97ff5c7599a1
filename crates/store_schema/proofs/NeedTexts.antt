-- What the texts on the table `need` mean.
use Rattle.std.proofs.Common.{◌≡◌, Ok, refl}
use Rattle.sqlite.specs.Command.TheVariants.{CreateTable}
use Rattle.sqlite.specs.Compile.{table_defined_by}
use Rattle.sqlite.specs.Listing.{understood}
use Rattle.sqlite.proofs.Callers.{IsPlain, command_of, statement_of}
use Rattle.sqlite_tied.specs.Compute.{everything}
use Rattle.store_schema.specs.Commands.{upsert, select, delete}
use Rattle.store_schema.specs.Schema.{need, schema_7}
use Rattle.store_schema.specs.declared.texts.TheConstants.{CREATE_NEED, PUT_NEED, READ_NEED, DROP_NEED}
use Rattle.store_schema.proofs.Tables.{Means, names_of}

pub create_is : (command_of (understood schema_7 CREATE_NEED.now) ≡ CreateTable) × (statement_of CREATE_NEED.now (understood schema_7 CREATE_NEED.now) ≡ CREATE_NEED.now) × (table_defined_by CREATE_NEED.now ≡ Ok need)
unfolding understood everything
create_is = (refl, refl, refl)

pub create_plain : IsPlain (understood schema_7 CREATE_NEED.now)
unfolding understood everything
create_plain = (refl, refl)

pub put : Means PUT_NEED.now (upsert 7 13 6 4)
unfolding understood everything
put = record { is = refl; plain = (refl, refl); unlisted = refl }

pub read : Means READ_NEED.now (select 13 (names_of need))
unfolding understood everything
read = record { is = refl; plain = (refl, refl); unlisted = refl }

pub drop : Means DROP_NEED.now (delete 7 13 4)
unfolding understood everything
drop = record { is = refl; plain = (refl, refl); unlisted = refl }
