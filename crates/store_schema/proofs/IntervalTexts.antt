-- What the texts on the table `interval` mean.
use Rattle.std.proofs.Common.{◌≡◌, Ok, refl}
use Rattle.sqlite.specs.Command.TheVariants.{CreateTable}
use Rattle.sqlite.specs.Compile.{table_defined_by}
use Rattle.sqlite.specs.Listing.{understood}
use Rattle.sqlite.proofs.Callers.{IsPlain, command_of, statement_of}
use Rattle.sqlite_tied.specs.Compute.{everything}
use Rattle.store_schema.specs.Commands.{upsert, select, delete}
use Rattle.store_schema.specs.Schema.{interval, schema_2}
use Rattle.store_schema.specs.declared.texts.TheConstants.{CREATE_INTERVAL, PUT_INTERVAL, READ_INTERVAL, DROP_INTERVAL}
use Rattle.store_schema.proofs.Tables.{Means, names_of}

pub create_is : (command_of (understood schema_2 CREATE_INTERVAL.now) ≡ CreateTable) × (statement_of CREATE_INTERVAL.now (understood schema_2 CREATE_INTERVAL.now) ≡ CREATE_INTERVAL.now) × (table_defined_by CREATE_INTERVAL.now ≡ Ok interval)
unfolding understood everything
create_is = (refl, refl, refl)

pub create_plain : IsPlain (understood schema_2 CREATE_INTERVAL.now)
unfolding understood everything
create_plain = (refl, refl)

pub put : Means PUT_INTERVAL.now (upsert 2 3 6 2)
unfolding understood everything
put = record { is = refl; plain = (refl, refl); unlisted = refl }

pub drop : Means DROP_INTERVAL.now (delete 2 3 2)
unfolding understood everything
drop = record { is = refl; plain = (refl, refl); unlisted = refl }

pub read : Means READ_INTERVAL.now (select 3 (names_of interval))
unfolding understood everything
read = record { is = refl; plain = (refl, refl); unlisted = refl }
