-- What the texts on the table `occurrence` mean.
use Rattle.std.proofs.Common.{◌≡◌, Ok, refl}
use Rattle.sqlite.specs.Command.TheVariants.{CreateTable}
use Rattle.sqlite.specs.Compile.{table_defined_by}
use Rattle.sqlite.specs.Listing.{understood}
use Rattle.sqlite.proofs.Callers.{IsPlain, command_of, statement_of}
use Rattle.sqlite_tied.specs.Compute.{everything}
use Rattle.store_schema.specs.Commands.{upsert, select, delete}
use Rattle.store_schema.specs.Schema.{occurrence, schema_4}
use Rattle.store_schema.specs.declared.texts.TheConstants.{CREATE_OCCURRENCE, PUT_OCCURRENCE, READ_OCCURRENCE, DROP_OCCURRENCE}
use Rattle.store_schema.proofs.Tables.{Means, names_of}

pub create_is : (command_of (understood schema_4 CREATE_OCCURRENCE.now) ≡ CreateTable) × (statement_of CREATE_OCCURRENCE.now (understood schema_4 CREATE_OCCURRENCE.now) ≡ CREATE_OCCURRENCE.now) × (table_defined_by CREATE_OCCURRENCE.now ≡ Ok occurrence)
unfolding understood everything
create_is = (refl, refl, refl)

pub create_plain : IsPlain (understood schema_4 CREATE_OCCURRENCE.now)
unfolding understood everything
create_plain = (refl, refl)

pub put : Means PUT_OCCURRENCE.now (upsert 4 7 5 2)
unfolding understood everything
put = record { is = refl; plain = (refl, refl); unlisted = refl }

pub read : Means READ_OCCURRENCE.now (select 7 (names_of occurrence))
unfolding understood everything
read = record { is = refl; plain = (refl, refl); unlisted = refl }

pub drop : Means DROP_OCCURRENCE.now (delete 4 7 2)
unfolding understood everything
drop = record { is = refl; plain = (refl, refl); unlisted = refl }
