-- What the texts on the table `amount` mean.
use Rattle.std.proofs.Common.{◌≡◌, Ok, refl}
use Rattle.sqlite.specs.Command.TheVariants.{CreateTable}
use Rattle.sqlite.specs.Compile.{table_defined_by}
use Rattle.sqlite.specs.Listing.{understood}
use Rattle.sqlite.proofs.Callers.{IsPlain, command_of, statement_of}
use Rattle.sqlite_tied.specs.Compute.{everything}
use Rattle.store_schema.specs.Commands.{upsert, select, delete}
use Rattle.store_schema.specs.Schema.{amount, schema_10}
use Rattle.store_schema.specs.declared.texts.TheConstants.{CREATE_AMOUNT, PUT_AMOUNT, READ_AMOUNT, DROP_AMOUNT}
use Rattle.store_schema.proofs.Tables.{Means, names_of}

pub create_is : (command_of (understood schema_10 CREATE_AMOUNT.now) ≡ CreateTable) × (statement_of CREATE_AMOUNT.now (understood schema_10 CREATE_AMOUNT.now) ≡ CREATE_AMOUNT.now) × (table_defined_by CREATE_AMOUNT.now ≡ Ok amount)
unfolding understood everything
create_is = (refl, refl, refl)

pub create_plain : IsPlain (understood schema_10 CREATE_AMOUNT.now)
unfolding understood everything
create_plain = (refl, refl)

pub put : Means PUT_AMOUNT.now (upsert 10 19 5 4)
unfolding understood everything
put = record { is = refl; plain = (refl, refl); unlisted = refl }

pub read : Means READ_AMOUNT.now (select 19 (names_of amount))
unfolding understood everything
read = record { is = refl; plain = (refl, refl); unlisted = refl }

pub drop : Means DROP_AMOUNT.now (delete 10 19 4)
unfolding understood everything
drop = record { is = refl; plain = (refl, refl); unlisted = refl }
