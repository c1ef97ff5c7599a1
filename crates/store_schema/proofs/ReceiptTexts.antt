-- What the texts on the table `receipt` mean.
use Rattle.std.proofs.Common.{◌≡◌, Ok, refl}
use Rattle.sqlite.specs.Command.TheVariants.{CreateTable}
use Rattle.sqlite.specs.Compile.{table_defined_by}
use Rattle.sqlite.specs.Listing.{understood}
use Rattle.sqlite.proofs.Callers.{IsPlain, command_of, statement_of}
use Rattle.sqlite_tied.specs.Compute.{everything}
use Rattle.store_schema.specs.Commands.{upsert, select}
use Rattle.store_schema.specs.Schema.{receipt, schema_8}
use Rattle.store_schema.specs.declared.texts.TheConstants.{CREATE_RECEIPT, PUT_RECEIPT, READ_RECEIPT}
use Rattle.store_schema.proofs.Tables.{Means, names_of}

pub create_is : (command_of (understood schema_8 CREATE_RECEIPT.now) ≡ CreateTable) × (statement_of CREATE_RECEIPT.now (understood schema_8 CREATE_RECEIPT.now) ≡ CREATE_RECEIPT.now) × (table_defined_by CREATE_RECEIPT.now ≡ Ok receipt)
unfolding understood everything
create_is = (refl, refl, refl)

pub create_plain : IsPlain (understood schema_8 CREATE_RECEIPT.now)
unfolding understood everything
create_plain = (refl, refl)

pub put : Means PUT_RECEIPT.now (upsert 8 15 4 1)
unfolding understood everything
put = record { is = refl; plain = (refl, refl); unlisted = refl }

pub read : Means READ_RECEIPT.now (select 15 (names_of receipt))
unfolding understood everything
read = record { is = refl; plain = (refl, refl); unlisted = refl }
