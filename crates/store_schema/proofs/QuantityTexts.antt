-- What the texts on the table `quantity` mean.
use Rattle.std.proofs.Common.{◌≡◌, Ok, refl}
use Rattle.sqlite.specs.Command.TheVariants.{CreateTable}
use Rattle.sqlite.specs.Compile.{table_defined_by}
use Rattle.sqlite.specs.Listing.{understood}
use Rattle.sqlite.proofs.Callers.{IsPlain, command_of, statement_of}
use Rattle.sqlite_tied.specs.Compute.{everything}
use Rattle.store_schema.specs.Commands.{upsert, select}
use Rattle.store_schema.specs.Schema.{quantity, first_schema}
use Rattle.store_schema.specs.declared.texts.TheConstants.{CREATE_QUANTITY, PUT_QUANTITY, READ_QUANTITY}
use Rattle.store_schema.proofs.Tables.{Means, names_of}

pub create_is : (command_of (understood first_schema CREATE_QUANTITY.now) ≡ CreateTable) × (statement_of CREATE_QUANTITY.now (understood first_schema CREATE_QUANTITY.now) ≡ CREATE_QUANTITY.now) × (table_defined_by CREATE_QUANTITY.now ≡ Ok quantity)
unfolding understood everything
create_is = (refl, refl, refl)

pub create_plain : IsPlain (understood first_schema CREATE_QUANTITY.now)
unfolding understood everything
create_plain = (refl, refl)

pub put : Means PUT_QUANTITY.now (upsert 9 17 2 1)
unfolding understood everything
put = record { is = refl; plain = (refl, refl); unlisted = refl }

pub read : Means READ_QUANTITY.now (select 17 (names_of quantity))
unfolding understood everything
read = record { is = refl; plain = (refl, refl); unlisted = refl }
