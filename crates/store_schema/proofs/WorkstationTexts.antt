-- What the texts on the table `workstation` mean.
use Rattle.std.proofs.Common.{◌≡◌, Ok, refl}
use Rattle.sqlite.specs.Command.TheVariants.{CreateTable}
use Rattle.sqlite.specs.Compile.{table_defined_by}
use Rattle.sqlite.specs.Listing.{understood}
use Rattle.sqlite.proofs.Callers.{IsPlain, command_of, statement_of}
use Rattle.sqlite_tied.specs.Compute.{everything}
use Rattle.store_schema.specs.Commands.{upsert, select}
use Rattle.store_schema.specs.Schema.{workstation, schema_1}
use Rattle.store_schema.specs.declared.texts.TheConstants.{CREATE_WORKSTATION, PUT_WORKSTATION, READ_WORKSTATION}
use Rattle.store_schema.proofs.Tables.{Means, names_of}

pub create_is : (command_of (understood schema_1 CREATE_WORKSTATION.now) ≡ CreateTable) × (statement_of CREATE_WORKSTATION.now (understood schema_1 CREATE_WORKSTATION.now) ≡ CREATE_WORKSTATION.now) × (table_defined_by CREATE_WORKSTATION.now ≡ Ok workstation)
unfolding understood everything
create_is = (refl, refl, refl)

pub create_plain : IsPlain (understood schema_1 CREATE_WORKSTATION.now)
unfolding understood everything
create_plain = (refl, refl)

pub put : Means PUT_WORKSTATION.now (upsert 1 1 2 1)
unfolding understood everything
put = record { is = refl; plain = (refl, refl); unlisted = refl }

pub read : Means READ_WORKSTATION.now (select 1 (names_of workstation))
unfolding understood everything
read = record { is = refl; plain = (refl, refl); unlisted = refl }
