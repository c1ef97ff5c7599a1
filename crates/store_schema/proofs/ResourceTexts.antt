-- What the texts on the table `resource` mean.
use Rattle.std.proofs.Common.{◌≡◌, Ok, refl}
use Rattle.sqlite.specs.Command.TheVariants.{CreateTable}
use Rattle.sqlite.specs.Compile.{table_defined_by}
use Rattle.sqlite.specs.Listing.{understood}
use Rattle.sqlite.proofs.Callers.{IsPlain, command_of, statement_of}
use Rattle.sqlite_tied.specs.Compute.{everything}
use Rattle.store_schema.specs.Commands.{upsert, select}
use Rattle.store_schema.specs.Schema.{resource, schema_3}
use Rattle.store_schema.specs.declared.texts.TheConstants.{CREATE_RESOURCE, PUT_RESOURCE, READ_RESOURCE}
use Rattle.store_schema.proofs.Tables.{Means, names_of}

pub create_is : (command_of (understood schema_3 CREATE_RESOURCE.now) ≡ CreateTable) × (statement_of CREATE_RESOURCE.now (understood schema_3 CREATE_RESOURCE.now) ≡ CREATE_RESOURCE.now) × (table_defined_by CREATE_RESOURCE.now ≡ Ok resource)
unfolding understood everything
create_is = (refl, refl, refl)

pub create_plain : IsPlain (understood schema_3 CREATE_RESOURCE.now)
unfolding understood everything
create_plain = (refl, refl)

pub put : Means PUT_RESOURCE.now (upsert 3 5 2 1)
unfolding understood everything
put = record { is = refl; plain = (refl, refl); unlisted = refl }

pub read : Means READ_RESOURCE.now (select 5 (names_of resource))
unfolding understood everything
read = record { is = refl; plain = (refl, refl); unlisted = refl }
