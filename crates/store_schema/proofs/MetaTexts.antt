-- What the texts on the table `meta` mean.
use Rattle.std.proofs.Common.{◌≡◌, ℕ, List, codes, Ok, refl, ◌∷◌, []}
use Rattle.sqlite.specs.Command.TheVariants.{CreateTable}
use Rattle.sqlite.specs.Compile.{table_defined_by}
use Rattle.sqlite.specs.Listing.{understood}
use Rattle.sqlite.proofs.Callers.{IsPlain, command_of, statement_of}
use Rattle.sqlite_tied.specs.Compute.{everything}
use Rattle.store_schema.specs.Commands.{upsert_by_rowid, select_by_rowid}
use Rattle.store_schema.specs.Tables.{no_schema}
use Rattle.store_schema.specs.Schema.{meta, desk_schema}
use Rattle.store_schema.specs.declared.texts.TheConstants.{CREATE_META, PUT_META, READ_META}
use Rattle.store_schema.proofs.Tables.{Means}

pub create_is : (command_of (understood no_schema CREATE_META.now) ≡ CreateTable) × (statement_of CREATE_META.now (understood no_schema CREATE_META.now) ≡ CREATE_META.now) × (table_defined_by CREATE_META.now ≡ Ok meta)
unfolding understood everything
create_is = (refl, refl, refl)

pub create_plain : IsPlain (understood no_schema CREATE_META.now)
unfolding understood everything
create_plain = (refl, refl)

pub put_is : command_of (understood desk_schema PUT_META.now) ≡ upsert_by_rowid 0 0 4
unfolding understood everything
put_is = refl

pub put_plain : IsPlain (understood desk_schema PUT_META.now)
unfolding understood everything
put_plain = (refl, refl)

-- what a read of it calls its columns
abbrev pub names : List (List ℕ)
names = codes "id" ∷ codes "id" ∷ codes "version" ∷ codes "loaded" ∷ codes "clock" ∷ []

pub read : Means READ_META.now (select_by_rowid 0 names)
unfolding understood everything
read = record { is = refl; plain = (refl, refl); unlisted = refl }
