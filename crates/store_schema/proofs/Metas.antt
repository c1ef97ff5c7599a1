-- The table `meta` after each text.
use Rattle.std.proofs.Common.{◌≡◌, ℕ, ◌∷◌, [], refl, arith, Result, OnOk, List, map, length, drop, codes, sym, subst, ap, inl}
use Rattle.sqlite.specs.Effect.{Database, IsDatabase}
use Rattle.sqlite.specs.State.{State, ExecutesInside, Shown}
use Rattle.sqlite.specs.Order.{Row, column}
use Rattle.sqlite.specs.Tree.{rowid}
use Rattle.sqlite.specs.Kind.TheVariants.{Integer}
use Rattle.sqlite_rules.specs.Lists.{Has}
use Rattle.sqlite.specs.declared.error.Error.{Error}
use Rattle.sqlite.specs.declared.types.Value.TheVariants.{Null, Int}
use Rattle.std.specs.List.Sorted.{IsPermutation}
use Rattle.store_schema.specs.Rows.{IsEmpty, shown_by_rowid}
use Rattle.store_schema.specs.Tables.{field, no_schema, placed_by_rowid}
use Rattle.store_schema.proofs.ByRowid.{FitsByRowid, put_at, holds_put_at}
use Rattle.store_schema.proofs.Inside.{ran_inside}
use Rattle.store_schema.proofs.Reading.{rows_read_by_rowid, row_width_by_rowid, null_in_place}
use Rattle.store_schema.proofs.Stored.{cast_int, cast_null, or_no}
use Rattle.store_schema.specs.Schema.{meta, schema_1, schema_of, desk_schema}
use Rattle.store_schema.specs.StoredPlans.{StoredMeta, meta_row, meta_values, with_meta, Turns}
use Rattle.store_schema.specs.declared.texts.Version.{Version}
use Rattle.store_schema.specs.declared.texts.Version.TheVariants.{First, Second}
use Rattle.store_schema.specs.declared.texts.TheConstants.{CREATE_META, PUT_META, READ_META}
use Rattle.store_schema.proofs.MetaTexts.{create_is, create_plain, put_is, put_plain, names, read}
use Rattle.store_schema.proofs.Others.{stored}
use Rattle.store_schema.proofs.Tables.{table_made}

fits : FitsByRowid desk_schema (placed_by_rowid meta.name meta.columns 0)
fits = record { low = refl; still = λ olds news. refl; met = λ new r. or_no _ }

-- a row is put in
pub meta_put : (old new : State) (x : StoredMeta) (r : Result ℕ Error) → ExecutesInside 0 PUT_META.now (meta_values x) old new r → OnOk r (Turns (with_meta x) old.now new.now)
meta_put old new x r = ran_inside old new PUT_META.now (meta_values x) r (Turns (with_meta x) old.now new.now) (λ count ran held was.
    let v = Null ∷ Int x.version ∷ Int x.loaded ∷ Int x.clock ∷ [] in
    let it = put_at desk_schema meta.name meta.columns 0 0 fits refl PUT_META.now put_plain (meta_values x) x.id v refl (λ n i. cast_int n i ∷ cast_null i ∷ cast_int x.version i ∷ cast_int x.loaded i ∷ cast_int x.clock i ∷ []) (λ y more. refl) (λ y r. refl)
    put_is old new count was.schema_is was.metas.numbered ran in
    stored 0 old.now new.now held _ it.1 was (holds_put_at (λ y. y.id) meta_row (old.now.trees 0) (new.now.trees 0) x v held.metas refl was.metas it.0, refl, refl, refl, refl, refl, refl, refl, refl, refl, refl))

-- the table is made
pub meta_made : (old new : State) (r : Result ℕ Error) → ExecutesInside 0 CREATE_META.now [] old new r → OnOk r (IsEmpty no_schema old.now → IsEmpty schema_1 new.now × IsDatabase new.now)
meta_made = table_made no_schema CREATE_META.now meta create_is create_plain refl

-- all rows are read, each once, with the rowid as the first column
pub meta_read : (old new : State) (rows : List Row) → old.now.schema ≡ desk_schema → Shown READ_META.now [] old new rows → IsPermutation (map (shown_by_rowid 5) (old.now.trees 0)) rows
meta_read old new rows has shown = rows_read_by_rowid desk_schema READ_META.now 0 names refl read.is read.plain read.unlisted old new rows has shown

five : (r : Row) → length r ≡ 5 → column r 1 ≡ Null → r ≡ rowid r ∷ Null ∷ column r 2 ∷ column r 3 ∷ column r 4 ∷ []
five (a ∷ b ∷ c ∷ d ∷ e ∷ []) long null = ap (λ x. a ∷ x ∷ c ∷ d ∷ e ∷ []) null
five [] long null = absurd (omega (arith, long))
five (a ∷ []) long null = absurd (omega (arith, long))
five (a ∷ b ∷ []) long null = absurd (omega (arith, long))
five (a ∷ b ∷ c ∷ []) long null = absurd (omega (arith, long))
five (a ∷ b ∷ c ∷ d ∷ []) long null = absurd (omega (arith, long))
five (a ∷ b ∷ c ∷ d ∷ e ∷ f ∷ r) long null = absurd (omega (arith, long))

-- both versions have the table
in_each : (version : Version) → Has (schema_of version).tables meta
in_each First = inl refl
in_each Second = inl refl

-- a stored row, by what is read of it
pub meta_stored : (version : Version) (db : Database) → IsDatabase db → db.schema ≡ schema_of version → (r : Row) → Has (db.trees 0) r → r ≡ rowid r ∷ Null ∷ column r 2 ∷ column r 3 ∷ column r 4 ∷ []
meta_stored version db sound has r there =
    let listed : Has db.schema.tables meta = subst (λ s. Has s.tables meta) (sym has) (in_each version) in
    let rest = drop 1 meta.columns in
    five r
    (row_width_by_rowid db sound meta.name (field (codes "id") Integer) rest 0 listed (refl, (refl, (refl, tt))) (omega arith) r there)
    (null_in_place db sound meta.name (field (codes "id") Integer) rest 0 listed r there)
