-- A table as a set of rows, and what INSERT and DELETE make of it.
use Rattle.std.specs.Prelude.{◌≡◌, ◌≢◌, ◌⊎◌, ℕ, ℤ, Bool, true, false, List, [], ◌∷◌, map, ◌-◌, IsTrue}
use Rattle.std.specs.List.{AllByRecursion, range_with_len}
use Rattle.sqlite.specs.Effect.{Database, IsDatabase}
use Rattle.sqlite.specs.Order.{Row, column}
use Rattle.sqlite.specs.Schema.{Schema}
use Rattle.sqlite.specs.Tree.{Trees, rowid, has_rowid, IsAscending}
use Rattle.sqlite.specs.declared.types.Value.TheVariants.{Null, Int}
use Rattle.sqlite_rules.specs.Lists.{Has}
use Rattle.sqlite_schema.specs.Rules.{agree}
use Rattle.sqlite_trees.specs.View.{is_int}
use Rattle.sqlite_value.specs.Keys.{plain}

-- each row has a rowid that is an integer, and no later one has the same
abbrev pub AreNumbered : List Row → Type 0
AreNumbered rows = IsAscending (λ a b. rowid a ≢ rowid b) rows × AllByRecursion (λ r. IsTrue (is_int (rowid r))) rows

-- two rows, each behind its rowid, have one key: so many of the first columns are equal
abbrev pub same_key : ℕ → Row → Row → Bool
same_key key a b = agree plain (range_with_len 1 key) a (range_with_len 1 key) b

-- the row is in under some rowid, and all that were there stay but one with its key
pub record Puts (key : ℕ) (new : Row) (before after : List Row) : Type 0 where
  pub numbered : AreNumbered after
  pub adds : (id : ℤ) × Has after (Int id ∷ new)
  pub keeps : (r : Row) → Has before r → same_key key r (Null ∷ new) ≡ false → Has after r
  pub only : (r : Row) → Has after r → ((id : ℤ) × (r ≡ Int id ∷ new)) ⊎ (Has before r × (same_key key r (Null ∷ new) ≡ false))

-- the row is in under this rowid, and all that were there stay but one that has it
pub record PutsAt (id : ℤ) (new : Row) (before after : List Row) : Type 0 where
  pub numbered : AreNumbered after
  pub adds : Has after (Int id ∷ new)
  pub keeps : (r : Row) → Has before r → has_rowid id r ≡ false → Has after r
  pub only : (r : Row) → Has after r → (r ≡ Int id ∷ new) ⊎ (Has before r × (has_rowid id r ≡ false))

-- the row is put in, or one that is there has its key, and nothing changes
abbrev pub Passes : ℕ → Row → List Row → List Row → Type 0
Passes key new before after = Puts key new before after ⊎ ((after ≡ before) × (r : Row) × Has before r × (same_key key r (Null ∷ new) ≡ true))

-- the rows that the test finds are gone, and all others stay
pub record Drops (finds : Row → Bool) (before after : List Row) : Type 0 where
  pub numbered : AreNumbered after
  pub keeps : (r : Row) → Has before r → finds r ≡ false → Has after r
  pub only : (r : Row) → Has after r → Has before r × (finds r ≡ false)

-- the tables in other trees keep their rows
abbrev pub OthersStay : Schema → ℕ → Trees → Trees → Type 0
OthersStay schema tree before after = AllByRecursion (λ t. t.tree ≢ tree → after t.tree ≡ before t.tree) schema.tables

-- the database is sound, its schema stays, and so do the tables in other trees
pub record Leaves (schema : Schema) (tree : ℕ) (before after : Database) : Type 0 where
  pub sound : IsDatabase after
  pub schema_is : after.schema ≡ schema
  pub others : OthersStay schema tree before.trees after.trees

-- the database has this schema, and no table has a row
pub record IsEmpty (schema : Schema) (db : Database) : Type 0 where
  pub schema_is : db.schema ≡ schema
  pub empty : AllByRecursion (λ t. db.trees t.tree ≡ []) schema.tables

-- what a SELECT of so many columns, the rowid first, gives of a row
abbrev pub shown_row : ℕ → Row → Row
shown_row width r = map (column r) (range_with_len 0 width)

-- the same where the first column is the rowid
abbrev pub shown_by_rowid : ℕ → Row → Row
shown_by_rowid width r = rowid r ∷ rowid r ∷ map (column r) (range_with_len 2 (width - 2))
