-- Values that stand as rows of a table.
use Rattle.std.specs.Prelude.{◌≡◌, ℕ, zero, suc, ℤ, List, [], ◌∷◌, ◌++◌, ◌+◌, ◌/◌, length, not, filter, take, drop, ⊤}
use Rattle.sqlite.specs.Effect.{value_rows}
use Rattle.sqlite.specs.Order.{Row, column}
use Rattle.sqlite.specs.Rows.{shown}
use Rattle.sqlite.specs.Term.{eval_all}
use Rattle.sqlite.specs.Tree.{has_rowid}
use Rattle.sqlite.specs.declared.types.Value.{Value}
use Rattle.sqlite.specs.declared.types.Value.TheVariants.{Null, Int, Real, Text, Blob}
use Rattle.sqlite_rules.specs.Cast.{cast_all}
use Rattle.sqlite_rules.specs.Lists.{Has}
use Rattle.sqlite_schema.specs.declared.schema.Column.{Column}
use Rattle.store_schema.specs.Commands.{row_terms, update_terms}
use Rattle.store_schema.specs.Rows.{AreNumbered, same_key}
use Rattle.store_schema.specs.Tables.{placed}

-- the rows of a table are those of these values, and of no others; each stands behind its rowid
pub record Holds {X : Type 0} (row : X → Row) (rows : List Row) (xs : List X) : Type 0 where
  pub numbered : AreNumbered rows
  pub sound : (r : Row) → Has rows r → (x : X) × Has xs x × (drop 1 r ≡ row x)
  pub complete : (x : X) → Has xs x → (r : Row) × Has rows r × (drop 1 r ≡ row x)

-- the values but that whose row begins with this key
abbrev pub without_key : {X : Type 0} → ℕ → (X → Row) → Row → List X → List X
without_key key row k xs = filter (λ x. not (same_key key (Null ∷ row x) (Null ∷ k))) xs

-- the values with this one in it, in place of the one that has its key
abbrev pub with_value : {X : Type 0} → ℕ → (X → Row) → X → List X → List X
with_value key row x xs = x ∷ without_key key row (row x) xs

-- the same of a table whose key is the rowid: the row of a value begins with it
pub record HoldsByRowid {X : Type 0} (row : X → Row) (rows : List Row) (xs : List X) : Type 0 where
  pub numbered : AreNumbered rows
  pub sound : (r : Row) → Has rows r → (x : X) × Has xs x × (r ≡ row x)
  pub complete : (x : X) → Has xs x → Has rows (row x)

-- the values with this one in it, in place of the one that has its rowid
abbrev pub with_value_at : {X : Type 0} → (X → ℤ) → (X → Row) → X → List X → List X
with_value_at id row x xs = x ∷ filter (λ y. not (has_rowid (id x) (row y))) xs

-- an integer, a text or bytes: what equals it is the same value
abbrev pub IsExact : Value → Type 0
IsExact Null = ⊥
IsExact (Int n) = ⊤
IsExact (Real x) = ⊥
IsExact (Text t) = ⊤
IsExact (Blob b) = ⊤

-- so many of the first values are there, and each is exact
abbrev pub BeginsExactly : ℕ → Row → Type 0
BeginsExactly zero r = ⊤
BeginsExactly (suc count) [] = ⊥
BeginsExactly (suc count) (v ∷ r) = IsExact v × BeginsExactly count r

-- the values of a type stand as rows of this table
pub record AreRowsOf {X : Type 0} (name : List ℕ) (columns : List Column) (key tree : ℕ) (row : X → Row) : Type 0 where
  -- each is of its columns' kinds, so that it is stored as it is
  pub cast : (x : X) → cast_all columns (row x) ≡ row x
  -- the columns of the key are integers, texts or bytes
  pub exact : (x : X) → BeginsExactly key (row x)
  -- as the parameters of an INSERT it is the row that is inserted
  pub inserted : (x : X) → value_rows (row x) (length columns + 1) (length (row_terms (length columns)) / (length columns + 1)) (row_terms (length columns)) ≡ (Null ∷ row x) ∷ []
  -- the rowid of the row that is updated follows the parameters
  pub found : (x : X) (id : Value) (more : Row) → column (row x ++ id ∷ more) (length columns) ≡ id
  -- an update keeps the rowid and the key of the row that is there, and takes the other columns of the new one
  pub updated : (x y : X) (id : Value) (n : ℤ) →
      eval_all (update_terms (length columns) key) ((row x ++ id ∷ shown (placed name columns key tree) (Int n ∷ row x)) ∷ (id ∷ row y) ∷ [])
      ≡ id ∷ id ∷ take key (row y) ++ drop key (row x)
