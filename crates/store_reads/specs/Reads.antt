-- What reading leaves of a database, and of the rows that it reads.
use Rattle.std.specs.Prelude.{◌≡◌, Bool, true, false, ◌&&◌, ℤ, int_lt, Option, None, Some, List, [], ◌∷◌, IsTrue, ⊤}
use Rattle.sqlite.specs.Order.{Row}
use Rattle.sqlite.specs.State.{State, HasCleanDisk, KeepsCommit, Survives}
use Rattle.sqlite.specs.Tree.{rowid}
use Rattle.sqlite.specs.declared.error.Error.{Error}
use Rattle.sqlite.specs.declared.error.Error.TheVariants.{SqliteFailure, SqlInputError}
use Rattle.sqlite.specs.declared.error.ErrorCode.TheVariants.{NameTaken}
use Rattle.sqlite.specs.declared.types.Value.{Value}
use Rattle.sqlite.specs.declared.types.Value.TheVariants.{Int}

-- the connection was open if it is, and what was committed is; a crash finds nothing new
pub record OnlyReads (old new : State) : Type 0 where
  pub kept : HasCleanDisk new → KeepsCommit old new
  pub survives : Survives old new (λ _. ⊥)

-- the connection was open if it is, and it shows the same
pub record ShowsSame (old new : State) : Type 0 where
  pub was_open : IsTrue new.is_open → IsTrue old.is_open
  pub now_is : new.now ≡ old.now
  pub committed_is : new.committed ≡ old.committed

-- the fault isn't one of the tables: no text is refused, and no name is taken
abbrev pub IsNotOfTables : Error → Type 0
IsNotOfTables (SqlInputError fault) = ⊥
IsNotOfTables (SqliteFailure NameTaken) = ⊥
IsNotOfTables _ = ⊤

-- the integer of a value
abbrev pub integer_in : Value → Option ℤ
integer_in (Int id) = Some id
integer_in _ = None

-- there is a rowid, and it is above the last one, if there was one
abbrev pub follows : Option ℤ → Option ℤ → Bool
follows last None = false
follows None (Some id) = true
follows (Some last) (Some id) = int_lt last id

-- the rowids are integers, each above the one before it, and the first above this one, if one is given
abbrev pub rise_above : Option ℤ → List Row → Bool
rise_above last [] = true
rise_above last (r ∷ rows) = follows last (integer_in (rowid r)) && rise_above (integer_in (rowid r)) rows
