-- What the looks at a plan come to once a record that was looked at is given back.
use Rattle.std.specs.Prelude.{⊤}
use Rattle.std.specs.Borrow.{follows_so, Fml, MutBor}
use mathlib.Core.Option.{none}
use Rattle.counted_records.specs.States.{IsOneLook, CountedState}
use Rattle.counted_records.specs.contracts.counted.CountedRecords.{the_row}

-- one look more was taken
abbrev pub TakesOneLook : MutBor CountedState → Fml
TakesOneLook s = follows_so the_row the_row s.ghost_name none (λ _ _. ⊤) (IsOneLook s.now)
