-- How a request with a journal ends: what was asked and told, and what the journal has of it.
use Rattle.std.specs.Prelude.{◌≡◌, ◌⊎◌, ℕ, ◌≤◌, List, ◌++◌, length, take, Option, Result, Ok, Err}
use Rattle.std.specs.Io.KnownBytes.{Keeps, Appends}
use Rattle.plan_basics.specs.Watched.{AppendsBeginning}
use Rattle.desk_journal.specs.declared.journal.JournalFault.{JournalFault}
use Rattle.desk_journal.specs.declared.journal.JournalFault.TheVariants as fault

-- how a request with a journal ends: `Tells s x t` is what is asked, `line` the request's and `answer x` its answer's
abbrev pub Journals : {X S : Type 0} → (S → X → S → Type 0) → List ℕ → (X → List ℕ) → Result X JournalFault → S → S → Option (List ℕ) → Option (List ℕ) → Type 0
-- it was asked, and both lines are whole
Journals Tells line answer (Ok x) s t old new = Tells s x t × Appends old new (line ++ answer x)
-- the request's line couldn't be written: nothing was asked
Journals Tells line answer (Err fault.Request) s t old new = (t ≡ s) × AppendsBeginning old new line
-- the answer's line couldn't be written: the request's is whole, and it was asked
Journals Tells line answer (Err fault.Answer) s t old new = (x : _) × Tells s x t × ((n : ℕ) × (n ≤ length (answer x)) × Appends old new (line ++ take n (answer x)))
-- memory lacked: before the line, or before it was asked, or for the answer's line
Journals Tells line answer (Err fault.Memory) s t old new = ((t ≡ s) × (Keeps old new ⊎ Appends old new line)) ⊎ ((x : _) × Tells s x t × Appends old new line)

-- whatever acted stands in the journal: where it isn't as it was, the request's line is there, whole
abbrev pub Stands : {S : Type 0} → List ℕ → S → S → Option (List ℕ) → Option (List ℕ) → Type 0
Stands line s t old new = (t ≡ s) ⊎ ((more : List ℕ) × Appends old new (line ++ more))
