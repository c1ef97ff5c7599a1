-- The lines of a text on which its records begin.
use Rattle.std.specs.Prelude.{◌≡◌, ◌==◌, ◌+◌, ◌++◌, ◌∷◌, ℕ, List, [], Some, None, count_by, take_while}
use Rattle.csv.specs.Machine.{Read, next_record, ends_with, line_feed}
use Rattle.csv.specs.Reading.{default_config, strip_bom}
use Rattle.csv.specs.declared.parser.State.{State}
use Rattle.csv.specs.declared.parser.State.TheVariants as st
use Rattle.csv.specs.declared.parser.Terminator.TheVariants as term

-- how many line feeds there are
abbrev pub line_feeds : List ℕ → ℕ
line_feeds bytes = count_by (λ c. c == line_feed) bytes

-- the ends of lines at the front, of blank lines or of the record before: they are no part of the next record
abbrev pub line_ends : List ℕ → List ℕ
line_ends bytes = take_while (ends_with term.CRLF) bytes

-- the records that are read from a state and bytes, which begin on a line, begin on these lines: each after the line feeds that are taken with the
-- records before it, and after the ends of lines in front of it
abbrev pub BeginOnFrom : State → List ℕ → ℕ → List ℕ → Type 0
BeginOnFrom state bytes line [] = next_record default_config state [] [] bytes ≡ None
BeginOnFrom state bytes line (first ∷ others) = (read : Read) × (taken : List ℕ)
    × (next_record default_config state [] [] bytes ≡ Some read)
    × (bytes ≡ taken ++ read.2)
    × (first ≡ line + line_feeds (line_ends bytes))
    × BeginOnFrom read.1 read.2 (line + line_feeds taken) others

-- the records of a text begin on these lines, the first line being line 1
abbrev pub BeginOn : List ℕ → List ℕ → Type 0
BeginOn text lines = BeginOnFrom st.StartRecord (strip_bom text) 1 lines
