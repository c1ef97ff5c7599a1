-- Connections that are served one after another: when the next is served.
use Rattle.std.specs.Prelude.{◌≡◌, ◌≢◌, ℕ, true, List, Option, None, Result, Err}
use Rattle.sqlite.specs.Store.{Ghosts}
use Rattle.command_desks.specs.desk_tables.specs.Desk.{DeskState}
use Rattle.desk_serving.specs.Served.{Ends}
use Rattle.desk_serving.specs.declared.terms.Terms.{Terms}
use Rattle.desk_serving.specs.tracker_http.specs.declared.replying.ServeFault.{ServeFault}
use Rattle.desk_serving.specs.tracker_http.specs.declared.replying.ServeFault.TheVariants as fault

-- a connection was served, and the next may be: however its exchange ended, not for want of a journal's line, and the desk carries out calls
abbrev pub GoesOn : {S : Type 0} → Ghosts S → Terms → DeskState S → DeskState S → Option (List ℕ) → Option (List ℕ) → Type 0
GoesOn g terms d e old new = (e.is_usable ≡ true)
    × ((ended : Result (Unit {0}) ServeFault) × (ended ≢ Err fault.Journal) × Ends g terms ended None d e (None, None) (old, new))
