-- Connections one after another.
use Rattle.std.proofs.Common.{refl, inl, arith}
use Rattle.std.specs.Prelude.{⊤}
use Rattle.sqlite.specs.Held.{state}
use Rattle.sqlite.specs.Store.{Ghosts}
use Rattle.sqlite.proofs.StateLemmas.{survives_then}
use Rattle.command_desks.specs.desk_tables.specs.Desk.{DeskState}
use Rattle.desk_serving.specs.tracker_http.specs.Continuing.{Continues}

module _ {S : Type 0} (g : Ghosts S) where
  -- none was served
  pub continues_none : (d : DeskState S) → Continues g d d
  continues_none d = record {
    tables = λ holds clean. holds;
    clean = λ clean. clean;
    survives = record { clean = omega arith; shield = λ h. h; counts = omega arith; limit = refl; closes = λ clean is_open. inl is_open; crash = λ clean db may. inl may };
  }

  -- some were served, and then others
  pub continues_on : (c d e : DeskState S) → Continues g c d → Continues g d e → Continues g c e
  continues_on c d e one two = record {
    tables = λ holds clean. two.tables (one.tables holds (two.clean clean)) clean;
    clean = λ clean. one.clean (two.clean clean);
    survives = survives_then (state g c.conn) (state g d.conn) (state g e.conn) (λ _. ⊤) (λ _. ⊤) (λ _. ⊤) (λ _ db it. tt) (λ _ db it. tt) one.survives two.survives;
  }
