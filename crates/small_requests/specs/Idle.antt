-- Requests that write a flag which stands so already.
use Rattle.std.specs.Prelude.{◌≡◌, true, false, []}
use Rattle.plan_model.specs.declared.moves.Marking.{Marking}
use Rattle.plan_records.specs.declared.What.{What}
use Rattle.plan_records.specs.declared.What.TheVariants as what
use Rattle.small_requests.specs.declared.edits.Edit.{Edit}
use Rattle.small_requests.specs.declared.revisions.Revision.TheVariants as revision

-- the flag that it writes stands so already, of an operation with this marking
abbrev pub IsIdle : What → Marking → Type 0
IsIdle (what.Hold o) m = m.held ≡ true
IsIdle (what.Release o) m = m.held ≡ false
IsIdle (what.Nop o) m = m.nop ≡ true
IsIdle (what.Unnop o) m = m.nop ≡ false
IsIdle _ m = ⊥

-- it is of no operation, and writes nothing
pub record IsOfNothing (e : Edit) : Type 0 where
  pub places : e.places.items ≡ []
  pub keys : e.keys.items ≡ []
  pub marks : e.marks.items ≡ []
  pub revision : e.revision ≡ revision.Nothing
  pub no_rerun : e.is_rerun ≡ false
