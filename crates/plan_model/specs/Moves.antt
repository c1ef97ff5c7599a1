-- Changes of marks and flags at some places, by which all else stays.
use Rattle.std.specs.Prelude.{◌≡◌, ℕ, List, Some, map, length, slice_get, Contains}
use Rattle.std.specs.FinMap.{entries}
use Rattle.plan_basics.specs.Keys.{Name}
use Rattle.plan_basics.specs.declared.Attr.{Attr}
use Rattle.plan_basics.specs.declared.keys.OpKey.{OpKey}
use Rattle.status_rules.specs.Classes.{is_live}
use Rattle.plan_model.specs.Contents.{Contents, Operation}
use Rattle.workstations.specs.Timetables.{NamedWorkstation}

-- an operation with another mark or other flags
pub record IsRemarked (before after : Operation) : Type 0 where
  pub rest : after ≡ record before { mark = after.mark; held = after.held; nop = after.nop }

-- an operation is deleted in Q exactly where it is deleted in P
abbrev pub AreLiveAlike : Contents → Contents → Type 0
AreLiveAlike P Q = (i : ℕ) (o : OpKey) (before after : Operation) → slice_get (entries P.operations) i ≡ Some (o, before) → slice_get (entries Q.operations) i ≡ Some (o, after) → is_live after.mark ≡ is_live before.mark

-- each workstation's name, and how it reports
abbrev pub reporting : List NamedWorkstation → List (Name × Attr)
reporting ws = map (λ w. (w.0, w.1.attribute)) ws

-- the row of an operation after, which was there before; at another place than these it is the same
pub record IsMovedRow (P : Contents) (places : List ℕ) (i : ℕ) (o : OpKey) (after : Operation) : Type 0 where
  pub before : Operation
  pub was : slice_get (entries P.operations) i ≡ Some (o, before)
  pub remarked : IsRemarked before after
  pub elsewhere : ¬ Contains places i → after ≡ before

-- only marks and flags of the operations at these places differ between P and Q, and which special resources are available and when workstations are open
pub record IsMovedAt (P Q : Contents) (places : List ℕ) : Type 0 where
  pub workstations : reporting (entries Q.workstations) ≡ reporting (entries P.workstations)
  pub occurrences : Q.occurrences ≡ P.occurrences
  pub pairs : Q.pairs ≡ P.pairs
  pub size : length (entries Q.operations) ≡ length (entries P.operations)
  pub rows : (i : ℕ) (o : OpKey) (op : Operation) → slice_get (entries Q.operations) i ≡ Some (o, op) → IsMovedRow P places i o op

-- P and Q differ so, whatever their pairs are
abbrev pub IsRemarkedAt : Contents → Contents → List ℕ → Type 0
IsRemarkedAt P Q places = IsMovedAt P (record Q { pairs = P.pairs }) places
