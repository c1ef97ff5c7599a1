-- The laws of a sound plan, one by one, and what each says of one operation or resource.
use Rattle.std.specs.Prelude.{◌≡◌, ◌≢◌, ◌⊎◌, true, Some}
use Rattle.std.specs.FinMap.{get}
use Rattle.plan_basics.specs.declared.Attr.{Attr}
use Rattle.plan_basics.specs.declared.keys.OpKey.{OpKey}
use Rattle.plan_basics.specs.Keys.{Name}
use Rattle.special_resources.specs.Holders.{Usage, HoldNoMoreThan}
use Rattle.special_resources.specs.declared.Mode.TheVariants.{Shared}
use Rattle.status_rules.specs.Classes.{is_live}
use Rattle.status_rules.specs.declared.Mark.{Mark}
use Rattle.status_rules.specs.declared.Mark.TheVariants.{Deleted, Unmarked}
use Rattle.plan_model.specs.Contents.{Contents, Operation, Has, HasAttribute}
use Rattle.plan_model.specs.Holdings.{Holds}
use Rattle.plan_model.specs.declared.Stock.{Stock}
use Rattle.plan_model.specs.Status.{AllPredecessorsSatisfied}
use Rattle.plan_model.specs.Valid.{MayBear}

-- ---- of one operation, of two, of one resource

-- nothing was reported, or the operation is deleted
abbrev pub HasNoReport : Mark → Type 0
HasNoReport m = (m ≡ Unmarked) ⊎ (m ≡ Deleted)

-- its mark is one that its workstation's attribute allows
abbrev pub HasMarkAllowed : Contents → Operation → Type 0
HasMarkAllowed P op = (a : Attr) → HasAttribute P op.workstation a → MayBear a op.mark

-- it is held only where nothing was reported of it, or it is deleted
abbrev pub IsHeldRightly : Operation → Type 0
IsHeldRightly op = op.held ≡ true → HasNoReport op.mark

-- what was reported of it came after its predecessors
abbrev pub IsReportedInOrder : Contents → OpKey → Operation → Type 0
IsReportedInOrder P o op = (op.mark ≢ Unmarked) × (op.mark ≢ Deleted) → AllPredecessorsSatisfied P o

-- if they are of one occurrence, both are deleted or neither is
abbrev pub AreDeletedAlike : OpKey × Operation → OpKey × Operation → Type 0
AreDeletedAlike a b = a.0.occurrence ≡ b.0.occurrence → is_live a.1.mark ≡ is_live b.1.mark

-- it has no exclusive holder beside another
abbrev pub HasCompatibleHolders : Contents → Name → Type 0
HasCompatibleHolders P r = (a b : OpKey) (x y : Usage) → a ≢ b → Holds P a r x → Holds P b r y → x.claim.mode ≡ Shared

-- no more of it is held than there is
abbrev pub IsHeldWithin : Contents → Name → Stock → Type 0
IsHeldWithin P r stock = HoldNoMoreThan stock.quantity (Holds P) r

-- ---- of a plan

-- each mark is one that its workstation's attribute allows
abbrev pub MarksAreAllowed : Contents → Type 0
MarksAreAllowed P = (o : OpKey) (op : Operation) → get P.operations o ≡ Some op → HasMarkAllowed P op

-- a held operation has no mark, or is deleted
abbrev pub HeldAreWithoutReport : Contents → Type 0
HeldAreWithoutReport P = (o : OpKey) (op : Operation) → get P.operations o ≡ Some op → IsHeldRightly op

-- what is reported of an operation came after its predecessors
abbrev pub ReportsAreInOrder : Contents → Type 0
ReportsAreInOrder P = (o : OpKey) (op : Operation) → get P.operations o ≡ Some op → IsReportedInOrder P o op

-- an occurrence is deleted whole
abbrev pub OccurrencesAreDeletedWhole : Contents → Type 0
OccurrencesAreDeletedWhole P = (a b : OpKey) → a.occurrence ≡ b.occurrence → Has P a (λ op. op.mark ≡ Deleted) → (op : Operation) → get P.operations b ≡ Some op → op.mark ≡ Deleted

-- no resource has an exclusive holder beside another
abbrev pub HoldersAreCompatible : Contents → Type 0
HoldersAreCompatible P = (r : Name) → HasCompatibleHolders P r

-- no more of a resource is held than there is
abbrev pub NoMoreIsHeld : Contents → Type 0
NoMoreIsHeld P = (r : Name) (stock : Stock) → get P.resources r ≡ Some stock → IsHeldWithin P r stock
