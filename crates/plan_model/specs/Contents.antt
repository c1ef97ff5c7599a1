-- What a plan holds, once one is loaded. Nothing in it is derived.
use Rattle.std.specs.Prelude.{◌≡◌, ◌≢◌, ℕ, Bool, true, cond, Option, Some, option_map}
use Rattle.std.specs.declared.cmp.Ordering.{Ordering}
use Rattle.std.specs.Ordering.{eq_by_cmp, ordering_then}
use Rattle.std.specs.FinMap.{FinMap, get}
use Rattle.std.specs.FinSet.{FinSet, contains}
use Rattle.std.specs.FinMap as map
use Rattle.std.specs.FinSet as set
use Rattle.plan_basics.specs.declared.Attr.{Attr}
use Rattle.plan_basics.specs.declared.keys.OpKey.{OpKey}
use Rattle.plan_basics.specs.Keys.{Name, name_cmp, occurrence_cmp, operation_cmp}
use Rattle.plan_model.specs.declared.Occurrence.{Occurrence}
use Rattle.plan_model.specs.declared.Stock.{Stock}
use Rattle.workstations.specs.Workstations.{Workstation}
use Rattle.special_resources.specs.Holders.{Usage}
use Rattle.status_rules.specs.declared.Mark.{Mark}
use Rattle.status_rules.specs.declared.Mark.TheVariants.{Deleted}

-- an operation: what was planned of it, and below that what was reported and commanded
pub record Operation : Type 0 where
  pub workstation : Name
  pub duration : ℕ
  pub r1 : ℕ
  pub r2 : ℕ
  pub not_before : ℕ
  pub deadline : ℕ
  pub needs : FinMap name_cmp Usage
  pub mark : Mark
  pub held : Bool
  pub nop : Bool

-- the order of pairs: by predecessor, then successor
abbrev pub pair_cmp : OpKey × OpKey → OpKey × OpKey → Ordering
pair_cmp a b = ordering_then (operation_cmp a.0 b.0) (operation_cmp a.1 b.1)

-- the workstations by name
abbrev pub Workstations : Type 0
Workstations = FinMap name_cmp Workstation

-- the special resources by name, each with whether it is available and how much of it there is
abbrev pub Resources : Type 0
Resources = FinMap name_cmp Stock

-- what there is of a special resource, made available or not where it is r
abbrev pub with_availability : Name → Bool → Name → Stock → Stock
with_availability r available n stock = cond (eq_by_cmp name_cmp n r) (record stock { available = available }) stock

-- the occurrences by application and input arrival
abbrev pub Occurrences : Type 0
Occurrences = FinMap occurrence_cmp Occurrence

-- the operations by occurrence and number
abbrev pub Operations : Type 0
Operations = FinMap operation_cmp Operation

-- the dependencies: pairs of a predecessor and a successor
abbrev pub Pairs : Type 0
Pairs = FinSet pair_cmp

-- what was loaded and what was reported, and nothing that follows from these
pub record Contents : Type 0 where
  pub workstations : Workstations
  pub resources : Resources
  pub occurrences : Occurrences
  pub operations : Operations
  pub pairs : Pairs

-- what a plan holds before one is loaded
abbrev pub nothing : Contents
nothing = record { workstations = map.empty; resources = map.empty; occurrences = map.empty; operations = map.empty; pairs = set.empty }

-- occurrences that are added, with their operations and pairs
pub record AddedParts : Type 0 where
  pub occurrences : Occurrences
  pub operations : Operations
  pub pairs : Pairs

-- o is an operation of the plan, and this is so of it
abbrev pub Has : Contents → OpKey → (Operation → Type 0) → Type 0
Has P o Q = (op : Operation) × (get P.operations o ≡ Some op) × Q op

-- o is an operation of the plan
abbrev pub IsInPlan : Contents → OpKey → Type 0
IsInPlan P o = Has P o (λ op. Unit {0})

-- how the workstation w reports, if it is in the plan
abbrev pub attribute_at : Contents → Name → Option Attr
attribute_at P w = option_map (λ ws. ws.attribute) (get P.workstations w)

-- the workstation w is in the plan and reports so
abbrev pub HasAttribute : Contents → Name → Attr → Type 0
HasAttribute P w a = attribute_at P w ≡ Some a

-- p comes before o, by these pairs
abbrev pub IsPairOf : Pairs → OpKey → OpKey → Type 0
IsPairOf pairs p o = contains pairs (p, o) ≡ true

-- p is to come before o
abbrev pub Precedes : Contents → OpKey → OpKey → Type 0
Precedes P = IsPairOf P.pairs

-- p is an operation of the plan that isn't deleted
abbrev pub IsLive : Contents → OpKey → Type 0
IsLive P p = Has P p (λ op. op.mark ≢ Deleted)

-- a predecessor of o that isn't deleted
abbrev pub LivePredecessor : Contents → OpKey → OpKey → Type 0
LivePredecessor P p o = Precedes P p o × IsLive P p
