-- Which plans are valid, and which of these are sound.
use Rattle.std.specs.Prelude.{◌≡◌, ◌≢◌, ◌⊎◌, ◌≤◌, true, false, Some}
use Rattle.std.specs.FinMap.{get, len, contains_key}
use Rattle.std.specs.FinSet as set
use Rattle.plan_basics.specs.declared.Attr.{Attr}
use Rattle.plan_basics.specs.declared.Attr.TheVariants as attribute
use Rattle.plan_basics.specs.declared.keys.OccKey.{OccKey}
use Rattle.plan_basics.specs.declared.keys.OpKey.{OpKey}
use Rattle.plan_basics.specs.declared.limits.TheConstants.{MOST_WORKSTATIONS, MOST_RESOURCES, MOST_OCCURRENCES, MOST_OPERATIONS, MOST_PAIRS, MOST_NEEDS, MOST_QUANTITY, MOST_FIXED, SHORTEST_DURATION, LONGEST_DURATION, LOWEST_PRIORITY, HIGHEST_PRIORITY}
use Rattle.plan_basics.specs.Names.{IsName, IsResourceName}
use Rattle.plan_basics.specs.Minutes.{IsMoment}
use Rattle.plan_basics.specs.Keys.{Name, IsOccurrenceKey, IsOperationKey}
use Rattle.workstations.specs.Workstations.{Workstation, IsWorkstation}
use Rattle.special_resources.specs.declared.Mode.TheVariants.{Shared}
use Rattle.special_resources.specs.Holders.{Usage, IsAmount, HoldNoMoreThan}
use Rattle.latest_start.specs.operation_graph.specs.Paths.{IsAcyclicBy}
use Rattle.status_rules.specs.declared.Mark.{Mark}
use Rattle.status_rules.specs.declared.Mark.TheVariants as mark
use Rattle.plan_model.specs.Contents.{Contents, Operation, Occurrences, Operations, Workstations, Resources, Pairs, IsPairOf, Has, HasAttribute}
use Rattle.plan_model.specs.declared.Stock.{Stock}
use Rattle.plan_model.specs.declared.Occurrence.{Occurrence}
use Rattle.plan_model.specs.Status.{AllPredecessorsSatisfied}
use Rattle.plan_model.specs.Holdings.{Holds}

-- its key and its numbers are in range
pub record IsOccurrence (c : OccKey) (x : Occurrence) : Type 0 where
  pub key : IsOccurrenceKey c
  pub priority : (LOWEST_PRIORITY ≤ x.priority) × (x.priority ≤ HIGHEST_PRIORITY)
  pub deadline : IsMoment x.deadline

-- its key, its numbers, and the names and the code in it are in range
pub record IsOperation (o : OpKey) (op : Operation) : Type 0 where
  pub key : IsOperationKey o
  pub workstation : IsName 4 op.workstation
  pub duration : (SHORTEST_DURATION ≤ op.duration) × (op.duration ≤ LONGEST_DURATION)
  pub fixed : (op.r1 ≤ MOST_FIXED) × (op.r2 ≤ MOST_FIXED)
  pub not_before : IsMoment op.not_before
  pub deadline : IsMoment op.deadline
  pub needs : (r : Name) (usage : Usage) → get op.needs r ≡ Some usage → IsResourceName r × IsAmount usage.claim.mode usage.claim.amount
  pub few_needs : len op.needs ≤ MOST_NEEDS
  pub code : (code : Name) → op.mark ≡ mark.Error code → IsName 4 code

-- occurrences with their operations, of a plan or of what is added: each occurrence has one, and each operation has its occurrence
pub record AreOccurrences (occurrences : Occurrences) (operations : Operations) : Type 0 where
  pub each_occurrence : (c : OccKey) (x : Occurrence) → get occurrences c ≡ Some x → IsOccurrence c x
  pub each_operation : (o : OpKey) (op : Operation) → get operations o ≡ Some op → IsOperation o op × (contains_key occurrences o.occurrence ≡ true)
  pub not_empty : (c : OccKey) → contains_key occurrences c ≡ true → (o : OpKey) × (o.occurrence ≡ c) × (contains_key operations o ≡ true)

-- the workstations that operations name are there
abbrev pub HaveWorkstations : Workstations → Operations → Type 0
HaveWorkstations workstations operations = (o : OpKey) (op : Operation) → get operations o ≡ Some op → contains_key workstations op.workstation ≡ true

-- the special resources that operations need are there
abbrev pub HaveResources : Resources → Operations → Type 0
HaveResources resources operations =
    (o : OpKey) (op : Operation) → get operations o ≡ Some op → (r : Name) (usage : Usage) → get op.needs r ≡ Some usage → contains_key resources r ≡ true

-- a need is of no more than there is
abbrev pub AmountsFit : Resources → Operations → Type 0
AmountsFit resources operations =
    (o : OpKey) (op : Operation) → get operations o ≡ Some op → (r : Name) (usage : Usage) → get op.needs r ≡ Some usage
    → (stock : Stock) → get resources r ≡ Some stock → usage.claim.amount ≤ stock.quantity

-- no path of these pairs returns to its start
abbrev pub IsAcyclic : Pairs → Type 0
IsAcyclic pairs = IsAcyclicBy (IsPairOf pairs)

-- the most that a plan may hold
pub record IsWithinLimits (P : Contents) : Type 0 where
  pub workstations : len P.workstations ≤ MOST_WORKSTATIONS
  pub resources : len P.resources ≤ MOST_RESOURCES
  pub occurrences : len P.occurrences ≤ MOST_OCCURRENCES
  pub operations : len P.operations ≤ MOST_OPERATIONS
  pub pairs : set.len P.pairs ≤ MOST_PAIRS

-- all that a plan names is there and in range, no need is of more than there is, no path of pairs returns, and the limits hold
pub record IsValid (P : Contents) : Type 0 where
  pub workstations : (w : Name) (ws : Workstation) → get P.workstations w ≡ Some ws → IsName 4 w × IsWorkstation ws
  pub resources : (r : Name) (stock : Stock) → get P.resources r ≡ Some stock → IsResourceName r × (1 ≤ stock.quantity) × (stock.quantity ≤ MOST_QUANTITY)
  pub occurrences : AreOccurrences P.occurrences P.operations
  pub have_workstations : HaveWorkstations P.workstations P.operations
  pub have_resources : HaveResources P.resources P.operations
  pub amounts : AmountsFit P.resources P.operations
  pub pairs : (p o : OpKey) → IsPairOf P.pairs p o → (contains_key P.operations p ≡ true) × (contains_key P.operations o ≡ true)
  pub acyclic : IsAcyclic P.pairs
  pub limits : IsWithinLimits P

-- whether an operation on a workstation of this attribute may bear this mark
abbrev pub MayBear : Attr → Mark → Type 0
MayBear a mark.Named = a ≡ attribute.Automatic
MayBear a mark.Interrupted = a ≡ attribute.StartAndCompletion
MayBear a mark.Running = (a ≡ attribute.Automatic) ⊎ (a ≡ attribute.StartAndCompletion)
MayBear a mark.Undecided = (a ≡ attribute.Automatic) ⊎ (a ≡ attribute.StartAndCompletion)
MayBear a mark.Done = a ≢ attribute.Nonreporting
MayBear a (mark.Error code) = a ≢ attribute.Nonreporting
MayBear a mark.Unmarked = Unit {0}
MayBear a mark.Deleted = Unit {0}

-- a valid plan whose marks and flags fit together
pub record IsSound (P : Contents) : Type 0 where
  pub valid : IsValid P
  -- what is reported of an operation came after its predecessors
  pub in_order : (o : OpKey) → Has P o (λ op. (op.mark ≢ mark.Unmarked) × (op.mark ≢ mark.Deleted)) → AllPredecessorsSatisfied P o
  -- no resource has an exclusive holder beside another
  pub compatible : (a b : OpKey) (r : Name) (x y : Usage) → a ≢ b → Holds P a r x → Holds P b r y → x.claim.mode ≡ Shared
  -- no more of a resource is held than there is
  pub within : (r : Name) (stock : Stock) → get P.resources r ≡ Some stock → HoldNoMoreThan stock.quantity (Holds P) r
  -- a held operation has no mark, or is deleted
  pub held : (o : OpKey) (op : Operation) → get P.operations o ≡ Some op → op.held ≡ true → (op.mark ≡ mark.Unmarked) ⊎ (op.mark ≡ mark.Deleted)
  -- each mark is one that its workstation's attribute allows
  pub marks : (o : OpKey) (op : Operation) (a : Attr) → get P.operations o ≡ Some op → HasAttribute P op.workstation a → MayBear a op.mark
  -- an occurrence is deleted whole
  pub deleted : (a b : OpKey) → a.occurrence ≡ b.occurrence → Has P a (λ op. op.mark ≡ mark.Deleted) → (op : Operation) → get P.operations b ≡ Some op → op.mark ≡ mark.Deleted

-- nothing was reported of it, and its flags are clear
abbrev pub IsUntouched : Operation → Type 0
IsUntouched op = (op.mark ≡ mark.Unmarked) × (op.held ≡ false) × (op.nop ≡ false)

-- nothing was reported of any of them, and their flags are clear
abbrev pub AreUntouched : Operations → Type 0
AreUntouched operations = (o : OpKey) (op : Operation) → get operations o ≡ Some op → IsUntouched op
