-- What occurrences that are to be added ask of the plan, pair by pair and operation by operation.
use Rattle.std.specs.Prelude.{◌≡◌, ◌⊎◌, ℕ, ◌+◌, ◌≤◌, true, Some}
use Rattle.std.specs.FinMap.{contains_key, get, len}
use Rattle.plan_basics.specs.declared.limits.TheConstants.{MOST_OCCURRENCES, MOST_OPERATIONS, MOST_PAIRS}
use Rattle.plan_basics.specs.Keys.{Name}
use Rattle.plan_basics.specs.declared.keys.OpKey.{OpKey}
use Rattle.plan_model.specs.Contents.{Contents, Operation, AddedParts}
use Rattle.plan_model.specs.declared.Stock.{Stock}
use Rattle.plan_model.specs.Status.{HasStatus, IsWaitingOrReady}
use Rattle.plan_records.specs.Acceptance.{IsOld}
use Rattle.plan_drafts.specs.Drafts.{IsOwn}
use Rattle.derived_figures.specs.Reports.{IsOfStatus}
use Rattle.special_resources.specs.Holders.{Usage}
use Rattle.status_rules.specs.declared.Status.{Status}
use Rattle.status_rules.specs.declared.Status.TheVariants as status

-- o is of an occurrence that is added, or is an operation of another occurrence of the plan
abbrev pub IsFound : Contents → AddedParts → OpKey → Type 0
IsFound P s o = IsOwn s o ⊎ IsOld P s o

-- both ends of the pair are of occurrences that are added, or are operations of other occurrences of the plan
abbrev pub IsFoundPair : Contents → AddedParts → OpKey × OpKey → Type 0
IsFoundPair P s pair = IsFound P s pair.0 × IsFound P s pair.1

-- o is an operation of another occurrence of the plan, and has this status alone
abbrev pub IsOldWith : Contents → AddedParts → OpKey → Status → Type 0
IsOldWith P s o x = IsOld P s o × IsOfStatus P o x

-- a pair that is added may lead to o: where o is there, it waits or is ready
abbrev pub MaySucceed : Contents → AddedParts → OpKey → Type 0
MaySucceed P s o = IsOld P s o → IsWaitingOrReady P o

-- a pair that is added may lead from o: where o is there, it isn't deleted
abbrev pub MayPrecede : Contents → AddedParts → OpKey → Type 0
MayPrecede P s o = IsOld P s o → ¬ HasStatus P o status.Deleted

-- the pair's ends are open to it
abbrev pub IsOpenPair : Contents → AddedParts → OpKey × OpKey → Type 0
IsOpenPair P s pair = MaySucceed P s pair.1 × MayPrecede P s pair.0

-- the operation's workstation is in the plan
abbrev pub HasWorkstation : Contents → Operation → Type 0
HasWorkstation P op = contains_key P.workstations op.workstation ≡ true

-- the special resources that the operation needs are in the plan
abbrev pub HasResources : Contents → Operation → Type 0
HasResources P op = (r : Name) (usage : Usage) → get op.needs r ≡ Some usage → contains_key P.resources r ≡ true

-- the plan has so much of the special resource, if it has it
pub record HasSoMuch (P : Contents) (r : Name) (amount : ℕ) : Type 0 where
  pub enough : (stock : Stock) → get P.resources r ≡ Some stock → amount ≤ stock.quantity

-- each need of the operation is of no more than there is
pub record NeedsFit (P : Contents) (op : Operation) : Type 0 where
  pub fit : (r : Name) (usage : Usage) → get op.needs r ≡ Some usage → HasSoMuch P r usage.claim.amount

-- with so many occurrences more, and with n operations and e pairs in all, the plan holds no more than it may
pub record HasRoomFor (P : Contents) (more n e : ℕ) : Type 0 where
  pub occurrences : len P.occurrences + more ≤ MOST_OCCURRENCES
  pub operations : n ≤ MOST_OPERATIONS
  pub pairs : e ≤ MOST_PAIRS
