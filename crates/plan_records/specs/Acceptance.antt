-- When a request may be accepted: under each refusal, what has to be so lest it be given. What no line names is never in the way.
use Rattle.std.specs.Prelude.{◌≡◌, ◌≢◌, ◌⊎◌, ℕ, ◌≤◌, ℤ, pos, negsuc, ◌≤ℤ◌, Bool, true, false, List, length, Option, Some, None, is_some, AllPairs}
use Rattle.std.specs.FinMap.{get, contains_key}
use Rattle.plan_basics.specs.declared.Attr.{Attr}
use Rattle.plan_basics.specs.declared.Attr.TheVariants as attribute
use Rattle.plan_basics.specs.declared.keys.OccKey.{OccKey}
use Rattle.plan_basics.specs.declared.keys.OpKey.{OpKey}
use Rattle.plan_basics.specs.declared.Refusal.{Refusal}
use Rattle.plan_basics.specs.declared.Refusal.TheVariants as refusal
use Rattle.plan_basics.specs.declared.limits.TheConstants.{MOST_INTERVALS}
use Rattle.plan_basics.specs.Minutes.{IsMoment}
use Rattle.plan_basics.specs.Intervals.{OpenInterval, AreApart}
use Rattle.plan_basics.specs.Keys.{Name}
use Rattle.plan_drafts.specs.status_rules.specs.declared.Mark.TheVariants as mark
use Rattle.plan_drafts.specs.status_rules.specs.declared.Status.TheVariants as status
use Rattle.plan_drafts.specs.plan_model.specs.Plan.{Plan}
use Rattle.plan_drafts.specs.plan_model.specs.Contents.{Contents, Operation, AddedParts, IsInPlan, IsPairOf, Precedes, HasAttribute, attribute_at}
use Rattle.plan_drafts.specs.plan_model.specs.Status.{HasStatus, IsReady, IsWaitingOrReady, IsUnderWay, EachOperation}
use Rattle.plan_drafts.specs.plan_model.specs.Starts.{MayStart, Reaches}
use Rattle.plan_drafts.specs.plan_model.specs.Valid.{IsAcyclic, IsWithinLimits, HaveWorkstations, HaveResources, AmountsFit}
use Rattle.plan_records.specs.declared.What.{What}
use Rattle.plan_records.specs.declared.What.TheVariants as what
use Rattle.plan_records.specs.declared.Request.{Request}
use Rattle.plan_drafts.specs.Drafts.{IsOwn}
use Rattle.plan_records.specs.Changes.{with_added, with_pair, LeavesOver}

-- a start may be reported: of a named operation on an automatic workstation; where starts are reported, of one that is allowed to start; elsewhere of none
abbrev pub MayBeStarted : Contents → ℕ → OpKey → Operation → Option Attr → Refusal → Type 0
MayBeStarted P m o op (Some attribute.Automatic) refusal.WrongStatus = op.mark ≡ mark.Named
MayBeStarted P m o op (Some attribute.StartAndCompletion) r = MayStart P o op m r
MayBeStarted P m o op (Some attribute.CompletionOnly) refusal.WrongWorkstation = ⊥
MayBeStarted P m o op (Some attribute.Nonreporting) refusal.WrongWorkstation = ⊥
MayBeStarted P m o op _ _ = Unit {0}

-- an end or an error may be reported: of what is started or undecided, where the desk or a tracker starts it; of what is ready and not held, where completion alone is reported; elsewhere of none
abbrev pub MayBeEnded : Contents → OpKey → Operation → Option Attr → Refusal → Type 0
MayBeEnded P o op (Some attribute.Automatic) refusal.WrongStatus = HasStatus P o status.Started ⊎ HasStatus P o status.Undecided
MayBeEnded P o op (Some attribute.StartAndCompletion) refusal.WrongStatus = HasStatus P o status.Started ⊎ HasStatus P o status.Undecided
MayBeEnded P o op (Some attribute.CompletionOnly) refusal.WrongStatus = IsReady P o
MayBeEnded P o op (Some attribute.CompletionOnly) refusal.Held = op.held ≡ false
MayBeEnded P o op (Some attribute.Nonreporting) refusal.WrongWorkstation = ⊥
MayBeEnded P o op _ _ = Unit {0}

-- an interruption may be reported: of a started operation where starts are reported
abbrev pub MayBeInterrupted : Contents → OpKey → Operation → Refusal → Type 0
MayBeInterrupted P o op refusal.WrongStatus = HasStatus P o status.Started
MayBeInterrupted P o op refusal.WrongWorkstation = HasAttribute P op.workstation attribute.StartAndCompletion
MayBeInterrupted P o op _ = Unit {0}

-- its outcome may be reported unknown: of a started operation
abbrev pub MayBeUndecided : Contents → OpKey → Refusal → Type 0
MayBeUndecided P o refusal.WrongStatus = HasStatus P o status.Started
MayBeUndecided P o _ = Unit {0}

-- it may be held, released, made a no-operation or no longer one: while it waits or is ready
abbrev pub MayBeFlagged : Contents → OpKey → Refusal → Type 0
MayBeFlagged P o refusal.WrongStatus = IsWaitingOrReady P o
MayBeFlagged P o _ = Unit {0}

-- it may be run again: it ended, failed, was interrupted or is undecided, and nothing else that it reaches is under way
abbrev pub MayBeRerun : Contents → OpKey → Refusal → Type 0
MayBeRerun P o refusal.WrongStatus = HasStatus P o status.Interrupted ⊎ HasStatus P o status.Complete ⊎ HasStatus P o status.Error ⊎ HasStatus P o status.Undecided
MayBeRerun P o refusal.Running = (q : OpKey) → q ≢ o → Reaches P o q → ¬ IsUnderWay P q
MayBeRerun P o _ = Unit {0}

-- an operator may complete it: it is ready, under way or in error, and not held
abbrev pub MayBeCompleted : Contents → OpKey → Operation → Refusal → Type 0
MayBeCompleted P o op refusal.WrongStatus = IsReady P o ⊎ IsUnderWay P o ⊎ HasStatus P o status.Error
MayBeCompleted P o op refusal.Held = op.held ≡ false
MayBeCompleted P o op _ = Unit {0}

-- the occurrence may be deleted: it isn't yet, and nothing of it is under way
abbrev pub MayBeDeleted : Contents → OccKey → Refusal → Type 0
MayBeDeleted P c refusal.UnknownOccurrence = contains_key P.occurrences c ≡ true
MayBeDeleted P c refusal.WrongStatus = ¬ EachOperation P c status.Deleted
MayBeDeleted P c refusal.Running = (o : OpKey) → o.occurrence ≡ c → ¬ IsUnderWay P o
MayBeDeleted P c _ = Unit {0}

-- an operation of one of the plan's other occurrences
abbrev pub IsOld : Contents → AddedParts → OpKey → Type 0
IsOld P s o = IsInPlan P o × ¬ IsOwn s o

-- an operation that is added
abbrev pub IsNew : AddedParts → OpKey → Type 0
IsNew s o = contains_key s.operations o ≡ true

-- what is added is new and finds all that it names; of the plan it precedes only what waits or is ready, and follows nothing deleted; no path returns, the limits hold, and no need is of more than there is
abbrev pub MayBeAdded : Contents → AddedParts → Refusal → Type 0
MayBeAdded P s refusal.UnknownOperation = (p o : OpKey) → IsPairOf s.pairs p o → (IsNew s p ⊎ IsOld P s p) × (IsNew s o ⊎ IsOld P s o)
MayBeAdded P s refusal.UnknownWorkstation = HaveWorkstations P.workstations s.operations
MayBeAdded P s refusal.UnknownResource = HaveResources P.resources s.operations
MayBeAdded P s refusal.WrongStatus = (p o : OpKey) → IsPairOf s.pairs p o → (IsOld P s o → IsWaitingOrReady P o) × (IsOld P s p → ¬ HasStatus P p status.Deleted)
MayBeAdded P s refusal.Duplicate = (c : OccKey) → contains_key s.occurrences c ≡ true → contains_key P.occurrences c ≡ false
MayBeAdded P s refusal.Cycle = IsAcyclic (with_added P s).pairs
MayBeAdded P s refusal.Limit = IsWithinLimits (with_added P s) × AmountsFit P.resources s.operations
MayBeAdded P s _ = Unit {0}

-- s may be made to wait for p: both are in the plan, p isn't deleted, s waits or is ready, the pair is new, no path returns by it, and the limits hold
abbrev pub MayBePaired : Contents → OpKey → OpKey → Refusal → Type 0
MayBePaired P p s refusal.UnknownOperation = IsInPlan P p × IsInPlan P s
MayBePaired P p s refusal.WrongStatus = ¬ HasStatus P p status.Deleted × IsWaitingOrReady P s
MayBePaired P p s refusal.Duplicate = ¬ Precedes P p s
MayBePaired P p s refusal.Cycle = IsAcyclic (with_pair P p s).pairs
MayBePaired P p s refusal.Limit = IsWithinLimits (with_pair P p s)
MayBePaired P p s _ = Unit {0}

-- the special resource is in the plan
abbrev pub MayBeSetAvailable : Contents → Name → Refusal → Type 0
MayBeSetAvailable P r refusal.UnknownResource = contains_key P.resources r ≡ true
MayBeSetAvailable P r _ = Unit {0}

-- the workstation is in the plan, and these are no more intervals than it may have, of which no two overlap
abbrev pub MayBeOpenBy : Contents → Name → List OpenInterval → Refusal → Type 0
MayBeOpenBy P w items refusal.UnknownWorkstation = contains_key P.workstations w ≡ true
MayBeOpenBy P w items refusal.Limit = length items ≤ MOST_INTERVALS
MayBeOpenBy P w items refusal.BadPlan = AllPairs AreApart items
MayBeOpenBy P w items _ = Unit {0}

-- a text that denotes a plan may be loaded
abbrev pub MayBeLoaded : Bool → Refusal → Type 0
MayBeLoaded denotes refusal.BadPlan = denotes ≡ true
MayBeLoaded denotes _ = Unit {0}

-- a text that denotes nothing is a bad one
abbrev pub IsBadText : Refusal → Type 0
IsBadText refusal.BadPlan = ⊥
IsBadText _ = Unit {0}

-- o is in the plan, and all further lines are asked of the operation that it is there
abbrev pub OfOperation : Contents → OpKey → (Operation → Refusal → Type 0) → Refusal → Type 0
OfOperation P o rest refusal.UnknownOperation = IsInPlan P o
OfOperation P o rest r = (op : Operation) → get P.operations o ≡ Some op → rest op r

-- what each request asks of what the plan holds, at minute m
abbrev pub MayBeDone : Contents → ℕ → What → Refusal → Type 0
MayBeDone P m (what.Load draft) r = MayBeLoaded (is_some draft) r
MayBeDone P m what.Tick r = Unit {0}
MayBeDone P m (what.Started o) r = OfOperation P o (λ op. MayBeStarted P m o op (attribute_at P op.workstation)) r
MayBeDone P m (what.Ended o) r = OfOperation P o (λ op. MayBeEnded P o op (attribute_at P op.workstation)) r
MayBeDone P m (what.Error o code) r = OfOperation P o (λ op. MayBeEnded P o op (attribute_at P op.workstation)) r
MayBeDone P m (what.Interrupted o) r = OfOperation P o (MayBeInterrupted P o) r
MayBeDone P m (what.Unknown o) r = OfOperation P o (λ op. MayBeUndecided P o) r
MayBeDone P m (what.Hold o) r = OfOperation P o (λ op. MayBeFlagged P o) r
MayBeDone P m (what.Release o) r = OfOperation P o (λ op. MayBeFlagged P o) r
MayBeDone P m (what.Nop o) r = OfOperation P o (λ op. MayBeFlagged P o) r
MayBeDone P m (what.Unnop o) r = OfOperation P o (λ op. MayBeFlagged P o) r
MayBeDone P m (what.Rerun o) r = OfOperation P o (λ op. MayBeRerun P o) r
MayBeDone P m (what.Complete o) r = OfOperation P o (MayBeCompleted P o) r
MayBeDone P m (what.DeleteOccurrence c) r = MayBeDeleted P c r
MayBeDone P m (what.AddOccurrence None) r = IsBadText r
MayBeDone P m (what.AddOccurrence (Some s)) r = MayBeAdded P s r
MayBeDone P m (what.Extend None) r = IsBadText r
MayBeDone P m (what.Extend (Some s)) r = (left : Contents) → LeavesOver P left → MayBeAdded left s r
MayBeDone P m (what.AddDependency p s) r = MayBePaired P p s r
MayBeDone P m (what.SetAvailable n available) r = MayBeSetAvailable P n r
MayBeDone P m (what.ReplaceIntervals w items) r = MayBeOpenBy P w items.items r

-- the minute of a moment; 0 for one before the first, which is refused
abbrev pub minute_of : ℤ → ℕ
minute_of (pos m) = m
minute_of (negsuc n) = 0

-- any request but a load
abbrev pub NeedsPlan : What → Type 0
NeedsPlan (what.Load draft) = ⊥
NeedsPlan _ = Unit {0}

-- a load
abbrev pub IsLoad : What → Type 0
IsLoad (what.Load draft) = Unit {0}
IsLoad _ = ⊥

-- the request isn't refused for this: its moment, whether a plan is loaded, and what a request of its kind asks
abbrev pub MayBeAccepted : Plan → Request → Refusal → Type 0
MayBeAccepted P q refusal.Past = pos P.clock ≤ℤ q.at
MayBeAccepted P q refusal.MomentRange = (m : ℕ) × (q.at ≡ pos m) × IsMoment m
MayBeAccepted P q refusal.NotLoaded = NeedsPlan q.what → P.loaded ≡ true
MayBeAccepted P q refusal.Loaded = IsLoad q.what → P.loaded ≡ false
MayBeAccepted P q r = MayBeDone P.contents (minute_of q.at) q.what r
