-- When an operation is satisfied, and the statuses of operations and occurrences.
use Rattle.std.specs.Prelude.{Bool, ◌≡◌, ◌⊎◌, ◌<◌, true, false, MatchOption, Decides}
use Rattle.plan_basics.specs.declared.Attr.TheVariants.{Nonreporting}
use Rattle.plan_basics.specs.declared.keys.OpKey.{OpKey}
use Rattle.plan_basics.specs.declared.keys.OccKey.{OccKey}
use Rattle.status_rules.specs.declared.Mark.TheVariants as mark
use Rattle.status_rules.specs.declared.Status.{Status}
use Rattle.status_rules.specs.declared.Status.TheVariants as status
use Rattle.status_rules.specs.declared.OccStatus.{OccStatus}
use Rattle.status_rules.specs.declared.OccStatus.TheVariants as occurrence
use Rattle.status_rules.specs.declared.Preds.{Preds}
use Rattle.status_rules.specs.LeastSet.{LeastSet, IsClosed}
use Rattle.status_rules.specs.Table.{marked_status, occurrence_status_place}
use Rattle.plan_model.specs.Contents.{Contents, Operation, Has, HasAttribute, IsInPlan, LivePredecessor}

-- it is NOP, or its workstation doesn't report
abbrev pub NeedsNoReport : Contents → Operation → Type 0
NeedsNoReport P op = (op.nop ≡ true) ⊎ HasAttribute P op.workstation Nonreporting

-- its mark says that it is done or deleted
abbrev pub IsDoneOrDeleted : Contents → OpKey → Type 0
IsDoneOrDeleted P o = Has P o (λ op. (op.mark ≡ mark.Done) ⊎ (op.mark ≡ mark.Deleted))

-- it completes without a report, once all its live predecessors are satisfied
abbrev pub PassesByItself : Contents → OpKey → Type 0
PassesByItself P o = Has P o (λ op. (op.mark ≡ mark.Unmarked) × (op.held ≡ false) × NeedsNoReport P op)

-- the least set that has what is done or deleted, and what passes by itself when all its live predecessors are in the set
abbrev pub IsSatisfied : Contents → OpKey → Type 0
IsSatisfied P = LeastSet (IsDoneOrDeleted P) (PassesByItself P) (LivePredecessor P)

-- each live predecessor of o is satisfied
abbrev pub AllPredecessorsSatisfied : Contents → OpKey → Type 0
AllPredecessorsSatisfied P o = (p : OpKey) → LivePredecessor P p o → IsSatisfied P p

-- some live predecessor is on a workstation that doesn't report
abbrev pub FollowsNonreporting : Contents → OpKey → Type 0
FollowsNonreporting P o = (p : OpKey) × LivePredecessor P p o × Has P p (λ op. HasAttribute P op.workstation Nonreporting)

-- what each status says of an operation without a mark: one of these holds of it
abbrev pub UnmarkedStatus : Contents → OpKey → Status → Type 0
UnmarkedStatus P o status.Complete = IsSatisfied P o
UnmarkedStatus P o status.Arriving = ¬ IsSatisfied P o × ((p : OpKey) → ¬ LivePredecessor P p o)
UnmarkedStatus P o status.ReadyAfterNonreporting = ¬ IsSatisfied P o × AllPredecessorsSatisfied P o × FollowsNonreporting P o
UnmarkedStatus P o status.Ready = ¬ IsSatisfied P o × AllPredecessorsSatisfied P o × ((p : OpKey) × LivePredecessor P p o) × ¬ FollowsNonreporting P o
UnmarkedStatus P o status.Waiting = ¬ IsSatisfied P o × ¬ AllPredecessorsSatisfied P o
UnmarkedStatus P o _ = ⊥

-- the status of o: decided by its mark, or without a mark by what precedes it
abbrev pub HasStatus : Contents → OpKey → Status → Type 0
HasStatus P o s = Has P o (λ op. MatchOption (marked_status op.mark) (UnmarkedStatus P o s) (λ told. s ≡ told))

-- it is arriving (A) or ready (* or R)
abbrev pub IsReady : Contents → OpKey → Type 0
IsReady P o = HasStatus P o status.Arriving ⊎ HasStatus P o status.ReadyAfterNonreporting ⊎ HasStatus P o status.Ready

-- it is waiting (W), arriving or ready
abbrev pub IsWaitingOrReady : Contents → OpKey → Type 0
IsWaitingOrReady P o = HasStatus P o status.Waiting ⊎ IsReady P o

-- it is started (S), interrupted (I) or undecided (U)
abbrev pub IsUnderWay : Contents → OpKey → Type 0
IsUnderWay P o = HasStatus P o status.Started ⊎ HasStatus P o status.Interrupted ⊎ HasStatus P o status.Undecided

-- these are the truth values of o's live predecessors
pub record ArePreds (P : Contents) (o : OpKey) (p : Preds) : Type 0 where
  pub live : Decides p.live ((q : OpKey) × LivePredecessor P q o)
  pub satisfied : Decides p.satisfied (AllPredecessorsSatisfied P o)
  pub nonreporting : Decides p.nonreporting (FollowsNonreporting P o)

-- an operation of the occurrence has the status
abbrev pub SomeOperation : Contents → OccKey → Status → Type 0
SomeOperation P c s = (o : OpKey) × (o.occurrence ≡ c) × HasStatus P o s

-- all operations of the occurrence have the status
abbrev pub EachOperation : Contents → OccKey → Status → Type 0
EachOperation P c s = (o : OpKey) → o.occurrence ≡ c → IsInPlan P o → HasStatus P o s

-- what each status of an occurrence says of its operations
abbrev pub OccurrenceCase : Contents → OccKey → OccStatus → Type 0
OccurrenceCase P c occurrence.Deleted = EachOperation P c status.Deleted
OccurrenceCase P c occurrence.Error = SomeOperation P c status.Error
OccurrenceCase P c occurrence.Undecided = SomeOperation P c status.Undecided
OccurrenceCase P c occurrence.Complete = EachOperation P c status.Complete
OccurrenceCase P c occurrence.Started = SomeOperation P c status.Started ⊎ SomeOperation P c status.Interrupted ⊎ SomeOperation P c status.Complete
OccurrenceCase P c occurrence.Waiting = Unit {0}

-- the status of an occurrence: the first whose case holds
abbrev pub HasOccurrenceStatus : Contents → OccKey → OccStatus → Type 0
HasOccurrenceStatus P c s = OccurrenceCase P c s × ((t : OccStatus) → occurrence_status_place t < occurrence_status_place s → ¬ OccurrenceCase P c t)

-- o is in every set that has what is done or deleted, and what passes by itself once all its live predecessors are in the set
abbrev pub IsInEachClosedSet : Contents → OpKey → Type 0
IsInEachClosedSet P o = (test : OpKey → Bool) → IsClosed (IsDoneOrDeleted P) (PassesByItself P) (LivePredecessor P) test → test o ≡ true
