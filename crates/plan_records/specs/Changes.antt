-- What each request changes where it is accepted.
use Rattle.std.specs.Prelude.{◌≡◌, ◌⊎◌, ◌↔◌, ◌&&◌, Bool, true, false, cond, Option, Some, None, All}
use Rattle.std.specs.Ordering.{eq_by_cmp}
use Rattle.std.specs.FinMap.{retain_keys}
use Rattle.std.specs.FinSet as set
use Rattle.plan_basics.specs.declared.keys.OccKey.{OccKey}
use Rattle.plan_basics.specs.declared.keys.OpKey.{OpKey}
use Rattle.plan_basics.specs.Names.{IsName}
use Rattle.plan_basics.specs.Intervals.{IsInterval}
use Rattle.plan_basics.specs.Keys.{name_cmp, occurrence_cmp, operation_cmp}
use Rattle.plan_drafts.specs.workstations.specs.Workstations.{with_intervals}
use Rattle.plan_drafts.specs.status_rules.specs.declared.Mark.{Mark}
use Rattle.plan_drafts.specs.status_rules.specs.declared.Mark.TheVariants as mark
use Rattle.plan_drafts.specs.status_rules.specs.declared.OccStatus.TheVariants as occurrence
use Rattle.plan_drafts.specs.plan_model.specs.Contents.{Contents, Operation, AddedParts, with_availability}
use Rattle.plan_drafts.specs.plan_model.specs.Starts.{Reaches}
use Rattle.plan_drafts.specs.plan_model.specs.Status.{HasOccurrenceStatus}
use Rattle.plan_drafts.specs.plan_model.specs.Ready.{with_mark}
use Rattle.plan_drafts.specs.plan_model.specs.Revise.{revise, joined}
use Rattle.plan_records.specs.declared.What.{What}
use Rattle.plan_records.specs.declared.What.TheVariants as what
use Rattle.plan_drafts.specs.Drafts.{IsDraft, IsAddition, IsExtension}

-- what a request's own parts are: texts that were read, a legal code, intervals
abbrev pub IsRequest : What → Type 0
IsRequest (what.Load (Some draft)) = IsDraft draft
IsRequest (what.AddOccurrence (Some s)) = IsAddition s
IsRequest (what.Extend (Some s)) = IsExtension s
IsRequest (what.Error o code) = IsName 4 code
IsRequest (what.ReplaceIntervals w items) = All IsInterval items.items
IsRequest _ = Unit {0}

-- the operation of which a request reports, or that it commands, if it is about one
abbrev pub operation_of : What → Option OpKey
operation_of (what.Started o) = Some o
operation_of (what.Ended o) = Some o
operation_of (what.Error o code) = Some o
operation_of (what.Interrupted o) = Some o
operation_of (what.Unknown o) = Some o
operation_of (what.Hold o) = Some o
operation_of (what.Release o) = Some o
operation_of (what.Nop o) = Some o
operation_of (what.Unnop o) = Some o
operation_of (what.Rerun o) = Some o
operation_of (what.Complete o) = Some o
operation_of _ = None

-- what a plan holds, with the operations at which the test passes made anew
abbrev pub revised : (OpKey → Bool) → (Operation → Operation) → Contents → Contents
revised test f P = record P { operations = revise (λ o op. cond (test o) (f op) op) P.operations }

-- whether q is o
abbrev pub is_at : OpKey → OpKey → Bool
is_at o q = eq_by_cmp operation_cmp q o

-- with this mark on one operation
abbrev pub marked : OpKey → Mark → Contents → Contents
marked o mark P = revised (is_at o) (with_mark mark) P

-- with what is added
abbrev pub with_added : Contents → AddedParts → Contents
with_added P s = record P { occurrences = joined P.occurrences s.occurrences; operations = joined P.operations s.operations; pairs = set.union P.pairs s.pairs }

-- the occurrence is complete or deleted
abbrev pub IsOver : Contents → OccKey → Type 0
IsOver P c = HasOccurrenceStatus P c occurrence.Complete ⊎ HasOccurrenceStatus P c occurrence.Deleted

-- of the occurrences those that pass the test, with their operations and the pairs that name no others; all else as it was
abbrev pub with_only : (OccKey → Bool) → Contents → Contents
with_only stays P = record P {
  occurrences = retain_keys P.occurrences stays;
  operations = retain_keys P.operations (λ o. stays o.occurrence);
  pairs = set.retain P.pairs (λ pair. stays pair.0.occurrence && stays pair.1.occurrence);
}

-- those that are complete or deleted have left, all together
abbrev pub LeavesOver : Contents → Contents → Type 0
LeavesOver P left = (stays : OccKey → Bool) × ((c : OccKey) → (stays c ≡ true) ↔ ¬ IsOver P c) × (left ≡ with_only stays P)

-- with one more pair
abbrev pub with_pair : Contents → OpKey → OpKey → Contents
with_pair P p s = record P { pairs = set.insert P.pairs (p, s) }

-- what an accepted request makes of what a plan holds: what it says, all else as it was; what is named comes after it
abbrev pub Changes : Contents → What → Contents → Type 0
Changes P (what.Load draft) Q = draft ≡ Some Q
Changes P what.Tick Q = Q ≡ P
Changes P (what.Started o) Q = Q ≡ marked o mark.Running P
Changes P (what.Ended o) Q = Q ≡ marked o mark.Done P
Changes P (what.Error o code) Q = Q ≡ marked o (mark.Error code) P
Changes P (what.Interrupted o) Q = Q ≡ marked o mark.Interrupted P
Changes P (what.Unknown o) Q = Q ≡ marked o mark.Undecided P
Changes P (what.Hold o) Q = Q ≡ revised (is_at o) (λ op. record op { held = true }) P
Changes P (what.Release o) Q = Q ≡ revised (is_at o) (λ op. record op { held = false }) P
Changes P (what.Nop o) Q = Q ≡ revised (is_at o) (λ op. record op { nop = true }) P
Changes P (what.Unnop o) Q = Q ≡ revised (is_at o) (λ op. record op { nop = false }) P
Changes P (what.Rerun o) Q = (test : OpKey → Bool) × ((q : OpKey) → (test q ≡ true) ↔ Reaches P o q) × (Q ≡ revised test (with_mark mark.Unmarked) P)
Changes P (what.Complete o) Q = Q ≡ marked o mark.Done P
Changes P (what.DeleteOccurrence c) Q = Q ≡ revised (λ o. eq_by_cmp occurrence_cmp o.occurrence c) (with_mark mark.Deleted) P
Changes P (what.AddOccurrence a) Q = (s : AddedParts) × (a ≡ Some s) × (Q ≡ with_added P s)
Changes P (what.Extend a) Q = (s : AddedParts) × (left : Contents) × (a ≡ Some s) × LeavesOver P left × (Q ≡ with_added left s)
Changes P (what.AddDependency p s) Q = Q ≡ with_pair P p s
Changes P (what.SetAvailable r available) Q = Q ≡ record P { resources = revise (with_availability r available) P.resources }
Changes P (what.ReplaceIntervals w items) Q = Q ≡ record P { workstations = revise (λ v ws. cond (eq_by_cmp name_cmp v w) (with_intervals items.items ws) ws) P.workstations }
