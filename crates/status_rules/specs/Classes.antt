-- Classes of statuses and of marks: by them operations are listed, started, reported and commanded, and hold what they took, and occurrences leave.
-- Rules that read better over operations, as IsReady, are stated so; a law says that both are the same (ClassesOfStatus).
use Rattle.std.specs.Prelude.{Bool, true, false, ◌||◌, Option, Some}
use Rattle.status_rules.specs.declared.Mark.{Mark}
use Rattle.status_rules.specs.declared.Mark.TheVariants as mark
use Rattle.status_rules.specs.declared.OccStatus.{OccStatus}
use Rattle.status_rules.specs.declared.OccStatus.TheVariants as occurrence
use Rattle.status_rules.specs.declared.Status.{Status}
use Rattle.status_rules.specs.declared.Status.TheVariants as status

-- ---- statuses

-- arriving (A) or ready (* or R): it is in the ready list
abbrev pub is_ready : Status → Bool
is_ready status.Arriving = true
is_ready status.ReadyAfterNonreporting = true
is_ready status.Ready = true
is_ready _ = false

-- waiting (W), arriving or ready: its flags may be set, and a predecessor may be added
abbrev pub is_waiting_or_ready : Status → Bool
is_waiting_or_ready status.Waiting = true
is_waiting_or_ready s = is_ready s

-- started (S), interrupted (I) or undecided (U): its occurrence isn't deleted, and no rerun reaches it
abbrev pub is_under_way : Status → Bool
is_under_way status.Started = true
is_under_way status.Interrupted = true
is_under_way status.Undecided = true
is_under_way _ = false

-- complete (C) or deleted (D): its successors don't wait for it
abbrev pub is_satisfied : Status → Bool
is_satisfied status.Complete = true
is_satisfied status.Deleted = true
is_satisfied _ = false

-- ready or interrupted (I): it may be started where starts are reported
abbrev pub is_startable : Status → Bool
is_startable status.Interrupted = true
is_startable s = is_ready s

-- ready, under way or in error (E): it may be completed by hand
abbrev pub is_completable : Status → Bool
is_completable status.Error = true
is_completable s = is_ready s || is_under_way s

-- interrupted (I), complete (C), in error (E) or undecided (U): it may be run again
abbrev pub is_rerunnable : Status → Bool
is_rerunnable status.Interrupted = true
is_rerunnable status.Complete = true
is_rerunnable status.Error = true
is_rerunnable status.Undecided = true
is_rerunnable _ = false

-- ---- statuses of occurrences

-- complete (C) or deleted (D): it leaves the plan where that is extended
abbrev pub is_over : OccStatus → Bool
is_over occurrence.Complete = true
is_over occurrence.Deleted = true
is_over _ = false

-- ---- what an operation holds, by the status that its mark decides: none where nothing was reported

-- started (S) or undecided (U): it holds a server, R1 and R2
abbrev pub holds_server : Option Status → Bool
holds_server (Some status.Started) = true
holds_server (Some status.Undecided) = true
holds_server _ = false

-- started, undecided or interrupted (I): it holds a special resource that it needs; in error (E) where its need says keep
abbrev pub holds_resource : Bool → Option Status → Bool
holds_resource keep (Some status.Started) = true
holds_resource keep (Some status.Undecided) = true
holds_resource keep (Some status.Interrupted) = true
holds_resource keep (Some status.Error) = keep
holds_resource keep _ = false

-- ---- marks

-- any mark but that of a deletion: latest starts and reruns go on through it
abbrev pub is_live : Mark → Bool
is_live mark.Deleted = false
is_live _ = true
