-- What is to hold of the plans that are written out here.
use Rattle.std.specs.Prelude.{◌≡◌, ◌≢◌, ◌⊎◌, ◌↔◌, [], ◌∷◌, ℕ, Option, Some, pos, neg_ℤ}
use Rattle.plan_basics.specs.Minutes.{civil_minute}
use Rattle.status_rules.specs.declared.Status.TheVariants as status
use Rattle.plan_basics.specs.declared.Refusal.{Refusal}
use Rattle.plan_basics.specs.declared.Refusal.TheVariants as refusal
use Rattle.plan_model.specs.Plan.{Plan, no_plan}
use Rattle.plan_model.specs.Contents.{Contents, Has}
use Rattle.plan_records.specs.declared.Request.{Request}
use Rattle.plan_records.specs.declared.What.{What}
use Rattle.plan_records.specs.declared.What.TheVariants as what
use Rattle.plan_records.specs.Answer.{Answer, accepted, refused}
use Rattle.plan_records.specs.Changes.{Changes, LeavesOver}
use Rattle.plan_records.specs.Run.{Run, State, numbered, usable}
use Rattle.plan_records.specs.Schedules.{Schedule, World, created}
use Rattle.plan_records.specs.Step.{Numbered, NumberedStep, Step}
use Rattle.plan_model.specs.Status.{HasStatus}
use Rattle.plan_model.specs.Holdings.{Holds}
use Rattle.plan_model.specs.Ready.{IsChosen, named}
use Rattle.plan_model.specs.Starts.{IsLatestStart, MayStart}
use Rattle.plan_laws.specs.Laws.{IsLeftBy}
use Rattle.worked_examples.specs.Ahead.{five_to_ten, start_of_payroll}
use Rattle.worked_examples.specs.Day.{day, evening, first, loaded_at, morning, second}
use Rattle.worked_examples.specs.Overdue.{old_at, overdue}
use Rattle.worked_examples.specs.Trio.{aaa, bbb, ccc, by_duration, by_fixed_resource, by_key, by_latest_start, by_priority, three, half_past_three, four, ten_past_four}
use Rattle.worked_examples.specs.Tracker.{after_told, ended_told, failure_told, no_receipts, one_receipt}
use Rattle.worked_examples.specs.Stopped.{after_report, before_report, first_ended, first_started, report_acts, report_made, report_stopped}
use Rattle.worked_examples.specs.Backup.{backup_addition, backup_alone, backup_key, day_over, nothing_added, with_backup}
use Rattle.worked_examples.specs.Billing.{billing_key, eleven, failed}
use Rattle.worked_examples.specs.Night.{alone, fourth_held, from_first_again, from_third_again, custfile, end_of_second, second_ended, second_started, night, payroll, third_started, three_done, two_passed, payroll_at, loading, two_at_night, end_of_night}

-- the numerals are the minutes of these civil dates and times
abbrev pub MomentsOfTheNight : Type 0
MomentsOfTheNight =
    (civil_minute 2024 3 1 21 0 ≡ pos loading)
    × (civil_minute 2024 3 1 21 50 ≡ pos start_of_payroll)
    × (civil_minute 2024 3 1 21 55 ≡ pos five_to_ten)
    × (civil_minute 2024 3 1 22 0 ≡ pos evening)
    × (civil_minute 2024 3 1 22 40 ≡ pos end_of_second)
    × (civil_minute 2024 3 1 23 0 ≡ pos eleven)
    × (civil_minute 2024 3 2 2 0 ≡ pos two_at_night)
    × (civil_minute 2024 3 2 5 0 ≡ pos morning)
    × (civil_minute 2024 3 2 6 0 ≡ pos end_of_night)
    × (civil_minute 2024 3 2 3 0 ≡ pos three)
    × (civil_minute 2024 3 2 3 30 ≡ pos half_past_three)
    × (civil_minute 2024 3 2 4 0 ≡ pos four)
    × (civil_minute 2024 3 2 4 10 ≡ pos ten_past_four)

-- the deadline less the durations of what is still to run: 02:59, 03:09, 03:39, 04:39 and 04:40
abbrev pub LatestStartsOfTheNight : Type 0
LatestStartsOfTheNight =
    IsLatestStart night (payroll_at 5) (civil_minute 2024 3 2 2 59)
    × IsLatestStart night (payroll_at 10) (civil_minute 2024 3 2 3 9)
    × IsLatestStart night (payroll_at 20) (civil_minute 2024 3 2 3 39)
    × IsLatestStart night (payroll_at 30) (civil_minute 2024 3 2 4 39)
    × IsLatestStart night (payroll_at 40) (civil_minute 2024 3 2 4 40)

-- minute -10 for the first, which is before the first moment, and minute 10 for the second
abbrev pub LatestStartsOfOverdueWork : Type 0
LatestStartsOfOverdueWork = IsLatestStart overdue (old_at 10) (neg_ℤ (pos 10)) × IsLatestStart overdue (old_at 20) (pos 10)

-- nothing is reported: the first operation is arriving, and each other waits for the one before it
abbrev pub StatusesWhenLoaded : Type 0
StatusesWhenLoaded =
    HasStatus night (payroll_at 5) status.Arriving
    × HasStatus night (payroll_at 10) status.Waiting
    × HasStatus night (payroll_at 20) status.Waiting
    × HasStatus night (payroll_at 30) status.Waiting
    × HasStatus night (payroll_at 40) status.Waiting

-- 20 is done: 30, on a workstation that doesn't report, completes by itself, and 40 is ready after it
abbrev pub StatusesAfterTheThird : Type 0
StatusesAfterTheThird =
    HasStatus three_done (payroll_at 20) status.Complete
    × HasStatus three_done (payroll_at 30) status.Complete
    × HasStatus three_done (payroll_at 40) status.ReadyAfterNonreporting

-- 30 is held: it doesn't complete by itself, but is ready, and 40 goes on waiting
abbrev pub StatusesOfHeld : Type 0
StatusesOfHeld = HasStatus fourth_held (payroll_at 30) status.Ready × HasStatus fourth_held (payroll_at 40) status.Waiting

-- 10 and 20 are NOPs: once 5 is done they complete by themselves, 30 with them, and 40 is ready
abbrev pub StatusesOfPassed : Type 0
StatusesOfPassed =
    HasStatus two_passed (payroll_at 10) status.Complete
    × HasStatus two_passed (payroll_at 20) status.Complete
    × HasStatus two_passed (payroll_at 30) status.Complete
    × HasStatus two_passed (payroll_at 40) status.ReadyAfterNonreporting

-- asked at minute m, this is refused for that reason, and the plan stays as it is
abbrev pub StepRefuses : Plan → ℕ → What → Refusal → Type 0
StepRefuses P m w r = Step P (record { at = pos m; what = w }) (refused r) P

-- a start is refused while the workstation is closed: at 21:59, before it opens, and at 02:00, since an interval's end is outside
abbrev pub StartsWhileClosed : Type 0
StartsWhileClosed =
    StepRefuses (loaded_at loading night) 27437639 (what.Started (payroll_at 5)) refusal.Closed
    × StepRefuses (loaded_at loading night) two_at_night (what.Started (payroll_at 5)) refusal.Closed

-- the first can't be made to wait for the last: a path leads from it to the last
abbrev pub PairThatLeadsBack : Type 0
PairThatLeadsBack = StepRefuses (loaded_at loading night) loading (what.AddDependency (payroll_at 40) (payroll_at 5)) refusal.Cycle

-- an occurrence with a started operation isn't deleted
abbrev pub DeletionWhileStarted : Type 0
DeletionWhileStarted = StepRefuses (loaded_at loading third_started) evening (what.DeleteOccurrence payroll) refusal.Running

-- whatever the text denotes, a plan isn't loaded over another
abbrev pub SecondLoad : Type 0
SecondLoad = (draft : Option Contents) → StepRefuses (loaded_at loading night) loading (what.Load draft) refusal.Loaded

-- three operations, two servers: CCC by its priority, and then BBB by latest start, AAA by duration, AAA by key, or BBB by its higher priority
abbrev pub ChoicesForTwoServers : Type 0
ChoicesForTwoServers =
    IsChosen by_latest_start evening (ccc ∷ bbb ∷ [])
    × IsChosen by_duration evening (ccc ∷ aaa ∷ [])
    × IsChosen by_key evening (ccc ∷ aaa ∷ [])
    × IsChosen by_priority evening (ccc ∷ bbb ∷ [])

-- AAA and CCC are named; BBB, between them, is passed over for want of R1, and stays arriving
abbrev pub ChoiceForFixedResource : Type 0
ChoiceForFixedResource =
    IsChosen by_fixed_resource evening (aaa ∷ ccc ∷ [])
    × HasStatus (named (aaa ∷ ccc ∷ []) by_fixed_resource) bbb status.Arriving

-- the whole step: a tick names CCC and BBB, in this order
abbrev pub TickThatNames : Type 0
TickThatNames = Step (loaded_at evening by_latest_start) (record { at = pos evening; what = what.Tick }) (accepted (ccc ∷ bbb ∷ [])) (loaded_at evening (named (ccc ∷ bbb ∷ []) by_latest_start))

-- the whole step: the small plan is loaded at 22:00, and its first operation is named
abbrev pub LoadThatNames : Type 0
LoadThatNames = Step no_plan (record { at = pos evening; what = what.Load (Some day) }) (accepted (first ∷ [])) (loaded_at evening (named (first ∷ []) day))

-- PAYROLL's 20 failed and keeps CUSTFILE alone: of all that BILLING's operation needs to start, that resource is what lacks
abbrev pub KeptResource : Type 0
KeptResource =
    HasStatus failed billing_key status.Arriving
    × Has failed billing_key (λ op. (line : Refusal) → MayStart failed billing_key op eleven line ↔ (line ≢ refusal.ResourceBusy))

-- the whole step: the night's plan is loaded at 21:00, and nothing is named, since its one ready operation isn't for the desk to start
abbrev pub LoadOfTheNight : Type 0
LoadOfTheNight = Step no_plan (record { at = pos loading; what = what.Load (Some night) }) (accepted []) (loaded_at loading (named [] night))

-- the whole step: 10 ends at 22:40, 20 is named, and then holds CUSTFILE alone
abbrev pub EndOfTheSecond : Type 0
EndOfTheSecond =
    Step (loaded_at loading second_started) (record { at = pos end_of_second; what = what.Ended (payroll_at 10) }) (accepted (payroll_at 20 ∷ [])) (loaded_at end_of_second (named (payroll_at 20 ∷ []) second_ended))
    × Holds (named (payroll_at 20 ∷ []) second_ended) (payroll_at 20) custfile alone

-- a rerun of 20 reaches 20, 30 and 40 alone: 20 is ready again, and 30 and 40 wait
abbrev pub RerunOfTheThird : Type 0
RerunOfTheThird =
    Changes three_done (what.Rerun (payroll_at 20)) from_third_again
    × HasStatus from_third_again (payroll_at 10) status.Complete
    × HasStatus from_third_again (payroll_at 20) status.Ready
    × HasStatus from_third_again (payroll_at 30) status.Waiting
    × HasStatus from_third_again (payroll_at 40) status.Waiting

-- a rerun of 5 reaches all five: 5 is arriving again, and the others wait, the NOPs among them
abbrev pub RerunOfTheFirst : Type 0
RerunOfTheFirst =
    Changes two_passed (what.Rerun (payroll_at 5)) from_first_again
    × HasStatus from_first_again (payroll_at 5) status.Arriving
    × HasStatus from_first_again (payroll_at 10) status.Waiting
    × HasStatus from_first_again (payroll_at 20) status.Waiting
    × HasStatus from_first_again (payroll_at 30) status.Waiting
    × HasStatus from_first_again (payroll_at 40) status.Waiting

-- the whole step: BACKUP is added at 22:00, and DAILY's first is named; it has to start at 03:00 now, half an hour earlier than without BACKUP, which waits
abbrev pub BackupAdded : Type 0
BackupAdded =
    Step (loaded_at 0 day) (record { at = pos evening; what = what.AddOccurrence (Some backup_addition) }) (accepted (first ∷ [])) (loaded_at evening (named (first ∷ []) with_backup))
    × IsLatestStart day first (pos half_past_three)
    × IsLatestStart with_backup first (pos three)
    × HasStatus (named (first ∷ []) with_backup) first status.Started
    × HasStatus (named (first ∷ []) with_backup) second status.Waiting
    × HasStatus (named (first ∷ []) with_backup) backup_key status.Waiting

-- DAILY, which is done, leaves with its operations and pairs, and an extension of nothing does no more: BACKUP's operation, which was ready, is arriving then
abbrev pub DailyLeaves : Type 0
DailyLeaves =
    HasStatus day_over backup_key status.Ready
    × LeavesOver day_over backup_alone
    × Changes day_over (what.Extend (Some nothing_added)) backup_alone
    × HasStatus backup_alone backup_key status.Arriving

-- the first request of a tracker is accepted, and leaves a receipt
abbrev pub NumberedRequest : Type 0
NumberedRequest = NumberedStep (loaded_at loading second_started) no_receipts (ended_told 1) (accepted (payroll_at 20 ∷ [])) after_told one_receipt

-- with the receipt there, a numbered request is answered so, and nothing changes
abbrev pub IsAnsweredThen : Numbered → Answer → Type 0
IsAnsweredThen n reply = NumberedStep after_told one_receipt n reply after_told one_receipt

-- sent again it is answered the same; another text under its number, a number before it, and one after the next are refused
abbrev pub NumberedAgain : Type 0
NumberedAgain =
    IsAnsweredThen (ended_told 1) (accepted (payroll_at 20 ∷ []))
    × IsAnsweredThen failure_told (refused refusal.Reused)
    × IsAnsweredThen (ended_told 0) (refused refusal.Old)
    × IsAnsweredThen (ended_told 3) (refused refusal.Gap)

-- a whole run: the request, and the same once more, since its tracker heard no answer
abbrev pub RunToldTwice : Type 0
RunToldTwice =
    Run (record { plan = loaded_at loading second_started; receipts = no_receipts }) usable (numbered (ended_told 1) ∷ numbered (ended_told 1) ∷ [])
    (accepted (payroll_at 20 ∷ []) ∷ accepted (payroll_at 20 ∷ []) ∷ []) (record { plan = after_told; receipts = one_receipt }) usable

-- a request that is made twice, one time at once after the other: both answers, and the plan after the first, which the second leaves
abbrev pub IsMadeTwice : Plan → Request → Answer → Plan → Answer → Type 0
IsMadeTwice P q one_answer after other_answer = Step P q one_answer after × Step after q other_answer after

-- a tick names CCC and BBB, and the same tick once more names nothing, since no server is left for AAA
abbrev pub TickTwice : Type 0
TickTwice =
    IsMadeTwice (loaded_at evening by_latest_start) (record { at = pos evening; what = what.Tick }) (accepted (ccc ∷ bbb ∷ []))
    (loaded_at evening (named (ccc ∷ bbb ∷ []) by_latest_start)) (accepted [])

-- DAILY's first ends, and the second is named; told once more, it is refused, since the first is complete
abbrev pub EndTwice : Type 0
EndTwice =
    IsMadeTwice (loaded_at evening first_started) (record { at = pos end_of_second; what = what.Ended first }) (accepted (second ∷ []))
    (loaded_at end_of_second (named (second ∷ []) first_ended)) (refused refusal.WrongStatus)

-- a report is stopped: whether the opening finds the plan before it or after it, made again it is answered, and what is stored then is the same
abbrev pub ReportStopped : Type 0
ReportStopped = Schedule created (report_stopped before_report) report_made × Schedule created (report_stopped after_report) report_made

-- no opening finds anything else, and nothing else is stored at the end
abbrev pub NoOtherIsFound : Type 0
NoOtherIsFound = (s : State) (w : World) → Schedule created (report_stopped s) w → ((s ≡ before_report) ⊎ (s ≡ after_report)) × (w ≡ report_made)

-- where an opening found this, what is stored at the end is what a run leaves in which the report acted once, and nothing else of a tracker's acted
abbrev pub LeavesOneAct : State → Type 0
LeavesOneAct s = (left : IsLeftBy (report_stopped s) report_made.stored) × (left.acts ≡ report_acts ∷ [])

-- so it is in both
abbrev pub ReportActsOnce : Type 0
ReportActsOnce = LeavesOneAct before_report × LeavesOneAct after_report
