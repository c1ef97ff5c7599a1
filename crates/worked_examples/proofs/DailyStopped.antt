-- A report that is stopped and made again: the schedule, and the one act of the run that it leaves.
use Rattle.std.proofs.Common.{arith, ◌≡◌, ◌⊎◌, inl, inr, refl, sym, ◌∙◌, ap, subst, subst₂, pos, [], ◌∷◌, List, Option, Some, None}
use Rattle.std.specs.FinMap.{get, get-from_entries}
use Rattle.plan_basics.specs.Keys.{name_cmp_total}
use Rattle.plan_records.specs.Answer.{Answer, accepted}
use Rattle.plan_records.specs.Run.{Call, CallStep, Run, State, Usable, empty_state, numbered, usable}
use Rattle.plan_records.specs.Schedules.{IsDeskState, IsWithin, Leaves, Schedule, World, created, ended, found as found_state, no_more, opened, opening, stopped, was_accepted, was_in, was_out}
use Rattle.plan_records.specs.Step.{AnswersAgain, IsNumbered, Receipt, StepsAnew}
use Rattle.plan_basics.specs.declared.keys.OpKey.{OpKey}
use Rattle.plan_model.specs.Plan.{no_plan}
use Rattle.plan_records.specs.declared.What.TheVariants as what
use Rattle.plan_laws.proofs.Repeating.{one_numbered_step}
use Rattle.plan_laws.proofs.Single.{one_step}
use Rattle.plan_laws.proofs.Receipts.{answer_keeps_receipts, empty_is_desk_state}
use Rattle.plan_laws.proofs.Acts.{accepted_acted, once}
use Rattle.plan_laws.specs.Acts.{RunWithActs, again, anew, at_end, plainly}
use Rattle.worked_examples.specs.Day.{day, evening, first, second}
use Rattle.worked_examples.specs.Statements.{LeavesOneAct, NoOtherIsFound, ReportActsOnce, ReportStopped}
use Rattle.worked_examples.specs.Stopped.{after_report, before_report, load_of_the_day, report, report_acts, report_made, report_stopped, report_text}
use Rattle.worked_examples.specs.Tracker.{cputrk}
use Rattle.worked_examples.proofs.DailyEnds.{end_of_the_first}
use Rattle.worked_examples.proofs.DayLoad.{load_names_first}
use Rattle.worked_examples.proofs.FirstReports.{first_report}
use Rattle.worked_examples.proofs.Validity.{bytes_are, name_is}

-- ---- the three calls

load_made : CallStep empty_state load_of_the_day (accepted (first ∷ [])) before_report
load_made = (load_names_first, refl)

is_numbered : IsNumbered report
is_numbered = (name_is 8 cputrk (omega arith) (omega arith) refl, bytes_are report_text refl)

report_anew : StepsAnew before_report.plan before_report.receipts report (accepted (second ∷ [])) after_report.plan after_report.receipts
report_anew = first_report report refl is_numbered (omega arith) before_report.plan after_report.plan (second ∷ []) end_of_the_first

-- the report acts
abbrev report_step : CallStep before_report (numbered report) (accepted (second ∷ [])) after_report
report_step = inr report_anew

-- its receipt
abbrev receipt : Receipt
receipt = record { number = 1; text = report_text; named = second ∷ [] }

receipt_found : get after_report.receipts cputrk ≡ Some receipt
receipt_found = get-from_entries name_cmp_total ((cputrk, receipt) ∷ []) cputrk

report_again : AnswersAgain (get after_report.receipts cputrk) report (accepted (second ∷ []))
report_again = subst (λ x. AnswersAgain x report (accepted (second ∷ []))) (sym receipt_found) (omega arith, refl, refl, refl)

-- and then it is answered again
abbrev report_answered : CallStep after_report (numbered report) (accepted (second ∷ [])) after_report
report_answered = inl (report_again, refl, refl)

-- ---- the schedule

before_is_legal : IsDeskState before_report
before_is_legal = answer_keeps_receipts empty_state before_report usable usable load_of_the_day (accepted (first ∷ [])) empty_is_desk_state (load_made, refl)

after_is_legal : IsDeskState after_report
after_is_legal = answer_keeps_receipts before_report after_report usable usable (numbered report) (accepted (second ∷ [])) before_is_legal (report_step, refl)

-- with a desk over this state
abbrev at_desk : State → World
at_desk s = record { version = 2; stored = s; desk = Some usable }

-- without a desk
abbrev alone : State → World
alone s = record { version = 2; stored = s; desk = None }

schedule_by : (s : State) → Leaves before_report (Some usable) (stopped (numbered report) None) s None → IsDeskState s → CallStep s (numbered report) (accepted (second ∷ [])) after_report → Schedule created (report_stopped s) report_made
schedule_by s stop legal step =
    (at_desk before_report, (usable, (load_made, refl), refl), (refl, refl), (alone s, stop, (refl, refl), (at_desk s, (legal, refl, refl, refl), refl, (at_desk after_report, (usable, (step, refl), refl), (refl, refl), refl))))

pub either_schedule : ReportStopped
either_schedule = (
  schedule_by before_report (inl refl, refl) before_is_legal report_step,
  schedule_by after_report (inr (second ∷ [], report_step), refl) after_is_legal report_answered,
)

-- ---- nothing else is found

-- the load leaves this alone
one_load : (t : State) → CallStep empty_state load_of_the_day (accepted (first ∷ [])) t → t ≡ before_report
one_load t h =
    let one = one_step no_plan t.plan before_report.plan (record { at = pos evening; what = what.Load (Some day) }) (accepted (first ∷ [])) (accepted (first ∷ [])) h.0 load_names_first in
    λ i. record { plan = one.1 i; receipts = h.1 i }

-- so does the report, in each of the two
one_report : (s t : State) (keys : List OpKey) → CallStep s (numbered report) (accepted (second ∷ [])) after_report → CallStep s (numbered report) (accepted keys) t → t ≡ after_report
one_report s t keys known h =
    let one = one_numbered_step s.plan t.plan after_report.plan s.receipts t.receipts after_report.receipts report (accepted keys) (accepted (second ∷ [])) h known in
    λ i. record { plan = one.1 i; receipts = one.2 i }

-- what a stop leaves is one of the two
one_of_two : (t : State) (d : Option Usable) → Leaves before_report (Some usable) (stopped (numbered report) None) t d → (t ≡ before_report) ⊎ (t ≡ after_report)
one_of_two t d h = elim h.0 [ inl same ↦ inl same | inr acted ↦ inr (one_report before_report t acted.0 report_step acted.1) ]

-- and from each the report leaves what it leaves
told : (s t : State) → (s ≡ before_report) ⊎ (s ≡ after_report) → CallStep s (numbered report) (accepted (second ∷ [])) t → t ≡ after_report
told s t (inl e) h = one_report before_report t (second ∷ []) report_step (subst (λ x. CallStep x (numbered report) (accepted (second ∷ [])) t) e h)
told s t (inr e) h = one_report after_report t (second ∷ []) report_answered (subst (λ x. CallStep x (numbered report) (accepted (second ∷ [])) t) e h)

pub no_other_is_found : NoOtherIsFound
no_other_is_found s w (loaded, load, second_version, (left, stop, version, (opened_at, found, opened_version, (made, end, (was, is), last)))) =
    let stopped_at = subst₂ (λ x d. Leaves x d (stopped (numbered report) None) left.stored left.desk) (one_load loaded.stored load.1.0) (load.2 ∙ ap Some load.1.1) stop in
    let opening_at = subst (λ d. Leaves left.stored d (opening (found_state s)) opened_at.stored opened_at.desk) stopped_at.1 found in
    let end_at = subst (λ d. Leaves opened_at.stored d (ended (numbered report) (accepted (second ∷ []))) made.stored made.desk) opening_at.3 end in
    let two = one_of_two left.stored left.desk stopped_at in
    let stored = told left.stored made.stored two (subst (λ x. CallStep x (numbered report) (accepted (second ∷ [])) made.stored) opening_at.2 end_at.1.0) in
    let desk = end_at.2 ∙ ap Some end_at.1.1 in
    (subst (λ x. (x ≡ before_report) ⊎ (x ≡ after_report)) (sym opening_at.1) two, last ∙ (λ i. record { version = is i; stored = stored i; desk = desk i }))

-- ---- what acted

-- a run over calls of these events, in which the report acted once
one_act : (s : State) (calls : List Call) (replies : List Answer) → IsWithin (report_stopped s) calls replies → Run empty_state usable calls replies after_report usable
    → RunWithActs empty_state calls replies after_report (report_acts ∷ []) → LeavesOneAct s
one_act s calls replies within run acted = (
  record {
    legal = after_is_legal;
    calls = calls;
    replies = replies;
    within = within;
    run = run;
    acts = report_acts ∷ [];
    acted = acted;
    once = once empty_state after_report calls replies (report_acts ∷ []) acted;
    accepted_acted = accepted_acted (report_stopped s) calls replies within after_report (report_acts ∷ []) acted;
  },
  refl,
)

-- where it was stopped before it was in, it acts as it is made again
out : LeavesOneAct before_report
out = one_act before_report (load_of_the_day ∷ numbered report ∷ []) (accepted (first ∷ []) ∷ accepted (second ∷ []) ∷ []) (was_accepted (was_out (opened (was_accepted no_more))))
    (before_report, usable, (load_made, refl), (after_report, usable, (report_step, refl), (refl, refl))) (plainly load_made (anew report_anew at_end))

-- where it was in, it acted as it was stopped, and is answered by its receipt
within : LeavesOneAct after_report
within = one_act after_report (load_of_the_day ∷ numbered report ∷ numbered report ∷ []) (accepted (first ∷ []) ∷ accepted (second ∷ []) ∷ accepted (second ∷ []) ∷ []) (was_accepted (was_in (opened (was_accepted no_more))))
    (before_report, usable, (load_made, refl), (after_report, usable, (report_step, refl), (after_report, usable, (report_answered, refl), (refl, refl)))) (plainly load_made (anew report_anew (again report_again at_end)))

pub report_acts_once : ReportActsOnce
report_acts_once = (out, within)
