-- A tracker's numbered request over the night's plan, and what it is answered later.
use Rattle.std.proofs.Common.{arith, ◌≡◌, inl, inr, refl, ◌∙◌, ap, [], ◌∷◌, length, Some}
use Rattle.std.specs.FinMap.{get, get-from_entries}
use Rattle.plan_basics.specs.Keys.{name_cmp_total}
use Rattle.plan_basics.specs.declared.Refusal.TheVariants as refusal
use Rattle.plan_records.specs.Answer.{Answer, accepted, refused}
use Rattle.plan_records.specs.Run.{State, usable}
use Rattle.plan_records.specs.Step.{AnswersAgain, IsNumbered, Numbered, Receipt}
use Rattle.worked_examples.specs.Day.{loaded_at}
use Rattle.worked_examples.specs.Night.{loading, payroll_at, second_started}
use Rattle.worked_examples.specs.Statements.{IsAnsweredThen, NumberedAgain, NumberedRequest, RunToldTwice}
use Rattle.worked_examples.specs.Tracker.{after_told, cputrk, ended_text, ended_told, failure_told, one_receipt}
use Rattle.worked_examples.proofs.NightEnds.{end_of_the_second}
use Rattle.worked_examples.proofs.FirstReports.{by_receipt, first_report}
use Rattle.worked_examples.proofs.Validity.{bytes_are, name_is}

is_numbered : IsNumbered (ended_told 1)
is_numbered = (name_is 8 cputrk (omega arith) (omega arith) refl, bytes_are ended_text refl)

pub numbered_request : NumberedRequest
numbered_request = inr (first_report (ended_told 1) refl is_numbered (omega arith) (loaded_at loading second_started) after_told (payroll_at 20 ∷ []) end_of_the_second.0)

abbrev receipt : Receipt
receipt = record { number = 1; text = ended_text; named = payroll_at 20 ∷ [] }

found : get one_receipt cputrk ≡ Some receipt
found = get-from_entries name_cmp_total ((cputrk, receipt) ∷ []) cputrk

answered : (n : Numbered) (reply : Answer) → n.tracker ≡ cputrk → AnswersAgain (Some receipt) n reply → IsAnsweredThen n reply
answered n reply told h = by_receipt after_told one_receipt n receipt reply (ap (get one_receipt) told ∙ found) h

told_again : IsAnsweredThen (ended_told 1) (accepted (payroll_at 20 ∷ []))
told_again = answered (ended_told 1) (accepted (payroll_at 20 ∷ [])) refl (omega arith, refl, refl, refl)

pub numbered_again : NumberedAgain
numbered_again = (
  told_again,
  answered failure_told (refused refusal.Reused) refl (omega arith, refl, λ e. let n : 39 ≡ 34 = ap length e in omega (arith, n)),
  answered (ended_told 0) (refused refusal.Old) refl (inl (omega arith)),
  answered (ended_told 3) (refused refusal.Gap) refl (omega arith),
)

abbrev told : State
told = record { plan = after_told; receipts = one_receipt }

pub run_told_twice : RunToldTwice
run_told_twice = (told, usable, (numbered_request, refl), (told, usable, (told_again, refl), (refl, refl)))
