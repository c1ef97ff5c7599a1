-- A tracker's numbered requests: CPUTRK reports, as its first, that PAYROLL's 10 ended at 22:40.
use Rattle.std.specs.Prelude.{ℕ, [], ◌∷◌, List, pos, codes}
use Rattle.std.specs.FinMap.{empty, from_entries}
use Rattle.plan_basics.specs.Keys.{Name}
use Rattle.plan_model.specs.Plan.{Plan}
use Rattle.plan_model.specs.Ready.{named}
use Rattle.plan_records.specs.declared.What.{What}
use Rattle.plan_records.specs.declared.What.TheVariants as what
use Rattle.plan_records.specs.Step.{Numbered, Receipts}
use Rattle.worked_examples.specs.Day.{loaded_at}
use Rattle.worked_examples.specs.Night.{end_of_second, payroll_at, second_ended}

-- the tracker
abbrev pub cputrk : Name
cputrk = codes "CPUTRK"

-- what it reports at 22:40 under a number, and the text of that
abbrev pub told_by : ℕ → List ℕ → What → Numbered
told_by number text w = record { tracker = cputrk; number = number; text = text; request = record { at = pos end_of_second; what = w } }

-- the text of an end
abbrev pub ended_text : List ℕ
ended_text = codes "ended PAYROLL/2024-03-01T22:00/010"

-- that 10 ended, under a number
abbrev pub ended_told : ℕ → Numbered
ended_told number = told_by number ended_text (what.Ended (payroll_at 10))

-- that 10 failed, under the number 1
abbrev pub failure_told : Numbered
failure_told = told_by 1 (codes "error PAYROLL/2024-03-01T22:00/010 S0C7") (what.Error (payroll_at 10) (codes "S0C7"))

-- no tracker has reported anything
abbrev pub no_receipts : Receipts
no_receipts = empty

-- its receipt: number 1, the text, and that 20 was named
abbrev pub one_receipt : Receipts
one_receipt = from_entries ((cputrk, record { number = 1; text = ended_text; named = payroll_at 20 ∷ [] }) ∷ [])

-- the plan then: 10 is done and 20 is named
abbrev pub after_told : Plan
after_told = loaded_at end_of_second (named (payroll_at 20 ∷ []) second_ended)
