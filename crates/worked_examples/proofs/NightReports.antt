-- The statuses of the night's plan as it was loaded, and after some reports.
use Rattle.std.proofs.Common.{◌≡◌, ◌∙◌, ap, Bool, true, cond, Some, option_map, ℕ}
use Rattle.std.specs.FinMap.{empty, get, find, get-from_entries}
use Rattle.plan_basics.specs.declared.keys.OpKey.{OpKey}
use Rattle.plan_basics.specs.Keys.{operation_cmp, operation_cmp_total}
use Rattle.status_rules.specs.declared.Mark.TheVariants as mark
use Rattle.plan_model.specs.Contents.{Contents, Operation}
use Rattle.plan_model.specs.Ready.{with_mark}
use Rattle.plan_records.specs.Changes.{is_at, revised}
use Rattle.plan_laws.proofs.Revised.{get-revised}
use Rattle.worked_examples.specs.Day.{cpu1}
use Rattle.worked_examples.specs.Night.{night, night_operations, payroll_at, planned, setp, prt1, dumm, needs_custfile, done, passed_by, three_done, two_passed, fourth_held}
use Rattle.worked_examples.specs.Statements.{StatusesWhenLoaded, StatusesAfterTheThird, StatusesOfHeld, StatusesOfPassed}
use Rattle.worked_examples.proofs.NightStatuses.{workstation_at, five_statuses}

pub found_at : (o : OpKey) → get night.operations o ≡ find operation_cmp o night_operations
found_at o = get-from_entries operation_cmp_total night_operations o

-- what is found where some operations were made anew
pub found_revised : (test : OpKey → Bool) (f : Operation → Operation) (P : Contents) (o : OpKey) (op : Operation) → get P.operations o ≡ Some op → get (revised test f P).operations o ≡ Some (cond (test o) (f op) op)
found_revised test f P o op is = get-revised test f P o ∙ ap (option_map (λ x. cond (test o) (f x) x)) is

-- what is found where one is done, or a NOP
pub found_done : (n : ℕ) (P : Contents) (o : OpKey) (op : Operation) → get P.operations o ≡ Some op → get (done n P).operations o ≡ Some (cond (is_at (payroll_at n) o) (with_mark mark.Done op) op)
found_done n P o op is = found_revised (is_at (payroll_at n)) (with_mark mark.Done) P o op is

pub found_passed : (n : ℕ) (P : Contents) (o : OpKey) (op : Operation) → get P.operations o ≡ Some op → get (passed_by n P).operations o ≡ Some (cond (is_at (payroll_at n) o) (record op { nop = true }) op)
found_passed n P o op is = found_revised (is_at (payroll_at n)) (λ x. record x { nop = true }) P o op is

-- PAYROLL's operations as they were planned
abbrev pub p5 : Operation
p5 = planned setp 10 empty

abbrev pub p10 : Operation
p10 = planned cpu1 30 empty

abbrev pub p20 : Operation
p20 = planned cpu1 60 needs_custfile

abbrev pub p30 : Operation
p30 = planned dumm 1 empty

abbrev pub p40 : Operation
p40 = planned prt1 20 empty

pub statuses_when_loaded : StatusesWhenLoaded
statuses_when_loaded =
    five_statuses night.operations p5 p10 p20 p30 p40
    (found_at (payroll_at 5), workstation_at setp, λ e. cc)
    (found_at (payroll_at 10), workstation_at cpu1, λ e. cc)
    (found_at (payroll_at 20), workstation_at cpu1, λ e. cc)
    (found_at (payroll_at 30), workstation_at dumm, λ e. cc)
    (found_at (payroll_at 40), workstation_at prt1, λ e. cc)

-- an operation where one of PAYROLL's is made anew
abbrev pub changed_at : ℕ → (Operation → Operation) → OpKey → Operation → Operation
changed_at n f o op = cond (is_at (payroll_at n) o) (f op) op

abbrev pub when_done : ℕ → OpKey → Operation → Operation
when_done n o op = changed_at n (with_mark mark.Done) o op

-- what is found once 5 and 10 are done
pub found_both : (o : OpKey) (op : Operation) → get night.operations o ≡ Some op → get (done 10 (done 5 night)).operations o ≡ Some (when_done 10 o (when_done 5 o op))
found_both o op is = found_done 10 (done 5 night) o _ (found_done 5 night o op is)

pub found_three : (o : OpKey) (op : Operation) → get night.operations o ≡ Some op → get three_done.operations o ≡ Some (when_done 20 o (when_done 10 o (when_done 5 o op)))
found_three o op is = found_done 20 (done 10 (done 5 night)) o _ (found_both o op is)

pub statuses_after_the_third : StatusesAfterTheThird
statuses_after_the_third =
    let all = five_statuses three_done.operations (with_mark mark.Done p5) (with_mark mark.Done p10) (with_mark mark.Done p20) p30 p40
    (found_three (payroll_at 5) p5 (found_at (payroll_at 5)), workstation_at setp, λ e. cc)
    (found_three (payroll_at 10) p10 (found_at (payroll_at 10)), workstation_at cpu1, λ e. cc)
    (found_three (payroll_at 20) p20 (found_at (payroll_at 20)), workstation_at cpu1, λ e. cc)
    (found_three (payroll_at 30) p30 (found_at (payroll_at 30)), workstation_at dumm, λ e. cc)
    (found_three (payroll_at 40) p40 (found_at (payroll_at 40)), workstation_at prt1, λ e. cc) in
    (all.2, all.3, all.4)

-- with the flag of a NOP
abbrev pub noped : Operation → Operation
noped op = record op { nop = true }

pub found_two : (o : OpKey) (op : Operation) → get night.operations o ≡ Some op → get two_passed.operations o ≡ Some (when_done 5 o (changed_at 20 noped o (changed_at 10 noped o op)))
found_two o op is = found_done 5 (passed_by 20 (passed_by 10 night)) o _ (found_passed 20 (passed_by 10 night) o _ (found_passed 10 night o op is))

pub statuses_of_passed : StatusesOfPassed
statuses_of_passed =
    let all = five_statuses two_passed.operations (with_mark mark.Done p5) (noped p10) (noped p20) p30 p40
    (found_two (payroll_at 5) p5 (found_at (payroll_at 5)), workstation_at setp, λ e. cc)
    (found_two (payroll_at 10) p10 (found_at (payroll_at 10)), workstation_at cpu1, λ e. cc)
    (found_two (payroll_at 20) p20 (found_at (payroll_at 20)), workstation_at cpu1, λ e. cc)
    (found_two (payroll_at 30) p30 (found_at (payroll_at 30)), workstation_at dumm, λ e. cc)
    (found_two (payroll_at 40) p40 (found_at (payroll_at 40)), workstation_at prt1, λ e. cc) in
    (all.1, all.2, all.3, all.4)

-- with the flag of a hold
abbrev holding : Operation → Operation
holding op = record op { held = true }

found_held : (o : OpKey) (op : Operation) → get three_done.operations o ≡ Some op → get fourth_held.operations o ≡ Some (changed_at 30 holding o op)
found_held o op is = found_revised (is_at (payroll_at 30)) holding three_done o op is

pub statuses_of_held : StatusesOfHeld
statuses_of_held =
    let all = five_statuses fourth_held.operations (with_mark mark.Done p5) (with_mark mark.Done p10) (with_mark mark.Done p20) (holding p30) p40
    (found_held (payroll_at 5) (with_mark mark.Done p5) (found_three (payroll_at 5) p5 (found_at (payroll_at 5))), workstation_at setp, λ e. cc)
    (found_held (payroll_at 10) (with_mark mark.Done p10) (found_three (payroll_at 10) p10 (found_at (payroll_at 10))), workstation_at cpu1, λ e. cc)
    (found_held (payroll_at 20) (with_mark mark.Done p20) (found_three (payroll_at 20) p20 (found_at (payroll_at 20))), workstation_at cpu1, λ e. cc)
    (found_held (payroll_at 30) p30 (found_three (payroll_at 30) p30 (found_at (payroll_at 30))), workstation_at dumm, λ e. cc)
    (found_held (payroll_at 40) p40 (found_three (payroll_at 40) p40 (found_at (payroll_at 40))), workstation_at prt1, λ e. cc) in
    (all.3, all.4)
