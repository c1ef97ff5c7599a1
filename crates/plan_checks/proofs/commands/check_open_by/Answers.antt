use Rattle.std.proofs.Common.{◌≡◌, inr, subst, true, List}
use Rattle.std.specs.FinMap.{contains_key, get}
use Rattle.plan_basics.specs.Intervals.{OpenInterval}
use Rattle.plan_basics.specs.Refusals.{IsLeastRefusal, NoneRefuses}
use Rattle.plan_drafts.proofs.Tables.{some_is}
use Rattle.plan_model.specs.Contents.{Contents}
use Rattle.plan_model.specs.workstations.specs.Timetables.{MayBeTaken}
use Rattle.plan_checks.proofs.ByCommand.{not_open_by, open_by}
use Rattle.plan_checks.proofs.Searching.{found_in, if_err, if_ok}
use Rattle.plan_checks.proofs.commands.check_open_by.Goals as goal

pub returns : goal.returns
returns c =
    let P = c.args.outline.now in
    let Q = c.uncounted-uncounted.result.contents.now in
    let name = c.args.name.now in
    let intervals = c.args.intervals.now in
    let there = found_in c.workstation.result _ _ c.in_ok-workstation.ensures.ok_part c.workstation.ensures.found in
    let is_known = subst (λ (R : Contents). contains_key R.workstations name ≡ true) c.uncounted-uncounted.ensures.contents (some_is (get Q.workstations name) _ there.1) in
    let same = c.in_ok-from_slice.ensures.items in
    record {
      ok = if_ok c.replace_intervals.result c.replace_intervals.ensures.taken (λ taken. open_by P name intervals is_known (subst (λ (items : List OpenInterval). NoneRefuses (MayBeTaken items)) same taken));
      refused = if_err c.replace_intervals.result c.replace_intervals.ensures.refused (λ r least. inr (not_open_by P name intervals is_known r (subst (λ (items : List OpenInterval). IsLeastRefusal (MayBeTaken items) r) same least)));
    }
