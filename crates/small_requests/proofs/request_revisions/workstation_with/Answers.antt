use Rattle.std.proofs.Common.{◌∙◌, ap}
use Rattle.std.specs.FinMap.{get}
use Rattle.plan_basics.specs.declared.Refusal.TheVariants as refusal
use Rattle.workstations.specs.Timetables.{reopened}
use Rattle.plan_checks.specs.plan_changes.proofs.Taken.{is_taken, is_there, put_opened, reopened_in}
use Rattle.small_requests.proofs.request_revisions.workstation_with.Goals as goal

pub unwrap-requires : goal.unwrap-requires
unwrap-requires c = is_there c.workstation.result (get c.args.uncounted.now.contents.now.workstations c.args.name.now) c.workstation.ensures.absent (c.requires refusal.UnknownWorkstation)

pub unwrap-requires-2 : goal.unwrap-requires-2
unwrap-requires-2 c = is_taken c.args.uncounted.now.contents.now c.args.name.now c.args.intervals.now c.in_ok-own.own.items c.in_ok-own.ensures.items c.requires c.replace_intervals.result c.replace_intervals.ensures.refused

pub returns-clause-opens : goal.returns-clause-opens
returns-clause-opens c =
    let items = c.args.intervals.now in
    let found = rw c.unwrap.ensures at c.workstation.ensures.found in
    let is = reopened_in items c.in_ok-own.own.items c.in_ok-own.ensures.items c.in_ok-workstation.workstation c.replace_intervals.new.self c.replace_intervals.result c.unwrap-2.result c.unwrap-2.ensures c.replace_intervals.ensures.ok in
    put_opened c.args.uncounted.now.contents.now c.args.name.now items c.unwrap.result.now c.replace_intervals.new.self (is ∙ ap (reopened items) c.in_ok-workstation.ensures) found.0 found.1
