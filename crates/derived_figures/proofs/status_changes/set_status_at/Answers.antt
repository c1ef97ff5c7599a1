use Rattle.std.proofs.Common.{arith, ◌≡◌, ◌<◌, ◌∙◌, Some, get_or, length, slice_get}
use Rattle.std.proofs.lemmas.List.{length-set}
use Rattle.std.proofs.lemmas.Map.Entries.{length-keys_of}
use Rattle.std.proofs.lemmas.Option.{slice_get-get_or, slice_get_within}
use Rattle.std.specs.FinMap.{entries, keys}
use Rattle.status_rules.specs.declared.Status.TheVariants as status
use Rattle.derived_figures.proofs.status_changes.set_status_at.Goals as goal
use Rattle.derived_figures.proofs.status_changes.set_status_at.Goals.{Start}

within : (c : Start) → c.args.to.0 < length c.args.statuses.now
within c =
    let P = c.args.uncounted.now.contents.now in
    omega (arith, slice_get_within (keys P.operations) c.args.to.0 _ c.requires.entry.1, length-keys_of (entries P.operations), c.requires.in_line.size)

-- the status that stands there
stood : (c : Start) → slice_get c.args.statuses.now c.args.to.0 ≡ Some (get_or c.args.statuses.now c.args.to.0 status.Started)
stood c = slice_get-get_or c.args.statuses.now c.args.to.0 status.Started (within c)

pub relist-requires : goal.relist-requires
relist-requires c = (c.args.uncounted.now.contents.now, c.args.to.0, c.args.statuses.now, c.requires.entry, stood ((goal.at.relist-requires c).Start), c.requires.in_line.ready, c.requires.room)

pub bounds-statuses-to : goal.bounds-statuses-to
bounds-statuses-to c = within ((goal.at.bounds-statuses-to c).Start)

pub returns-then-ne-clause-in_line : goal.returns-then-ne-clause-in_line
returns-then-ne-clause-in_line c =
    let P = c.args.uncounted.now.contents.now in
    let was = stood ((goal.at.returns-then-ne-clause-in_line c).Start) in
    record {
      size = length-set c.args.statuses.now c.args.to.0 c.args.to.1 ∙ c.requires.in_line.size;
      tallies = c.retally.ensures c.args.to.0 c.args.statuses.now c.requires.entry.1 was c.requires.in_line.tallies;
      ready = c.relist.ensures.listed P c.args.to.0 c.args.statuses.now c.requires.entry was c.requires.in_line.ready;
    }
