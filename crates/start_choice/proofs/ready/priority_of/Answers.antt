use Rattle.std.proofs.Common.{refl}
use Rattle.std.specs.FinMap.{get}
use Rattle.counted_records.specs.plan_status.proofs.LoadedRows.{its_occurrence}
use Rattle.counted_records.specs.plan_status.proofs.Workplaces.{there}
use Rattle.start_choice.proofs.ready.priority_of.Goals as goal

pub unwrap-requires : goal.unwrap-requires
unwrap-requires c =
    let P = c.args.uncounted.now.contents.now in
    let key = c.args.key.now in
    there c.occurrence_near.result (get P.occurrences key.occurrence) c.occurrence_near.ensures.absent (its_occurrence P c.occurrence_near.ensures.sound.valid key c.requires.0 c.requires.1)

pub returns : goal.returns
returns c = (c.unwrap.result.now, rw c.unwrap.ensures at c.occurrence_near.ensures.found, refl)
