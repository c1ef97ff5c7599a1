use Rattle.small_requests.proofs.steps.undo_of.Goals as goal

pub standing-requires : goal.standing-requires
standing-requires c = c.requires.edit.has_place

pub returns-clause-back : goal.returns-clause-back
returns-clause-back c = c.in_ok-back.ensures

pub returns-clause-allocations : goal.returns-clause-allocations
returns-clause-allocations c = c.in_ok-allocations.ensures.allocations c.args.records.now.contents c.requires.allocations
