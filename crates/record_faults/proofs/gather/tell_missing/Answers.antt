use Rattle.record_faults.proofs.Gathering.{tell_after, once_after}
use Rattle.record_faults.proofs.gather.tell_missing.Goals as goal

pub returns-clause-told : goal.returns-clause-told
returns-clause-told c = tell_after c.args.group c.args.reading.now.said.items c.as_slice-said.result.now c.as_slice-said.ensures.value c.args.faults.now.items c.tell.new.faults.items c.missing.result c.missing.ensures c.tell.result c.tell.ensures.told

pub returns-clause-once : goal.returns-clause-once
returns-clause-once c = once_after c.args.group c.args.reading.now.said.items c.as_slice-said.result.now c.as_slice-said.ensures.value c.args.faults.now.items c.tell.new.faults.items c.missing.result c.missing.ensures c.tell.result c.tell.ensures.once
