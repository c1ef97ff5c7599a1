use Rattle.record_faults.specs.Sayings.{texts_of}
use Rattle.extension_faults.proofs.InOrder.{each_once, places_up}
use Rattle.extension_faults.proofs.Told.{all_told}
use Rattle.extension_faults.proofs.finding.faults_of_records.Goals as goal

pub returns-clause-exactly : goal.returns-clause-exactly
returns-clause-exactly c =
    all_told c.args.plan.now.plan.contents (texts_of c.args.records.now) c.in_ok-said.said.items c.in_ok-said.ensures c.deref.result.now c.deref.ensures.value c.in_ok-faults.faults.items c.in_ok-faults.ensures.told

pub returns-clause-in_order : goal.returns-clause-in_order
returns-clause-in_order c = places_up _ c.in_ok-faults.faults.items c.in_ok-faults.ensures.in_order

pub returns-clause-once : goal.returns-clause-once
returns-clause-once c = each_once _ c.in_ok-faults.faults.items c.in_ok-faults.ensures.in_order
