use Rattle.std.proofs.Common.{sym, subst, true≢false, arith, take, ◌+◌}
use Rattle.std.specs.List.{AllZip}
use Rattle.std.proofs.lemmas.List.{take_all}
use Rattle.plan_items.specs.Items.{Says}
use Rattle.plan_drafts.specs.Records.{records_of}
use Rattle.plan_denotation.proofs.Denoting.{said_more, said_at}
use Rattle.plan_denotation.proofs.builder.read_items.Goals as goal

pub loop-record-preserved : goal.loop-record-preserved
loop-record-preserved c =
    let said = said_more c.args.records.now c.loop-record.items.items c.loop-record.record-index c.record-item.result c.in-Some.item (omega arith) c.record-item.is c.loop-record.invariant c.in-Some.ensures.value in
    subst (AllZip Says (records_of (take (c.loop-record.record-index + 1) c.args.records.now))) (sym c.in_ok-extend_from_slice.ensures.items) said

pub returns-in_default : goal.returns-in_default
returns-in_default c = λ items all.
    true≢false (sym (c.in_default.ensures.some.1 (said_at c.args.records.now items c.loop-record.record-index c.record-item.result (omega arith) c.record-item.is all)))

pub returns : goal.returns
returns c = subst (λ rs. AllZip Says (records_of rs) c.loop-record.items.items) (take_all c.loop-record.record-index c.args.records.now (omega arith)) c.loop-record.invariant
