use Rattle.std.proofs.Common.{sym, subst, arith, ℕ, ◌+◌, take, Vec, Global}
use Rattle.std.proofs.lemmas.List.{take_all}
use Rattle.plan_items.specs.Items.{fields_of}
use Rattle.record_faults.specs.Sayings.{SaysOrNot, AreSayings, texts_of}
use Rattle.record_faults.proofs.Gathering.{zip_more}
use Rattle.record_faults.proofs.sayings.sayings_of.Goals as goal

pub loop-fields-preserved : goal.loop-fields-preserved
loop-fields-preserved c =
    let i = c.loop-fields.fields-index in
    let one = subst (λ fs. SaysOrNot (fields_of fs) c.item_of.result) c.deref.ensures.value c.item_of.ensures in
    let more = zip_more SaysOrNot (λ (r : Vec (Vec ℕ Global) Global). fields_of r.items) c.args.records.now c.loop-fields.said.items i c.fields-item.result c.item_of.result (omega arith) c.fields-item.is c.loop-fields.invariant one in
    subst (AreSayings (texts_of (take (i + 1) c.args.records.now))) (sym c.in_ok-extend_from_slice.ensures.items) more

pub returns : goal.returns
returns c = subst (λ rs. AreSayings (texts_of rs) c.loop-fields.said.items) (take_all c.loop-fields.fields-index c.args.records.now (omega arith)) c.loop-fields.invariant
