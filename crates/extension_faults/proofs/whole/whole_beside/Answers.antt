use Rattle.std.proofs.Common.{◌≡◌, ap, sym, subst}
use Rattle.plan_import.specs.TextRecords.{AreRecordsOf}
use Rattle.record_faults.specs.Sayings.{texts_of}
use Rattle.extension_faults.proofs.ToldPaths.{found_in_text}
use Rattle.extension_faults.proofs.whole.whole_beside.Goals as goal

pub returns-clause-circle : goal.returns-clause-circle
returns-clause-circle c =
    let read : c.deref.result.now ≡ c.in_ok-records.field-0.records.items = cc (c.deref.ensures.value, c.in_ok-records.records-is) in
    let same : texts_of c.deref.result.now ≡ texts_of c.in_ok-records.field-0.records.items = ap texts_of read in
    found_in_text c.args.plan.now.plan.contents c.args.text.now (texts_of c.deref.result.now) c.in_ok-circle.circle (subst (AreRecordsOf c.args.text.now) (sym same) c.in_ok-records.ensures.records) c.in_ok-circle.ensures

pub returns-clause-exactly : goal.returns-clause-exactly
returns-clause-exactly c =
    let read : c.deref-2.result.now ≡ c.in_ok-records.field-0.records.items = cc (c.deref-2.ensures.value, c.in_ok-records.records-is) in
    let same : texts_of c.deref-2.result.now ≡ texts_of c.in_ok-records.field-0.records.items = ap texts_of read in
    (texts_of c.deref-2.result.now, subst (AreRecordsOf c.args.text.now) (sym same) c.in_ok-records.ensures.records, c.in_ok-faults.ensures)
