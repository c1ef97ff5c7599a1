use Rattle.std.proofs.Common.{◌≡◌, ap, sym, subst}
use Rattle.record_faults.specs.Sayings.{texts_of}
use Rattle.plan_import.specs.TextRecords.{AreRecordsOf}
use Rattle.extension_faults.proofs.warning.never_starting_of.Goals as goal

pub returns-clause-exactly : goal.returns-clause-exactly
returns-clause-exactly c =
    let read : c.deref.result.now ≡ c.in_ok-records.field-0.records.items = cc (c.deref.ensures.value, c.in_ok-records.records-is) in
    let same : texts_of c.deref.result.now ≡ texts_of c.in_ok-records.field-0.records.items = ap texts_of read in
    record {
      records = texts_of c.deref.result.now;
      read = subst (AreRecordsOf c.args.text.now) (sym same) c.in_ok-records.ensures.records;
      exactly = c.in_ok-places.ensures;
    }
