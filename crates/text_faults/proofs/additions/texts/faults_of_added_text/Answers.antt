use Rattle.std.proofs.Common.{◌≡◌, ap, sym, subst}
use Rattle.record_faults.specs.Sayings.{texts_of}
use Rattle.plan_import.specs.Denoting.{DenotesAdditionsOf, DenotesExtensionsOf}
use Rattle.plan_import.specs.TextRecords.{AreRecordsOf}
use Rattle.text_faults.proofs.DenotedAs.{denoted_as}
use Rattle.text_faults.proofs.additions.texts.faults_of_added_text.Goals as goal

pub returns-clause-exactly : goal.returns-clause-exactly
returns-clause-exactly c =
    let read : c.deref.result.now ≡ c.in_ok-records.field-0.records.items = cc (c.deref.ensures.value, c.in_ok-records.records-is) in
    let same : texts_of c.deref.result.now ≡ texts_of c.in_ok-records.field-0.records.items = ap texts_of read in
    record { records = texts_of c.deref.result.now; read = subst (AreRecordsOf c.args.text.now) (sym same) c.in_ok-records.ensures.records; exactly = c.in_ok-faults.ensures.exactly }

pub returns-clause-none : goal.returns-clause-none
returns-clause-none c =
    let read : c.deref.result.now ≡ c.in_ok-records.field-0.records.items = cc (c.deref.ensures.value, c.in_ok-records.records-is) in
    let same : texts_of c.deref.result.now ≡ texts_of c.in_ok-records.field-0.records.items = ap texts_of read in
    let additions = subst (DenotesAdditionsOf c.args.text.now) (sym same) c.in_ok-records.ensures.additions in
    let extensions = subst (DenotesExtensionsOf c.args.text.now) (sym same) c.in_ok-records.ensures.extensions in
    let denoted = denoted_as c.args.added c.args.text.now (texts_of c.deref.result.now) additions extensions in (
      λ e. let some = c.in_ok-faults.ensures.none.0 e in (some.0, (denoted some.0).1 some.1),
      λ told. c.in_ok-faults.ensures.none.1 (told.0, (denoted told.0).0 told.1),
    )
