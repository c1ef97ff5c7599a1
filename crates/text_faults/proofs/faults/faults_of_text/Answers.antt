use Rattle.std.proofs.Common.{◌≡◌, ◌↔◌, ap, sym, subst, List, [], All, Contains, IsSome}
use Rattle.plan_items.specs.Items.{Fields}
use Rattle.record_faults.specs.Faults.{IsFault, DenoteSome}
use Rattle.record_faults.specs.declared.faults.Fault.TheVariants as variant
use Rattle.record_faults.specs.declared.faults.RecordFault.{RecordFault}
use Rattle.record_faults.specs.Sayings.{texts_of}
use Rattle.plan_import.specs.Denoting.{DenotesPlansOf}
use Rattle.plan_import.specs.TextRecords.{AreRecordsOf}
use Rattle.text_faults.proofs.Reading.{denotes}
use Rattle.text_faults.proofs.faults.faults_of_text.Goals as goal

pub returns-clause-faults : goal.returns-clause-faults
returns-clause-faults c =
    let read : c.deref.result.now ≡ c.in_ok-records.field-0.records.items = cc (c.deref.ensures.value, c.in_ok-records.records-is) in
    let same : texts_of c.deref.result.now ≡ texts_of c.in_ok-records.field-0.records.items = ap texts_of read in
    record {
      records = texts_of c.deref.result.now;
      read = subst (AreRecordsOf c.args.text.now) (sym same) c.in_ok-records.ensures.records;
      sound = c.in_ok-faults.ensures.faults;
      complete = c.in_ok-faults.ensures.each;
    }

pub returns-clause-none : goal.returns-clause-none
returns-clause-none c =
    let read : c.deref.result.now ≡ c.in_ok-records.field-0.records.items = cc (c.deref.ensures.value, c.in_ok-records.records-is) in
    let same : texts_of c.deref.result.now ≡ texts_of c.in_ok-records.field-0.records.items = ap texts_of read in
    let plans = subst (DenotesPlansOf c.args.text.now) (sym same) c.in_ok-records.ensures.plans in
    let some = denotes c.args.text.now (texts_of c.deref.result.now) plans in
    (λ e. some.0 (c.in_ok-faults.ensures.none.0 e), λ told. c.in_ok-faults.ensures.none.1 (some.1 told))

pub circle_told-requires-clause-faults : goal.circle_told-requires-clause-faults
circle_told-requires-clause-faults c =
    let records : texts_of c.deref.result.now ≡ texts_of c.deref-2.result.now = ap texts_of (cc (c.deref.ensures.value, c.deref-2.ensures.value)) in
    let told = subst (λ (fs : List RecordFault). All (λ (f : RecordFault). IsFault (texts_of c.deref.result.now) f.place f.fault) fs) (sym c.deref-3.ensures.value) c.in_ok-faults.ensures.faults in
    subst (λ (rs : List Fields). All (λ (f : RecordFault). IsFault rs f.place f.fault) c.deref-3.result.now) records told

pub circle_told-requires-clause-none : goal.circle_told-requires-clause-none
circle_told-requires-clause-none c =
    let records : texts_of c.deref.result.now ≡ texts_of c.deref-2.result.now = ap texts_of (cc (c.deref.ensures.value, c.deref-2.ensures.value)) in
    let told = subst (λ (fs : List RecordFault). (fs ≡ []) ↔ DenoteSome (texts_of c.deref.result.now)) (sym c.deref-3.ensures.value) c.in_ok-faults.ensures.none in
    subst (λ (rs : List Fields). (c.deref-3.result.now ≡ []) ↔ DenoteSome rs) records told

pub returns-clause-told : goal.returns-clause-told
returns-clause-told c = subst (λ (fs : List RecordFault). (f : RecordFault) → Contains fs f → f.fault ≡ variant.Returns → IsSome c.in_ok-circle.circle) c.deref-3.ensures.value c.in_ok-circle.ensures.told
