use Rattle.std.proofs.Common.{◌<◌, arith, length, Some, None}
use Rattle.plan_items.specs.Items.{fields_of}
use Rattle.record_faults.specs.Sayings.{SaysOrNot, texts_of}
use Rattle.record_faults.proofs.Gathering.{at_read}
use Rattle.record_faults.proofs.Telling.{zip_at, zip_length, text_read, text_count, not_silent, silent}
use Rattle.record_faults.proofs.finders.silence.Goals as goal

pub bounds-records-place : goal.bounds-records-place
bounds-records-place c = omega (arith, zip_length SaysOrNot (texts_of c.args.records.now) c.args.said.now c.requires.said, text_count c.args.records.now)

pub shape_of-requires-in-None : goal.shape_of-requires-in-None
shape_of-requires-in-None c =
    let lt : c.args.place < length c.args.records.now = omega (arith, zip_length SaysOrNot (texts_of c.args.records.now) c.args.said.now c.requires.said, text_count c.args.records.now) in
    let text = text_read c.args.records.now c.args.place c.index-records-place.result c.deref.result.now lt c.index-records-place.is c.deref.ensures.value in
    zip_at SaysOrNot (texts_of c.args.records.now) c.args.said.now c.args.place (fields_of c.deref.result.now) None c.requires.said text (at_read c.args.said.now c.args.place _ None c.requires.place c.in-None.is)

pub returns-in-Some : goal.returns-in-Some
returns-in-Some c = not_silent (texts_of c.args.records.now) c.args.said.now c.args.place c.in-Some.field-0 (at_read c.args.said.now c.args.place _ (Some c.in-Some.field-0) c.requires.place c.in-Some.is)

pub returns-in-None : goal.returns-in-None
returns-in-None c =
    let lt : c.args.place < length c.args.records.now = omega (arith, zip_length SaysOrNot (texts_of c.args.records.now) c.args.said.now c.requires.said, text_count c.args.records.now) in
    let text = text_read c.args.records.now c.args.place c.index-records-place.result c.deref.result.now lt c.index-records-place.is c.deref.ensures.value in
    silent (texts_of c.args.records.now) c.args.said.now c.args.place (fields_of c.deref.result.now) c.shape_of.result text (at_read c.args.said.now c.args.place _ None c.requires.place c.in-None.is) c.shape_of.ensures
