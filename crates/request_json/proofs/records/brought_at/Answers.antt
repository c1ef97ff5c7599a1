use Rattle.serde_json.specs.View.{view}
use Rattle.std.proofs.Common.{codes, string_bytes}
use Rattle.request_json.proofs.BroughtRecords.{no_records_brings, no_verb_brings, other_brings, records_brought}
use Rattle.request_json.proofs.records.brought_at.Goals as goal

pub returns-in_default : goal.returns-in_default
returns-in_default c = no_verb_brings (view c.args.value.now) c.in_default.ensures

pub returns-in_default-text_at : goal.returns-in_default-text_at
returns-in_default-text_at c = no_records_brings (view c.args.value.now) c.in_default-text_at.ensures

pub returns-in_ok-from_str-in-add : goal.returns-in_ok-from_str-in-add
returns-in_ok-from_str-in-add c =
    records_brought (view c.args.value.now) c.in-Some.verb.now (codes "add") c.in-Some-text_at.records.now (string_bytes c.in_ok-from_str-in-add.field-0) c.in-Some.ensures c.in-Some-text_at.ensures c.in-add.is c.in_ok-from_str-in-add.ensures.ok

pub returns-in_ok-from_str-in-extend : goal.returns-in_ok-from_str-in-extend
returns-in_ok-from_str-in-extend c =
    records_brought (view c.args.value.now) c.in-Some.verb.now (codes "extend") c.in-Some-text_at.records.now (string_bytes c.in_ok-from_str-in-extend.field-0) c.in-Some.ensures c.in-Some-text_at.ensures c.in-extend.is c.in_ok-from_str-in-extend.ensures.ok

pub returns-in_default-verb : goal.returns-in_default-verb
returns-in_default-verb c = other_brings (view c.args.value.now) c.in-Some.verb.now c.in-Some.ensures c.in_default-verb.not-add c.in_default-verb.not-extend
