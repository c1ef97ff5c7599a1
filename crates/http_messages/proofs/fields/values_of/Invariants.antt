use Rattle.std.proofs.Common.{map, take}
use Rattle.httparse.specs.Spans.{header_bytes}
use Rattle.http_messages.specs.Fields.{values_of}
use Rattle.http_messages.specs.Heads.{AreValues}
use Rattle.http_messages.proofs.fields.values_of.Given as goal

abbrev pub invariant-loop-header : goal.invariant-loop-header
invariant-loop-header l = AreValues (values_of l.name (map (header_bytes l.bytes) (take l.header-index l.headers))) l.values
