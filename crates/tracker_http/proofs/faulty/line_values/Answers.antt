use Rattle.std.proofs.Common.{◌≡◌, ◌∙◌, ap, rules, map, string_bytes}
use Rattle.std.proofs.lemmas.List.{take_all}
use Rattle.serde_json.specs.Data.{string}
use Rattle.serde_json.specs.View.{view}
use Rattle.serde_json.specs.declared.value.Value.{String as StringValue, the_lemmas}
use Rattle.tracker_http.proofs.Faulted.{value_more}
use Rattle.tracker_http.proofs.faulty.line_values.Goals as goal

pub loop-line-preserved : goal.loop-line-preserved
loop-line-preserved c =
    let text = c.in_ok-from_str.field-0 in
    let shown : view (StringValue text) ≡ string (string_bytes text) = search (rules, the_lemmas) in
    rw c.in_ok-push.ensures.items
    (value_more view string_bytes c.loop-line.values.items (StringValue text) c.args.lines.now c.loop-line.line-index c.line-item.result c.loop-line-test.true c.line-item.is (shown ∙ ap string (c.in_ok-from_str.ensures.ok ∙ c.deref.ensures)) c.loop-line.invariant)

pub returns : goal.returns
returns c = c.loop-line.invariant ∙ ap (λ lines. map string (map string_bytes lines)) (take_all c.loop-line.line-index c.args.lines.now c.loop-line-test.false)
