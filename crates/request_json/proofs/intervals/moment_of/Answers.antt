use Rattle.std.proofs.Common.{◌≡◌, Some}
use Rattle.plan_basics.specs.Minutes.{IsMomentText}
use Rattle.serde_json.specs.Find.{as_str}
use Rattle.serde_json.specs.View.{view}
use Rattle.request_json.proofs.Texts.{value_spelt}
use Rattle.request_json.proofs.intervals.moment_of.Goals as goal

pub returns : goal.returns
returns c =
    let bytes : Some c.as_bytes.result.now ≡ as_str (view c.args.value.now) = cc (c.in_ok-as_str.ensures, c.as_bytes.ensures.value) in
    value_spelt IsMomentText (view c.args.value.now) c.as_bytes.result.now c.from_text.result bytes c.from_text.ensures.some c.from_text.ensures.value
