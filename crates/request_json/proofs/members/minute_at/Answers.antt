use Rattle.std.proofs.Common.{◌≡◌, Some, option_and_then}
use Rattle.plan_basics.specs.Minutes.{IsMinuteText}
use Rattle.serde_json.specs.Find.{get, as_str}
use Rattle.serde_json.specs.View.{view}
use Rattle.request_json.proofs.Texts.{member_spelt}
use Rattle.request_json.proofs.members.minute_at.Goals as goal

pub returns : goal.returns
returns c =
    let bytes : Some c.as_bytes.result.now ≡ option_and_then as_str (get c.args.name.now (view c.args.value.now)) = cc (c.in_ok-text_at.ensures, c.as_bytes.ensures.value) in
    member_spelt IsMinuteText (get c.args.name.now (view c.args.value.now)) c.as_bytes.result.now c.minute_of_text.result bytes c.minute_of_text.ensures.some c.minute_of_text.ensures.value
