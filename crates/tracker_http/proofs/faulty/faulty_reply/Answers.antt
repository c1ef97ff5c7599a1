use Rattle.std.proofs.Common.{◌≡◌, ◌∙◌, ap, sym, map, string_bytes, false, subst}
use Rattle.std.proofs.lemmas.Result.{IfOk-weaker}
use Rattle.http_messages.specs.Replies.{reply}
use Rattle.http_messages.specs.declared.statuses.Status.TheVariants as status
use Rattle.serde_json.specs.Data.{Data, string}
use Rattle.serde_json.specs.Written.{compact_text, has_float}
use Rattle.tracker_http.specs.Faulty.{faulty_data}
use Rattle.tracker_http.proofs.Faulted.{faulty_plain}
use Rattle.tracker_http.proofs.faulty.faulty_reply.Goals as goal

pub value_text-requires : goal.value_text-requires
value_text-requires c =
    let is = c.in_ok-value.ensures ∙ ap (faulty_data c.code.result) c.in_ok-values.ensures in
    subst (λ (d : Data). has_float d ≡ false) (sym is) (faulty_plain c.code.result (map string_bytes c.args.lines.now))

pub returns : goal.returns
returns c =
    let value = c.in_ok-value.ensures ∙ ap (faulty_data c.code.result) c.in_ok-values.ensures ∙ ap (λ code. faulty_data code (map string (map string_bytes c.args.lines.now))) c.code.ensures in
    let text = c.deref.ensures.value ∙ c.in_ok-text.ensures ∙ ap compact_text value in
    IfOk-weaker c.reply_bytes.result _ _ (λ output made. made ∙ ap (reply status.BadRequest) text) c.reply_bytes.ensures
