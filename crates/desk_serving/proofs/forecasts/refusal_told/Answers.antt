use Rattle.std.proofs.Common.{◌∙◌, ap}
use Rattle.std.proofs.lemmas.Result.{IfOk-weaker}
use Rattle.http_messages.specs.Replies.{page_reply}
use Rattle.http_messages.specs.declared.statuses.Status.{Status}
use Rattle.tracker_http.specs.Told.{status_of_refusal}
use Rattle.desk_serving.proofs.forecasts.refusal_told.Goals as goal

pub returns : goal.returns
returns c =
    let page = c.deref.ensures.value ∙ c.in_ok-page.ensures in
    IfOk-weaker c.page_reply_bytes.result _ _
    (λ output made. made ∙ ap (λ (s : Status). page_reply s c.deref.result.now) c.status.ensures ∙ ap (page_reply (status_of_refusal c.args.refusal)) page)
    c.page_reply_bytes.ensures
