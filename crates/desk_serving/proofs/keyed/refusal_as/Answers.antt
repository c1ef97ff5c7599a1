use Rattle.std.proofs.Common.{◌≡◌, ◌∙◌, ap, List, ℕ, false}
use Rattle.std.proofs.lemmas.Result.{IfOk-weaker}
use Rattle.html_pages.specs.Looks.{look_parts}
use Rattle.html_pages.specs.Pieces.{bytes}
use Rattle.http_messages.specs.Replies.{page_reply}
use Rattle.http_messages.specs.declared.statuses.Status.{Status}
use Rattle.plan_basics.specs.Refusals.{name_of}
use Rattle.tracker_http.specs.Told.{status_of_refusal}
use Rattle.desk_serving.proofs.keyed.refusal_as.Goals as goal

pub returns : goal.returns
returns c =
    let name = c.as_bytes-name.ensures.value ∙ c.name.ensures in
    let page = c.deref.ensures.value ∙ c.in_ok-page.ensures ∙ ap (λ (n : List ℕ). bytes (look_parts n false n)) name in
    rw c.if-not-as_page.false
    (IfOk-weaker c.page_reply_bytes.result _ _
    (λ output made. made ∙ ap (λ (s : Status). page_reply s c.deref.result.now) c.status.ensures ∙ ap (page_reply (status_of_refusal c.args.refusal)) page)
    c.page_reply_bytes.ensures)
