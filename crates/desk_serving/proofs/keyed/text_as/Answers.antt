use Rattle.std.proofs.Common.{◌∙◌, ap}
use Rattle.std.proofs.lemmas.Result.{IfOk-weaker}
use Rattle.http_messages.specs.Replies.{page_reply}
use Rattle.http_messages.specs.declared.statuses.Status.TheVariants as status
use Rattle.desk_serving.proofs.keyed.text_as.Goals as goal

pub returns : goal.returns
returns c =
    let page = c.deref.ensures.value ∙ c.in_ok-page.ensures in
    rw c.if-not-as_page.false
    (IfOk-weaker c.page_reply_bytes.result _ _ (λ output made. made ∙ ap (page_reply status.Success) page) c.page_reply_bytes.ensures)
