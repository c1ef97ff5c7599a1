use Rattle.http_messages.specs.Replies.{text_reply}
use Rattle.plan_reports.specs.plan_shows.specs.Shows.{IsShow}
use Rattle.plan_reports.specs.Reports.{desk_show_refusal_of}
use Rattle.desk_serving.proofs.Owed.{shows_made}
use Rattle.desk_serving.proofs.showing.show_shown.Goals as goal

pub returns : goal.returns
returns g c =
    let d = c.args.desk.now in
    let s = c.args.show.now in
    shows_made text_reply (desk_show_refusal_of d.is_usable s d.plan) (IsShow s d.plan d.receipts) c.show_made.result c.text_shown.result
    c.show_made.ensures.text c.show_made.ensures.none_owed c.show_made.ensures.refused c.text_shown.ensures.shown c.text_shown.ensures.memory
