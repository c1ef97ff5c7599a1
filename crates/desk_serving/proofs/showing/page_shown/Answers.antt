use Rattle.std.proofs.Common.{◌≡◌, ◌∙◌, ap, None, List, ℕ}
use Rattle.std.proofs.lemmas.Result.{IfOk-weaker}
use Rattle.http_messages.specs.Replies.{page_reply, text_reply}
use Rattle.http_messages.specs.declared.statuses.Status.TheVariants as status
use Rattle.plan_reports.specs.plan_shows.specs.Values.{health_data, started_refusal_of, IsStartedText}
use Rattle.plan_reports.specs.Reports.{refusal_of, IsErrorReport, IsLateReport, IsOccurrenceReport}
use Rattle.serde_json.specs.Written.{compact_text}
use Rattle.desk_serving.specs.Shown.{owed_by, stood_in, value_reply}
use Rattle.desk_serving.proofs.Owed.{shows_made}
use Rattle.desk_serving.proofs.showing.page_shown.Goals as goal

pub returns-in_ok-front_page-in-Front : goal.returns-in_ok-front_page-in-Front
returns-in_ok-front_page-in-Front g c =
    rw c.in-Front.is
    (IfOk-weaker c.page_reply_bytes.result _ _
    (λ output made. made ∙ ap (page_reply status.Success) (c.deref.ensures.value ∙ c.in_ok-front_page-in-Front.ensures))
    c.page_reply_bytes.ensures)

pub returns-in-Occurrences : goal.returns-in-Occurrences
returns-in-Occurrences g c =
    let d = c.args.desk.now in
    rw c.in-Occurrences.is
    (shows_made text_reply (refusal_of d.is_usable d.plan) (IsOccurrenceReport d.plan) c.occurrences_made.result c.text_shown.result
    c.occurrences_made.ensures.text c.occurrences_made.ensures.none_owed c.occurrences_made.ensures.refused c.text_shown.ensures.shown c.text_shown.ensures.memory)

pub returns-in-Errors : goal.returns-in-Errors
returns-in-Errors g c =
    let d = c.args.desk.now in
    rw c.in-Errors.is
    (shows_made text_reply (refusal_of d.is_usable d.plan) (IsErrorReport d.plan) c.errors_made.result c.text_shown-in-Errors.result
    c.errors_made.ensures.text c.errors_made.ensures.none_owed c.errors_made.ensures.refused c.text_shown-in-Errors.ensures.shown c.text_shown-in-Errors.ensures.memory)

pub returns-in-Late : goal.returns-in-Late
returns-in-Late g c =
    let d = c.args.desk.now in
    rw c.in-Late.is
    (shows_made text_reply (refusal_of d.is_usable d.plan) (IsLateReport d.plan) c.late_made.result c.text_shown-in-Late.result
    c.late_made.ensures.text c.late_made.ensures.none_owed c.late_made.ensures.refused c.text_shown-in-Late.ensures.shown c.text_shown-in-Late.ensures.memory)

pub returns-in-Started : goal.returns-in-Started
returns-in-Started g c =
    let d = c.args.desk.now in
    rw c.in-Started.is
    (shows_made value_reply (owed_by d.is_usable (started_refusal_of None d.plan)) (IsStartedText None d.plan) c.started_made.result c.value_shown.result
    c.started_made.ensures.text c.started_made.ensures.none_owed c.started_made.ensures.refused c.value_shown.ensures.shown c.value_shown.ensures.memory)

pub returns-in-Health : goal.returns-in-Health
returns-in-Health g c =
    let d = c.args.desk.now in
    rw c.in-Health.is
    (shows_made value_reply (owed_by d.is_usable None) (λ (text : List ℕ). text ≡ compact_text (health_data (stood_in c.args.terms.now.watch) d.plan)) c.health_made.result c.value_shown-in-Health.result
    (rw c.stood_in.ensures at c.health_made.ensures.text) c.health_made.ensures.none_owed c.health_made.ensures.refused c.value_shown-in-Health.ensures.shown c.value_shown-in-Health.ensures.memory)
