use Rattle.std.proofs.Common.{◌≡◌, None, List, ℕ}
use Rattle.desk_serving.specs.Judged.{IsJudgedText}
use Rattle.desk_serving.specs.Shown.{owed_by, value_reply}
use Rattle.desk_serving.proofs.Owed.{shows_made}
use Rattle.desk_serving.proofs.judging.judged_shown.Goals as goal

pub returns : goal.returns
returns g c =
    let d = c.args.desk.now in
    shows_made value_reply (owed_by d.is_usable None) (IsJudgedText d.plan c.args.body.now) c.judged_made.result c.value_shown.result
    c.judged_made.ensures.text c.judged_made.ensures.none_owed c.judged_made.ensures.refused c.value_shown.ensures.shown c.value_shown.ensures.memory
