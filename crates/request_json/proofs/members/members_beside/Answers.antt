use Rattle.std.proofs.Common.{sym, ◌∙◌}
use Rattle.serde_json.specs.View.{view, members_view}
use Rattle.serde_json.proofs.Views.{members_len-members_view}
use Rattle.request_json.proofs.Counts.{beside}
use Rattle.request_json.proofs.members.members_beside.Goals as goal

pub returns : goal.returns
returns c =
    let entries = c.in_ok-as_object.field-0.now.entries in
    beside (view c.args.value.now) (members_view entries) c.args.others c.len.result c.checked_sub.result c.in_ok-as_object.ensures
    (c.len.ensures.len ∙ sym (members_len-members_view entries)) c.checked_sub.ensures
