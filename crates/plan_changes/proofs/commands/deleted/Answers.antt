use Rattle.std.proofs.Common.{◌∙◌, ap}
use Rattle.ready_list.specs.Choice.{is_among}
use Rattle.plan_records.specs.plan_model.specs.Ready.{with_mark}
use Rattle.plan_records.specs.status_rules.specs.declared.Mark.TheVariants as mark
use Rattle.plan_changes.proofs.InOccurrence.{is_in, revised_alike}
use Rattle.plan_changes.proofs.Answered.{if_ok}
use Rattle.plan_changes.proofs.commands.deleted.Goals as goal

pub returns : goal.returns
returns c =
    let same = c.deref.ensures.value in
    if_ok c.with_marks.result
    (λ new is. is ∙ revised_alike (is_among c.deref.result.now) (is_in c.args.occurrence.now) (with_mark mark.Deleted) c.args.contents.now (λ o known. ap (λ keys. is_among keys o) same ∙ c.in_ok-keys.ensures o known))
    c.with_marks.ensures
