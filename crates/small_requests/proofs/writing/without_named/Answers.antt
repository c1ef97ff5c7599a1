use Rattle.std.proofs.Common.{sym, ap, subst, ◌∙◌}
use Rattle.plan_model.specs.Ready.{with_mark}
use Rattle.plan_model.specs.Valid.{IsSound}
use Rattle.plan_records.specs.Changes.{revised}
use Rattle.ready_list.specs.Choice.{is_among}
use Rattle.status_rules.specs.declared.Mark.TheVariants as mark
use Rattle.small_requests.proofs.Unnamed.{unnamed}
use Rattle.small_requests.proofs.writing.without_named.Goals as goal

pub mark_all-requires : goal.mark_all-requires
mark_all-requires c =
    let keys = c.args.named.now in
    let P = c.requires.0 in
    let chosen = c.requires.2 in
    subst IsSound (sym (ap (revised (is_among keys) (with_mark mark.Unmarked)) c.requires.3 ∙ unnamed P chosen.0 keys chosen.1)) c.requires.1

pub returns-clause-contents : goal.returns-clause-contents
returns-clause-contents c P chosen is =
    let keys = c.args.named.now in
    c.mark_all.ensures.contents ∙ ap (revised (is_among keys) (with_mark mark.Unmarked)) is ∙ unnamed P chosen.0 keys chosen.1
