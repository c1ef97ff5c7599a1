use Rattle.std.proofs.Common.{◌≡◌, sym, ap, subst, ◌∙◌}
use Rattle.plan_checks.specs.plan_laws.proofs.Kept.{choice_keeps_sound}
use Rattle.plan_model.specs.Contents.{Contents}
use Rattle.plan_model.specs.Ready.{named}
use Rattle.plan_model.specs.Valid.{IsSound}
use Rattle.small_requests.proofs.writing.stepped.Goals as goal
use Rattle.small_requests.specs.Revisions.{HasPlaceFor, written}

pub write-requires : goal.write-requires
write-requires c = subst (λ (P : Contents). HasPlaceFor P c.args.revision) (sym c.into_rows-rows.ensures.contents) c.requires.has_place

pub of-requires : goal.of-requires
of-requires c =
    let Q = written c.args.keys.now c.args.revision c.args.contents in
    let is : c.write.new.contents ≡ Q = c.write.ensures ∙ ap (written c.args.keys.now c.args.revision) c.into_rows-rows.ensures.contents in
    subst IsSound (sym (c.mark_all.ensures ∙ ap (named c.args.named.now) is)) (choice_keeps_sound Q c.requires.chosen.0 c.args.named.now c.requires.sound c.requires.chosen.1)
