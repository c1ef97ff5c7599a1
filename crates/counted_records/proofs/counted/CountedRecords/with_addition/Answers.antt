use Rattle.std.proofs.Common.{sym, ap, subst, ◌∙◌}
use Rattle.plan_changes.specs.Additions.{HasNothingOf}
use Rattle.plan_changes.specs.plan_drafts.specs.Contents.{added_of}
use Rattle.plan_status.specs.plan_model.specs.Contents.{Contents}
use Rattle.plan_status.specs.plan_model.specs.Valid.{IsSound}
use Rattle.plan_changes.specs.plan_records.specs.Changes.{with_added}
use Rattle.counted_records.specs.States.{CountedState}
use Rattle.counted_records.proofs.counted.CountedRecords.with_addition.Goals as goal

pub with_addition-requires-clause-apart : goal.with_addition-requires-clause-apart
with_addition-requires-clause-apart c = subst (λ (P : Contents). HasNothingOf P (added_of c.args.parts.now)) (sym c.into_rows-rows.ensures.contents) c.requires.apart

pub of_rows-requires : goal.of_rows-requires
of_rows-requires c = subst IsSound (sym (c.in-Ok.ensures ∙ ap (λ (P : Contents). with_added P (added_of c.args.parts.now)) c.into_rows-rows.ensures.contents)) c.requires.sound

pub of_rows-requires-in-Err : goal.of_rows-requires-in-Err
of_rows-requires-in-Err c = subst IsSound (sym c.into_rows-rows.ensures.contents) c.uncounted.ensures.sound

pub returns-in-Ok-clause-contents : goal.returns-in-Ok-clause-contents
returns-in-Ok-clause-contents c = ap (λ (s : CountedState). s.contents) c.of_rows.ensures ∙ c.in-Ok.ensures ∙ ap (λ (P : Contents). with_added P (added_of c.args.parts.now)) c.into_rows-rows.ensures.contents
