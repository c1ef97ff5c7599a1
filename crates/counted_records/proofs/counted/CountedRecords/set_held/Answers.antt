use Rattle.std.proofs.Common.{sym, ap, subst, ◌∙◌}
use Rattle.plan_status.specs.plan_model.specs.Contents.{Contents}
use Rattle.plan_status.specs.plan_model.specs.Valid.{IsSound}
use Rattle.plan_changes.specs.plan_records.specs.Changes.{is_at, revised}
use Rattle.counted_records.specs.States.{CountedState}
use Rattle.counted_records.proofs.counted.CountedRecords.set_held.Goals as goal

pub of_rows-requires : goal.of_rows-requires
of_rows-requires c = subst IsSound (sym (c.set_held.ensures ∙ ap (λ (P : Contents). revised (is_at c.args.key.now) (λ op. record op { held = c.args.held }) P) c.into_rows-rows.ensures.contents)) c.requires

pub returns-clause-contents : goal.returns-clause-contents
returns-clause-contents c = ap (λ (s : CountedState). s.contents) c.of_rows.ensures ∙ c.set_held.ensures ∙ ap (λ (P : Contents). revised (is_at c.args.key.now) (λ op. record op { held = c.args.held }) P) c.into_rows-rows.ensures.contents
