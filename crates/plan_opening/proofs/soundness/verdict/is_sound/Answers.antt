use Rattle.std.proofs.Common.{sym, subst, ◌∙◌, true≢false}
use Rattle.plan_rows.specs.plan_status.specs.Summaries.{AreSummaries}
use Rattle.plan_opening.proofs.soundness.verdict.is_sound.Goals as goal

pub returns-then-not-rows_are_sound-clause-sound : goal.returns-then-not-rows_are_sound-clause-sound
returns-then-not-rows_are_sound-clause-sound c = (
  λ never. absurd (true≢false (sym never)),
  λ sound. absurd (true≢false (sym (c.rows_are_sound.ensures.sound.1 (λ o op is a. sound.marks o op a is, sound.held, sound.deleted)) ∙ c.if-not-rows_are_sound.true)),
)

pub returns-clause-sound : goal.returns-clause-sound
returns-clause-sound c =
    let rows = c.rows_are_sound.ensures.sound.0 c.if-not-rows_are_sound.false in
    let others = c.reports_and_holders_are_sound.ensures in (
      λ yes.
          let all = others.0 yes in
          record {
            valid = c.rows_are_sound.ensures.valid;
            in_order = λ o has. all.0 o has.0 has.1 has.2;
            compatible = λ a b r. all.1 r a b;
            within = all.2;
            held = rows.1;
            marks = λ o op a is. rows.0 o op is a;
            deleted = rows.2;
          },
      λ sound. others.1 (λ o op is reported. sound.in_order o (op, is, reported), λ r a b. sound.compatible a b r, sound.within),
    )

pub standings_of-requires : goal.standings_of-requires
standings_of-requires c = (
  c.args.contents.now,
  record {
    valid = c.rows_are_sound.ensures.valid;
    graph = c.in_ok-graph.ensures;
    summaries = subst (AreSummaries c.args.contents.now) (sym c.deref.ensures.value) c.in_ok-summaries.ensures;
  },
)
