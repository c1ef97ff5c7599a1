use Rattle.std.proofs.Common.{◌≡◌, sym, subst, ap, ◌∙◌}
use Rattle.plan_model.specs.Ready.{IsChosen, named}
use Rattle.small_requests.proofs.named_steps.note_step.Goals as goal
use Rattle.small_requests.proofs.named_steps.note_step.Goals.{After-with_named-after}
use Rattle.small_requests.specs.Effects.{WereEffectsNamed}

pub with_named-after-requires : goal.with_named-after-requires
with_named-after-requires c = (c.requires.effects.0, subst (IsChosen c.args.records.contents c.requires.effects.0) (sym c.deref.ensures.value) c.requires.effects.3.naming.chosen)

-- what was named is what follows
is_named : (c : After-with_named-after) → c.with_named-after.result.contents ≡ named c.args.effects.naming.named.items c.args.records.contents
is_named c = c.with_named-after.ensures.contents ∙ ap (λ ks. named ks c.args.records.contents) c.deref.ensures.value

were_effects_named : (c : After-with_named-after) → WereEffectsNamed c.args.records.contents c.with_named-after.result.contents c.requires.effects.0 c.requires.effects.1 c.args.context.now.latest.now.starts c.args.columns.now c.args.ready.now c.args.effects
were_effects_named c = record {
  effects = c.requires.effects.3;
  places = c.requires.effects.2;
  latest = c.requires.latest;
  columns = c.requires.columns;
  ready = c.requires.ready;
  after = is_named c;
}

pub note-noted-requires : goal.note-noted-requires
note-noted-requires c = (c.args.records.contents, c.requires.effects.0, c.requires.effects.1, were_effects_named (goal.at.note-noted-requires c).After-with_named-after)

pub without_named-same-requires : goal.without_named-same-requires
without_named-same-requires c =
    let P = c.args.records.contents in
    let naming = c.requires.effects.3.naming in
    let back = sym c.deref-2.ensures.value in (
      P,
      naming.sound,
      (c.requires.effects.0, subst (IsChosen P c.requires.effects.0) back naming.chosen),
      c.note-noted.ensures.contents ∙ is_named (goal.at.without_named-same-requires c).After-with_named-after ∙ ap (λ ks. named ks P) back,
    )

pub returns-in-Ok-clause-ready : goal.returns-in-Ok-clause-ready
returns-in-Ok-clause-ready c = c.note-noted.ensures.ready c.args.records.contents c.requires.effects.0 c.requires.effects.1 (were_effects_named (goal.at.returns-in-Ok-clause-ready c).After-with_named-after)

pub returns-in-Err-clause-ready : goal.returns-in-Err-clause-ready
returns-in-Err-clause-ready c = c.note-noted.ensures.ready c.args.records.contents c.requires.effects.0 c.requires.effects.1 (were_effects_named (goal.at.returns-in-Err-clause-ready c).After-with_named-after)
