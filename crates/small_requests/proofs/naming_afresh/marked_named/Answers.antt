use Rattle.std.proofs.Common.{◌≡◌, sym, subst, ap, ◌∙◌}
use Rattle.plan_checks.specs.derived_figures.specs.Figures.{AreFigures}
use Rattle.plan_model.specs.Contents.{Contents}
use Rattle.plan_model.specs.Ready.{IsChosen, named}
use Rattle.small_requests.proofs.ColumnParts.{are_figures}
use Rattle.small_requests.proofs.naming_afresh.marked_named.Goals as goal
use Rattle.small_requests.proofs.naming_afresh.marked_named.Goals.{After-with_named-records}
use Rattle.small_requests.specs.Columns.{AreColumnsOf, AreAllocationsOf, IsReadyListOf}
use Rattle.small_requests.specs.Effects.{WereEffectsNamed}

pub with_named-records-requires : goal.with_named-records-requires
with_named-records-requires c = (c.requires.0, subst (IsChosen c.args.records.contents c.requires.0) (sym c.deref.ensures.value) c.requires.3.effects.naming.chosen)

-- what was named is what follows
is_named : (c : After-with_named-records) → c.with_named-records.result.contents ≡ named c.args.effects.naming.named.items c.args.records.contents
is_named c = c.with_named-records.ensures.contents ∙ ap (λ ks. named ks c.args.records.contents) c.deref.ensures.value

pub move_on-requires : goal.move_on-requires
move_on-requires c =
    let (m, edited, starts, was) = c.requires in
    let P = c.args.records.contents in (
      P,
      m,
      edited,
      starts,
      subst (λ (R : Contents). WereEffectsNamed P R m edited starts c.args.columns c.args.ready c.args.effects) (sym (c.uncounted.ensures.contents ∙ is_named ((goal.at.move_on-requires c).After-with_named-records))) was,
    )

pub returns-clause-contents : goal.returns-clause-contents
returns-clause-contents c = is_named ((goal.at.returns-clause-contents c).After-with_named-records)

pub returns-clause-figures : goal.returns-clause-figures
returns-clause-figures c =
    let R = c.with_named-records.result.contents in
    let was = c.requires.3 in
    let columns = subst (λ (Q : Contents). AreColumnsOf Q c.move_on.new.columns) c.uncounted.ensures.contents c.move_on.ensures.columns in
    let ready = subst (λ (Q : Contents). IsReadyListOf Q c.move_on.new.ready) c.uncounted.ensures.contents c.move_on.ensures.ready in
    let allocations = subst (λ (Q : Contents). AreAllocationsOf Q c.args.effects.naming.allocations) (sym (is_named ((goal.at.returns-clause-figures c).After-with_named-records))) was.effects.naming.allocations in
    subst (AreFigures R) (sym c.figures_with-figures.ensures) (are_figures R c.move_on.new.columns c.move_on.new.ready c.args.effects.naming.allocations columns ready allocations)
