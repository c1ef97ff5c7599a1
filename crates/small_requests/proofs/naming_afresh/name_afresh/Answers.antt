use Rattle.std.proofs.Common.{◌≡◌, ◌∙◌, refl, sym, subst, ap, arith, length, ◌≤◌, ◌+◌, IfOk}
use Rattle.plan_checks.specs.derived_figures.specs.Figures.{AreFigures, KeepsFrame}
use Rattle.plan_checks.specs.derived_figures.specs.declared.figures.Figures.{Figures}
use Rattle.plan_checks.specs.start_choice.specs.Choices.{AreLatestStarts}
use Rattle.plan_checks.specs.plan_status.specs.Summaries.{AreSummaries}
use Rattle.plan_model.specs.Contents.{Contents}
use Rattle.plan_model.specs.Ready.{IsChosen, named}
use Rattle.small_requests.proofs.ColumnParts.{are_columns, are_allocations, is_list}
use Rattle.small_requests.proofs.NamedFigures.{naming_alike, naming_moved}
use Rattle.small_requests.proofs.OneFrame.{frame_stays}
use Rattle.small_requests.proofs.naming_afresh.name_afresh.Goals as goal
use Rattle.small_requests.proofs.naming_afresh.name_afresh.Goals.{In-Ok}
use Rattle.small_requests.specs.Columns.{AreColumnsOf, IsReadyListOf, figures_of}
use Rattle.small_requests.specs.Effects.{AreNamingEffects, WereEffectsNamed}
use Rattle.small_requests.specs.Naming.{IsNaming}
use Rattle.small_requests.specs.declared.namings.Naming.{Naming}

pub choose_named-records-requires-clause-ready : goal.choose_named-records-requires-clause-ready
choose_named-records-requires-clause-ready c =
    let P = c.args.records.contents in
    is_list P c.parts_of-columns.result.0 c.parts_of-columns.result.1 c.parts_of-columns.result.2 (subst (AreFigures P) (sym c.parts_of-columns.ensures) c.requires.figures)

pub choose_named-records-requires-clause-allocations : goal.choose_named-records-requires-clause-allocations
choose_named-records-requires-clause-allocations c =
    let P = c.args.records.contents in
    are_allocations P c.parts_of-columns.result.0 c.parts_of-columns.result.1 c.parts_of-columns.result.2 (subst (AreFigures P) (sym c.parts_of-columns.ensures) c.requires.figures)

pub effects_by_summaries-requires-clause-latest : goal.effects_by_summaries-requires-clause-latest
effects_by_summaries-requires-clause-latest c = subst (λ (Q : Contents). AreLatestStarts Q c.args.context.now.latest.now.starts) (sym c.choose_named-records.ensures.contents) c.requires.latest

pub effects_by_summaries-requires-clause-columns : goal.effects_by_summaries-requires-clause-columns
effects_by_summaries-requires-clause-columns c =
    let P = c.args.records.contents in
    let l = c.parts_of-columns.result.0 in
    subst (λ (Q : Contents). AreColumnsOf Q l) (sym c.choose_named-records.ensures.contents) (are_columns P l c.parts_of-columns.result.1 c.parts_of-columns.result.2 (subst (AreFigures P) (sym c.parts_of-columns.ensures) c.requires.figures))

pub effects_by_summaries-requires-clause-naming : goal.effects_by_summaries-requires-clause-naming
effects_by_summaries-requires-clause-naming c = subst (λ (Q : Contents). IfOk c.choose_named-records.result.1 (IsNaming Q c.args.context.now.at)) (sym c.choose_named-records.ensures.contents) c.choose_named-records.ensures.naming

pub effects_by_summaries-requires-clause-summaries : goal.effects_by_summaries-requires-clause-summaries
effects_by_summaries-requires-clause-summaries c = subst (λ (Q : Contents). AreSummaries Q c.args.summaries.now) (sym c.choose_named-records.ensures.contents) c.requires.summaries

module _ (c : In-Ok) where
  abbrev P : Contents
  P = c.args.records.contents

  -- the records then hold what they held
  abbrev H : Contents
  H = c.effects_by_summaries.new.records.contents

  same : H ≡ P
  same = c.in-Ok.ensures.contents ∙ c.choose_named-records.ensures.contents

  follows : AreNamingEffects P c.args.context.now.at c.in-Ok.effects.naming.places.items c.parts_of-columns.result.0 c.in-Ok.effects
  follows = subst (λ (Q : Contents). AreNamingEffects Q c.args.context.now.at c.in-Ok.effects.naming.places.items c.parts_of-columns.result.0 c.in-Ok.effects) c.choose_named-records.ensures.contents c.in-Ok.ensures.effects

  was : WereEffectsNamed P (named c.in-Ok.effects.naming.named.items P) c.args.context.now.at c.in-Ok.effects.naming.places.items c.args.context.now.latest.now.starts c.parts_of-columns.result.0 c.parts_of-columns.result.1 c.in-Ok.effects
  was =
      let l = c.parts_of-columns.result.0 in
      let r = c.parts_of-columns.result.1 in
      let s = c.parts_of-columns.result.2 in
      let are = subst (AreFigures P) (sym c.parts_of-columns.ensures) c.requires.figures in
      let at = follows.naming.places in
      record {
        effects = follows;
        places = record { ascend = at.ascend; within = at.within };
        latest = c.requires.latest;
        columns = are_columns P l r s are;
        ready = is_list P l r s are;
        after = refl;
      }

pub marked_named-records-requires : goal.marked_named-records-requires
marked_named-records-requires c =
    let at = (goal.at.marked_named-records-requires c).In-Ok in
    let m = c.args.context.now.at in
    let starts = c.args.context.now.latest.now.starts in
    let places = c.in-Ok.effects.naming.places.items in (
      m,
      places,
      starts,
      subst (λ (Q : Contents). WereEffectsNamed Q (named c.in-Ok.effects.naming.named.items Q) m places starts c.parts_of-columns.result.0 c.parts_of-columns.result.1 c.in-Ok.effects) (sym (same at)) (was at),
    )

pub returns-in-Ok-clause-chosen : goal.returns-in-Ok-clause-chosen
returns-in-Ok-clause-chosen c =
    let at = (goal.at.returns-in-Ok-clause-chosen c).In-Ok in
    subst (λ named. IsChosen (P at) c.args.context.now.at named.items) (sym c.marked_named-records.ensures.named) (follows at).naming.chosen

pub returns-in-Ok-clause-contents : goal.returns-in-Ok-clause-contents
returns-in-Ok-clause-contents c =
    let at = (goal.at.returns-in-Ok-clause-contents c).In-Ok in
    c.marked_named-records.ensures.contents ∙ ap (named c.in-Ok.effects.naming.named.items) (same at) ∙ ap (λ ks. named ks.items (P at)) (sym c.marked_named-records.ensures.named)

-- marks change alone, and what is named was live and stays so
pub returns-in-Ok-clause-frame : goal.returns-in-Ok-clause-frame
returns-in-Ok-clause-frame c =
    let at = (goal.at.returns-in-Ok-clause-frame c).In-Ok in
    let n = (follows at).naming in
    let m = c.args.context.now.at in
    let os = c.in-Ok.effects.naming.named.items in
    let places = c.in-Ok.effects.naming.places.items in
    let stays = frame_stays (P at) (named os (P at)) places (naming_moved (P at) m os n.chosen places n.places) (naming_alike (P at) m os n.chosen places n.places) in
    subst (KeepsFrame (P at)) (sym (c.marked_named-records.ensures.contents ∙ ap (named os) (same at))) (record { graph = stays.graph; latest = stays.latest })

pub returns-in-Ok-clause-most : goal.returns-in-Ok-clause-most
returns-in-Ok-clause-most c =
    let listed = ap (λ (f : Figures). length f.ready.entries) c.parts_of-columns.ensures in
    let most = c.in-Ok.ensures.most (c.args.records.looks + length c.parts_of-columns.result.1.entries) c.choose_named-records.ensures.most in
    omega (arith, c.marked_named-records.ensures.looks, most, listed)
