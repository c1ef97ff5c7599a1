use Rattle.std.proofs.Common.{◌≡◌, sym, subst, ◌+◌, ◌≤◌, IfOk, length}
use Rattle.plan_checks.specs.start_choice.specs.Choices.{AreLatestStarts}
use Rattle.plan_model.specs.Contents.{Contents}
use Rattle.plan_checks.specs.derived_figures.specs.UnknownPlaces.{unknown_places}
use Rattle.small_requests.proofs.MadeSteps.{step_of}
use Rattle.small_requests.proofs.named_steps.named_step.Goals as goal
use Rattle.small_requests.specs.Columns.{AreColumnsOf, IsReadyListOf}
use Rattle.small_requests.specs.Effects.{AreNamingEffects}
use Rattle.small_requests.specs.Naming.{IsStepOf}
use Rattle.small_requests.specs.declared.naming_effects.NamingEffects.{NamingEffects}

pub returns-in-Ok-clause-step : goal.returns-in-Ok-clause-step
returns-in-Ok-clause-step c =
    let Q = c.args.records.contents in
    let S = c.naming_effects-same.result.0.contents in
    let back : Q ≡ S = sym c.naming_effects-same.ensures.contents in
    let m = c.args.context.now.at in
    let edited = c.args.edited.places.now in
    let l = c.args.columns.now in
    let r = c.args.ready.now in
    let starts = c.args.context.now.latest.now.starts in
    let f = c.in-Ok.effects in
    let before = c.args.records.looks in
    let between = c.naming_effects-same.result.0.looks in
    let told = c.naming_effects-same.ensures in
    let noted = c.note_step.ensures in
    let effects = subst (λ x. IfOk x (AreNamingEffects Q m edited l)) c.in-Ok.is told.effects in
    let later = subst (λ x. IfOk x (λ (g : NamingEffects). before ≤ between)) c.in-Ok.is told.fewest in
    let asked = subst (λ x. IfOk x (λ (g : NamingEffects). between ≤ before + length r.entries + length (unknown_places edited g.touched.items))) c.in-Ok.is told.most in
    subst (λ (Z : Contents). IfOk c.note_step.result.1 (IsStepOf Z m edited c.args.edited.facilities before c.note_step.result.0.looks)) told.contents
    (step_of S m edited l f (subst (λ (Z : Contents). AreNamingEffects Z m edited l f) back effects) (subst (λ (Z : Contents). AreColumnsOf Z l) back c.requires.columns)
    starts (subst (λ (Z : Contents). AreLatestStarts Z starts) back c.requires.latest) r (subst (λ (Z : Contents). IsReadyListOf Z r) back c.requires.ready) c.args.edited.facilities
    before between c.note_step.result.0.looks later asked noted.most c.note_step.result.1 noted.named noted.allocations noted.entries noted.columns_then noted.notes noted.all_noted noted.least)
