use Rattle.std.proofs.Common.{◌≡◌, refl, sym, ◌∙◌, ap, subst, true≢false, arith, slice_get, Some}
use Rattle.std.proofs.lemmas.Option.{slice_get-get_or, same_Some}
use Rattle.plan_basics.proofs.Members.{at_place}
use Rattle.plan_basics.specs.declared.Attr.TheVariants.{Automatic}
use Rattle.plan_checks.proofs.Searching.{none_more}
use Rattle.derived_figures.specs.start_choice.specs.Choices.{AreReadyEntries}
use Rattle.plan_forecast.specs.Ahead.{MayBegin}
use Rattle.plan_model.specs.Contents.{Contents}
use Rattle.forecasting.proofs.Listing.{none_left}
use Rattle.forecasting.proofs.starting.starts_by_itself.Goals as goal

pub returns-then-entry_begins : goal.returns-then-entry_begins
returns-then-entry_begins c = λ s same. (λ _. (c.entry-item.result.key.op, subst (λ (C : Contents). MayBegin Automatic C c.entry-item.result.key.op c.args.at) (sym same) (c.entry_begins.ensures.0 c.if-entry_begins.true)), λ _. refl)

pub entry_begins-requires : goal.entry_begins-requires
entry_begins-requires c =
    let P = c.args.loaded.now in
    let entries = c.entries-entries.result.now in
    let i = c.loop-entry.entry-index in
    let e = c.entry-item.result in
    let at : slice_get entries i ≡ Some e = slice_get-get_or entries i e c.loop-entry-test.true ∙ ap Some (sym c.entry-item.is) in
    let ready = subst (AreReadyEntries P) (sym c.entries-entries.ensures.all) c.ready.ensures in
    ready.workstations e (at_place entries i e at)

pub loop-entry-preserved : goal.loop-entry-preserved
loop-entry-preserved c =
    let entries = c.entries-entries.result.now in
    let i = c.loop-entry.entry-index in
    let e = c.entry-item.result in
    let at : slice_get entries i ≡ Some e = slice_get-get_or entries i e c.loop-entry-test.true ∙ ap Some (sym c.entry-item.is) in
    none_more entries (λ x. MayBegin Automatic c.args.loaded.now x.key.op c.args.at) i c.loop-entry.invariant (λ x here begins.
    true≢false (sym (c.entry_begins.ensures.1 (subst (λ z. MayBegin Automatic c.args.loaded.now z.key.op c.args.at) (same_Some x e (sym here ∙ at)) begins)) ∙ c.if-entry_begins.false))

pub returns : goal.returns
returns c =
    let P = c.args.loaded.now in
    let entries = c.entries-entries.result.now in
    λ s same. (
      λ e. absurd (true≢false (sym e)),
      λ some. absurd
          (none_left P c.read_for_proof.ensures.valid entries (subst (AreReadyEntries P) (sym c.entries-entries.ensures.all) c.ready.ensures) c.args.at Automatic
          (λ k x less at. c.loop-entry.invariant k x (let past = c.loop-entry-test.false in omega (arith, less, past)) at)
          some.0 (subst (λ (C : Contents). MayBegin Automatic C some.0 c.args.at) same some.1)),
    )
