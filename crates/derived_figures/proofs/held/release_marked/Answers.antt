use Rattle.std.proofs.Common.{◌≡◌, sym, ap, subst, ◌∙◌, ◌+◌, arith, Some, None, slice_get}
use Rattle.std.specs.FinMap.{get}
use Rattle.std.proofs.lemmas.Option.{slice_get-get_or}
use Rattle.special_resources.specs.Needs.{usages_of}
use Rattle.plan_model.specs.Contents.{Operation}
use Rattle.start_choice.specs.plan_drafts.proofs.Tables.{is_none}
use Rattle.derived_figures.specs.Marked.{HaveReleased}
use Rattle.derived_figures.proofs.Releasing.{AreReleasedSoFar, all_released, free_already, released_too, still_held}
use Rattle.derived_figures.proofs.held.release_marked.Goals as goal
use Rattle.derived_figures.proofs.held.release_marked.Goals.{then-not-holds_resource+then-is_some, else-not-holds_resource, else-not-holds_resource-via-then-not-holds_resource+else-is_some, else-not-holds_resource-via-else-not-holds_resource}

pub loop-need-preserved : goal.loop-need-preserved
loop-need-preserved c =
    let before = c.args.holdings.now.held in
    let o = c.args.key.now in
    let needs = c.as_slice-need-items.result.now in
    let mark = c.args.mark.now in
    let i = c.loop-need.need-index in
    let need = c.need-item.result in
    let now = c.loop-need.holdings.held in
    let at : slice_get needs i ≡ Some need = slice_get-get_or needs i need c.loop-need-test.true ∙ ap Some (sym c.need-item.is) in
    elim c.if-not-holds_resource.branch [
      | then-not-holds_resource+then-is_some w ↦
          let fails = sym c.holds_resource.ensures ∙ w.if-not-holds_resource.true in
          rw w.holdings-is
          (subst (AreReleasedSoFar before o needs mark (i + 1)) (sym w.release.ensures.held) (released_too before o needs mark i need at now c.loop-need.invariant fails))
      | else-not-holds_resource w ↦
          rw w.holdings-is
          (elim w.else-not-holds_resource.branch [
            | else-not-holds_resource-via-then-not-holds_resource+else-is_some w' ↦
                let free : get now (need.name, o) ≡ None = sym w'.claim_of.ensures ∙ is_none w'.claim_of.result (cc (w'.is_some.ensures, w'.if-is_some.false)) in
                free_already before o needs mark i need at now c.loop-need.invariant free
            | else-not-holds_resource-via-else-not-holds_resource w' ↦
                still_held before o needs mark i need at now c.loop-need.invariant (sym c.holds_resource.ensures ∙ w'.if-not-holds_resource.false)
          ])
    ]

pub returns : goal.returns
returns c =
    let o = c.args.key.now in
    let items = c.as_slice-need-items.result.now in
    let same : c.args.operation.now.needs ≡ usages_of items = ap (λ (op : Operation). op.needs) (sym c.operation.view_is) ∙ c.as_slice-need-items.ensures.usages in
    subst (λ needs. HaveReleased c.args.holdings.now.held o needs c.args.mark.now c.loop-need.holdings.held) (sym same)
    (all_released c.args.holdings.now.held o items c.args.mark.now c.as_slice-need-items.ensures.in_order c.loop-need.need-index c.loop-need.holdings.held (omega (arith, c.loop-need-test.false)) c.loop-need.invariant)
