use Rattle.std.proofs.Common.{◌≡◌, sym, ap, subst, ◌∙◌, ◌+◌, arith, true, Some, None, is_some, slice_get}
use Rattle.std.specs.FinMap.{get, len}
use Rattle.std.proofs.lemmas.Option.{slice_get-get_or}
use Rattle.special_resources.specs.Holdings.{claim_of}
use Rattle.special_resources.specs.Needs.{usages_of}
use Rattle.special_resources.proofs.Replacing.{one_more}
use Rattle.plan_model.specs.Contents.{Operation}
use Rattle.counted_records.specs.plan_drafts.proofs.Tables.{is_none}
use Rattle.start_choice.specs.Takings.{HaveTaken}
use Rattle.start_choice.proofs.NeedsTaken.{AreTakenSoFar, all_taken, held_already, not_held, taken_too}
use Rattle.start_choice.proofs.holders.take_marked.Goals as goal
use Rattle.start_choice.proofs.holders.take_marked.Goals.{then-holds_resource+then-is_none, else-holds_resource, else-holds_resource-via-then-holds_resource+else-is_none, else-holds_resource-via-else-holds_resource}

pub loop-need-preserved : goal.loop-need-preserved
loop-need-preserved c =
    let before = c.args.holdings.now.held in
    let o = c.args.key.now in
    let needs = c.as_slice-needs.result.now in
    let mark = c.args.mark.now in
    let i = c.loop-need.need-index in
    let need = c.need-item.result in
    let now = c.loop-need.holdings.held in
    let at : slice_get needs i ≡ Some need = slice_get-get_or needs i need c.loop-need-test.true ∙ ap Some (sym c.need-item.is) in
    let so_far = c.loop-need.invariant.taken in
    let room = c.loop-need.invariant.room in
    elim c.if-holds_resource.branch [
      | then-holds_resource+then-is_none w ↦
          let holds = sym c.holds_resource.ensures ∙ w.if-holds_resource.true in
          let free : get now (need.name, o) ≡ None = sym w.claim_of.ensures ∙ is_none w.claim_of.result w.if-is_none.ensures in
          let more = ap len w.take.ensures.held ∙ one_more now (need.name, o) (claim_of need) (ap is_some free) in
          rw w.holdings-is
          record {
            room = omega (arith, room, more, w.take.ensures.room);
            taken = subst (AreTakenSoFar before o needs mark (i + 1)) (sym w.take.ensures.held) (taken_too before o needs mark i need at now so_far holds free);
          }
      | else-holds_resource w ↦
          rw w.holdings-is
          (elim w.else-holds_resource.branch [
            | else-holds_resource-via-then-holds_resource+else-is_none w' ↦
                let some : is_some (get now (need.name, o)) ≡ true = ap is_some (sym w'.claim_of.ensures) ∙ w'.if-is_none.ensures in
                record { room = omega (arith, room); taken = held_already before o needs mark i need at now so_far c.as_slice-needs.ensures.in_order some }
            | else-holds_resource-via-else-holds_resource w' ↦
                record { room = omega (arith, room); taken = not_held before o needs mark i need at now so_far (sym c.holds_resource.ensures ∙ w'.if-holds_resource.false) }
          ])
    ]

pub returns-clause-taken : goal.returns-clause-taken
returns-clause-taken c =
    let o = c.args.key.now in
    let items = c.as_slice-needs.result.now in
    let same : c.args.operation.now.needs ≡ usages_of items = ap (λ (op : Operation). op.needs) (sym c.operation.view_is) ∙ c.as_slice-needs.ensures.usages in
    subst (λ needs. HaveTaken c.args.holdings.now.held o needs c.args.mark.now c.loop-need.holdings.held) (sym same)
    (all_taken c.args.holdings.now.held o items c.args.mark.now c.as_slice-needs.ensures.in_order c.loop-need.need-index c.loop-need.holdings.held (omega (arith, c.loop-need-test.false)) c.loop-need.invariant.taken)
