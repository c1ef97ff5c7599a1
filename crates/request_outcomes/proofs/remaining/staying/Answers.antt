use Rattle.std.proofs.Common.{◌∙◌, ap}
use Rattle.std.proofs.lemmas.List.{take_all}
use Rattle.std.specs.FinMap.{entries}
use Rattle.std.specs.List.{filter}
use Rattle.plan_basics.specs.declared.keys.OccKey.{OccKey}
use Rattle.request_outcomes.proofs.Staying.{fails, fails_by, passes, passes_by, stay_by_rows, stay_in_order}
use Rattle.request_outcomes.proofs.remaining.staying.Goals as goal
use Rattle.request_outcomes.proofs.remaining.staying.Goals.{then-stays+in_ok-push, else-stays}
use Rattle.plan_model.specs.Contents.{Contents}
use Rattle.plan_model.specs.declared.Occurrence.{Occurrence}
use Rattle.small_requests.specs.plan_laws.proofs.Waiting.{some_left}

pub loop-row-init : goal.loop-row-init
loop-row-init c stays are = c.new-staying.ensures.items

pub loop-row-preserved : goal.loop-row-preserved
loop-row-preserved c stays are =
    let P = c.args.outline.now in
    let rows = c.occurrences-row-items.result.now in
    let row = c.row-item.result in
    let test = λ (r : OccKey × Occurrence). stays r.0 in
    let before = c.loop-row.staying.items in
    let so_far = c.loop-row.invariant stays are in
    elim c.if-stays.branch [
      | then-stays+in_ok-push w ↦
          ap (λ v. v.items) w.staying-is ∙ w.in_ok-push.ensures.items ∙ passes test rows c.loop-row.row-index row c.loop-row-test.true c.row-item.is before so_far (passes_by P stays are row.0 c.stays.result c.stays.ensures w.if-stays.true)
      | else-stays w ↦ ap (λ v. v.items) w.staying-is ∙ fails test rows c.loop-row.row-index row c.loop-row-test.true c.row-item.is before so_far (fails_by P stays are row.0 c.stays.result c.stays.ensures w.if-stays.false)
    ]

pub returns-clause-in_order : goal.returns-clause-in_order
returns-clause-in_order c =
    let P = c.args.outline.now in
    let valid = c.uncounted-uncounted.ensures.sound.valid in
    let left = some_left P valid.acyclic in
    stay_in_order P valid left.1.0 left.1.1 c.loop-row.staying.items (c.loop-row.invariant left.1.0 left.1.1
    ∙ ap (filter (λ (row : OccKey × Occurrence). left.1.0 row.0)) (take_all c.loop-row.row-index c.occurrences-row-items.result.now c.loop-row-test.false ∙ c.occurrences-row-items.ensures.rows ∙ ap (λ (Q : Contents). entries Q.occurrences) c.uncounted-uncounted.ensures.contents))

pub returns-clause-stay : goal.returns-clause-stay
returns-clause-stay c =
    let P = c.args.outline.now in
    let valid = c.uncounted-uncounted.ensures.sound.valid in
    let left = some_left P valid.acyclic in
    stay_by_rows P valid left.1.0 left.1.1 c.loop-row.staying.items (c.loop-row.invariant left.1.0 left.1.1
    ∙ ap (filter (λ (row : OccKey × Occurrence). left.1.0 row.0)) (take_all c.loop-row.row-index c.occurrences-row-items.result.now c.loop-row-test.false ∙ c.occurrences-row-items.ensures.rows ∙ ap (λ (Q : Contents). entries Q.occurrences) c.uncounted-uncounted.ensures.contents))
