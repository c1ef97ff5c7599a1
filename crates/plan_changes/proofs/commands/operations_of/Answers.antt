use Rattle.std.proofs.Common.{◌∙◌, ap, sym, List}
use Rattle.std.proofs.lemmas.List.{take_all}
use Rattle.std.specs.List.{filter}
use Rattle.std.specs.Map.{keys_of}
use Rattle.plan_basics.specs.declared.keys.OpKey.{OpKey}
use Rattle.plan_records.specs.plan_model.specs.Contents.{Operation}
use Rattle.ready_list.specs.Choice.{is_among}
use Rattle.plan_changes.proofs.InOccurrence.{found_more, found_other, is_in, occurrence_test, passed}
use Rattle.plan_changes.proofs.commands.operations_of.Goals as goal
use Rattle.plan_changes.proofs.commands.operations_of.Goals.{then-eq+in_ok-push, else-eq}

pub loop-row-preserved : goal.loop-row-preserved
loop-row-preserved c =
    let rows = c.operations-row-items.result.now in
    let row = c.row-item.result in
    let test = c.eq.ensures ∙ occurrence_test row.0.occurrence c.args.occurrence.now in
    let before = c.loop-row.keys.items in
    elim c.if-eq.branch [
      | then-eq+in_ok-push w ↦
          ap (λ v. v.items) w.keys-is ∙ w.in_ok-push.ensures.items ∙ found_more (is_in c.args.occurrence.now) rows c.loop-row.row-index row c.loop-row-test.true c.row-item.is before c.loop-row.invariant (sym test ∙ w.if-eq.true)
      | else-eq w ↦ ap (λ v. v.items) w.keys-is ∙ found_other (is_in c.args.occurrence.now) rows c.loop-row.row-index row c.loop-row-test.true c.row-item.is before c.loop-row.invariant (sym test ∙ w.if-eq.false)
    ]

pub returns : goal.returns
returns c o known =
    let occurrence = c.args.occurrence.now in
    let rows = c.operations-row-items.result.now in
    ap (λ keys. is_among keys o)
    (c.loop-row.invariant ∙ ap (λ (rs : List (OpKey × Operation)). filter (is_in occurrence) (keys_of rs)) (take_all c.loop-row.row-index rows c.loop-row-test.false ∙ c.operations-row-items.ensures.rows))
    ∙ passed (is_in occurrence) o c.args.contents.now.operations known.0 known.1
