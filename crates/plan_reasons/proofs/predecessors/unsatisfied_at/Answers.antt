use Rattle.std.proofs.Common.{◌≡◌, ap, ◌∙◌, get_or}
use Rattle.std.specs.FinMap.{entries}
use Rattle.plan_model.specs.Contents.{Contents}
use Rattle.plan_core.specs.plan_status.proofs.RowKeys.{row_read}
use Rattle.plan_reasons.proofs.predecessors.unsatisfied_at.Goals as goal

pub returns-clause-at : goal.returns-clause-at
returns-clause-at c =
    let shown = c.operations.result.now in
    let d = c.index-operations-place.result in
    let same : shown ≡ entries c.args.loaded.now.operations = c.operations.ensures.rows ∙ ap (λ (P : Contents). entries P.operations) c.contents.ensures.contents in
    ((get_or shown c.args.place d).1, row_read shown (entries c.args.loaded.now.operations) same c.args.place d c.requires)

pub returns-clause-status : goal.returns-clause-status
returns-clause-status c =
    let shown = c.operations.result.now in
    let d = c.index-operations-place.result in
    let same : shown ≡ entries c.args.loaded.now.operations = c.operations.ensures.rows ∙ ap (λ (P : Contents). entries P.operations) c.contents.ensures.contents in
    c.status_at.ensures (get_or shown c.args.place d).0 (get_or shown c.args.place d).1 (row_read shown (entries c.args.loaded.now.operations) same c.args.place d c.requires)
