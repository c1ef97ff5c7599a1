use Rattle.std.proofs.Common.{arith, ◌≡◌, ap, sym, ◌∙◌, Some}
use Rattle.std.proofs.lemmas.Option.{slice_get-get_or, slice_get_within, same_Some}
use Rattle.std.specs.FinMap.{entries}
use Rattle.plan_basics.specs.declared.keys.OpKey.{OpKey}
use Rattle.plan_model.specs.Contents.{Operation}
use Rattle.start_choice.specs.plan_status.proofs.LoadedRows.{row_found}
use Rattle.derived_figures.proofs.status_changes.status_at.Goals as goal

pub attribute_of-attribute-requires : goal.attribute_of-attribute-requires
attribute_of-attribute-requires c =
    (c.args.seen.now.key.now, row_found c.args.seen.now.uncounted.contents.now c.args.place c.args.seen.now.key.now c.args.seen.now.operation.now c.requires.row)

pub returns : goal.returns
returns c o op at =
    let P = c.args.seen.now.uncounted.contents.now in
    let row : OpKey × Operation = (c.args.seen.now.key.now, c.args.seen.now.operation.now) in
    let same : row ≡ (o, op) = same_Some row (o, op) (sym c.requires.row ∙ at) in
    let within = slice_get_within (entries P.operations) c.args.place row c.requires.row in
    let standing = c.requires.standings.each c.args.place o op _ at (slice_get-get_or c.args.standings.now c.args.place _ (omega (arith, within, c.requires.standings.size))) in
    c.status_with.ensures P o (row_found P c.args.place o op at ∙ ap (λ (z : OpKey × Operation). Some z.1) (sym same)) c.attribute_of-attribute.ensures standing
