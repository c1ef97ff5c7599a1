use Rattle.std.proofs.Common.{sym, ap, ◌∙◌, arith, Some}
use Rattle.std.specs.FinMap.{entries}
use Rattle.start_choice.specs.plan_drafts.proofs.RowPlaces.{row_at}
use Rattle.start_choice.specs.plan_status.proofs.RowKeys.{key_of_row}
use Rattle.derived_figures.proofs.entries.entry_by_summary.Goals as goal

pub entry_at-requires-clause-within : goal.entry_at-requires-clause-within
entry_at-requires-clause-within c = omega (arith, c.requires.within, c.requires.summaries.size)

pub returns : goal.returns
returns c =
    let rows = entries c.args.uncounted.now.contents.now.operations in
    let row = row_at rows c.args.place c.requires.within in (
      c.entry_at.ensures.entry,
      key_of_row rows c.args.place row.0.0 row.0.1 row.1 ∙ ap Some (sym (c.entry_at.ensures.op row.0.0 row.0.1 row.1)),
    )
