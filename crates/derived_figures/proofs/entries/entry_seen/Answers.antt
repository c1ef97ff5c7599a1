use Rattle.std.proofs.lemmas.Int.{ints}
use Rattle.std.proofs.Common.{rules, ◌≡◌, sym, ap, subst, ◌∙◌, arith, w64, FitsSigned, to_z, of_z, Some}
use Rattle.std.specs.FinMap.{entries}
use Rattle.start_choice.specs.plan_status.proofs.LoadedRows.{row_found}
use Rattle.start_choice.specs.plan_status.proofs.RowKeys.{key_of_row}
use Rattle.plan_model.specs.Starts.{IsLatestStart}
use Rattle.derived_figures.proofs.entries.entry_seen.Goals as goal

pub entry_with-requires : goal.entry_with-requires
entry_with-requires c = row_found c.args.seen.now.uncounted.contents.now c.args.place c.args.seen.now.key.now c.args.seen.now.operation.now c.requires.row

pub returns : goal.returns
returns c =
    let P = c.args.seen.now.uncounted.contents.now in
    let o = c.args.seen.now.key.now in
    let op = c.args.seen.now.operation.now in
    let fits : FitsSigned w64 c.of.result = search rules in
    let latest : to_z w64 (of_z w64 c.of.result) ≡ c.of.result = omega (arith, ints, fits) in (
      c.entry_with.ensures.entry (subst (IsLatestStart P o) (sym latest) (c.requires.latest.each c.args.place o op c.of.result c.requires.row c.of.ensures)),
      key_of_row (entries P.operations) c.args.place o op c.requires.row ∙ ap Some (sym c.entry_with.ensures.op),
    )
