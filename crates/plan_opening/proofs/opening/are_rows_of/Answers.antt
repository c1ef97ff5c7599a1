use Rattle.std.proofs.Common.{sym, subst, Some}
use Rattle.plan_model.specs.Plan.{plan_held}
use Rattle.plan_opening.proofs.Opened.{rows_from_these, these_from_rows}
use Rattle.plan_opening.proofs.opening.are_rows_of.Goals as goal
use Rattle.plan_records.specs.Rows.{AreRows}

pub rows_of-requires : goal.rows_of-requires
rows_of-requires c = c.columns_of.ensures c.args.records.now.contents c.uncounted.ensures.sound c.requires.derived

pub returns-clause-told : goal.returns-clause-told
returns-clause-told c =
    let P = plan_held c.args.clock (Some c.args.records.now.contents) in
    let are : AreRows P c.deref.result.now = subst (AreRows P) (sym c.deref.ensures.value) c.in_ok-all.ensures.rows in (
      λ told. rows_from_these P c.args.rows.now c.deref.result.now are (c.in_ok-are_these.ensures.0 told),
      λ h. c.in_ok-are_these.ensures.1 (these_from_rows P c.args.rows.now c.deref.result.now are h),
    )
