use Rattle.std.proofs.Common.{sym, ap, ◌∙◌}
use Rattle.std.specs.FinMap.{entries}
use Rattle.plan_basics.specs.Keys.{name_cmp_total}
use Rattle.plan_laws.specs.plan_model.proofs.Entries.{rows_in_order}
use Rattle.tracker_receipts.proofs.kept.Receipts.rows.Goals as goal

pub returns : goal.returns
returns c = c.deref.ensures.value ∙ sym (rows_in_order name_cmp_total c.self.inside.rows.items c.self.invariant.in_order) ∙ ap entries c.self.view_is
