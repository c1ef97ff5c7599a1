use Rattle.std.proofs.Common.{sym, ap, subst}
use Rattle.plan_model.specs.Contents.{Contents}
use Rattle.desk_tables.specs.Errors.{AreErrorRows, error_rows}
use Rattle.desk_tables.proofs.ErrorLists.{are_error_rows}
use Rattle.desk_tables.proofs.desk.Desk.errors.Goals as goal

pub returns-clause-rows : goal.returns-clause-rows
returns-clause-rows g c =
    let same = ap (λ d. d.plan.contents) c.self.view_is in
    let are = are_error_rows c.self.inside.plan.plan.contents c.ops.result c.ops.ensures in
    subst (AreErrorRows c.args.self.now.plan.contents) (sym c.new.ensures) (subst (λ (P : Contents). AreErrorRows P (error_rows c.ops.result)) same are)
