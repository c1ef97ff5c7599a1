use Rattle.std.proofs.Common.{Some}
use Rattle.std.proofs.lemmas.Option.{none-some}
use Rattle.plan_model.specs.Plan.{plan_held}
use Rattle.plan_opening.proofs.Opened.{if_loaded}
use Rattle.plan_opening.proofs.opening.loaded_of_rows.Goals as goal

pub returns-in_default-clause-found : goal.returns-in_default-clause-found
returns-in_default-clause-found c = λ P are. none-some P ((rw c.in_default.is at c.in_ok-contents.ensures.complete) (plan_held c.args.clock (Some P)) are.sound are.are_rows)

pub returns-clause-found : goal.returns-clause-found
returns-clause-found c =
    if_loaded c.args.clock c.args.rows.now c.in-Some.contents (rw c.in-Some.is at c.in_ok-contents.ensures.sound) (rw c.in-Some.is at c.in_ok-contents.ensures.complete) c.loaded_with_rows.result c.loaded_with_rows.ensures.found
