use Rattle.plan_rows.proofs.TableRows.{are_resources}
use Rattle.plan_rows.proofs.keyed.push_noted_resources.Goals as goal

pub returns : goal.returns
returns c = λ P Q was is so_far. c.push_changes.ensures 3 P Q (are_resources P c.args.before.now was) (are_resources Q c.args.after.now is) so_far
