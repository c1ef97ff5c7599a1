use Rattle.std.proofs.Common.{◌≡◌, sym, subst, not, true, Decides}
use Rattle.std.specs.FinMap.{contains_key, get}
use Rattle.plan_drafts.proofs.Tables.{some_is}
use Rattle.plan_model.specs.Contents.{Contents}
use Rattle.plan_checks.proofs.ComingIn.{found_told, missing_told}
use Rattle.plan_checks.proofs.known.is_new_occurrence.Goals as goal

pub returns : goal.returns
returns c =
    let P = c.args.plan.now in
    let Q = c.uncounted.result.contents.now in
    let k = c.args.key.now in
    let none = c.is_none.result in
    let told = found_told (get Q.occurrences k) c.occurrence.result _ c.occurrence.ensures.found c.occurrence.ensures.absent (λ o at. some_is (get Q.occurrences k) _ at) (not none) (sym c.is_none.ensures) in
    missing_told none (contains_key P.occurrences k) (subst (λ (R : Contents). Decides (not none) (contains_key R.occurrences k ≡ true)) c.uncounted.ensures.contents told)
