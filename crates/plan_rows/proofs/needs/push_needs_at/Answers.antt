use Rattle.std.proofs.Common.{◌≡◌, ◌∙◌, ◌++◌, sym, subst, List, OnOk}
use Rattle.std.proofs.lemmas.Option.{same_Some}
use Rattle.plan_basics.specs.declared.keys.OpKey.{OpKey}
use Rattle.plan_model.specs.Contents.{Operation}
use Rattle.plan_rows.proofs.needs.push_needs_at.Goals as goal
use Rattle.plan_rows.specs.Rows.{needs_listed}
use Rattle.special_resources.specs.declared.Need.{Need}

pub returns-clause-needs : goal.returns-clause-needs
returns-clause-needs c o op at =
    let key = c.see-seen.result.key.now in
    let its = c.see-seen.result.operation.now in
    let same : ◌≡◌ {A = OpKey × Operation} (key, its) (o, op) = same_Some (key, its) (o, op) (sym c.see-seen.ensures.row ∙ at) in
    let told = subst (λ (ns : List (OpKey × Need)). OnOk c.push_needs_of.result (c.push_needs_of.new.all.items ≡ c.args.all.now.items ++ ns)) (c.needs_of.ensures key) c.push_needs_of.ensures in
    subst (λ (z : OpKey × Operation). OnOk c.push_needs_of.result (c.push_needs_of.new.all.items ≡ c.args.all.now.items ++ needs_listed z)) same told
