use Rattle.std.proofs.Common.{subst, Some}
use Rattle.plan_model.specs.Contents.{Contents}
use Rattle.plan_rows.proofs.NoRows.{contents_of_plan}
use Rattle.plan_rows.proofs.changing.push_links.Goals as goal
use Rattle.plan_rows.specs.Kept.{AreNewNeeds, KeepsRecords}
use Rattle.plan_rows.specs.Sources.{plan_if_any, source_if_any, source_of}

-- table by table
pub returns : goal.returns
returns c = λ clock now so_far.
    let before = source_if_any c.args.before in
    let P = plan_if_any clock before in
    let Q = plan_if_any now (Some (source_of c.args.after)) in
    let needs = c.args.needs.now in
    let keeps : KeepsRecords P.contents Q.contents = subst (λ (C : Contents). KeepsRecords C Q.contents) (contents_of_plan clock before) c.requires.kept in
    let new : AreNewNeeds P.contents Q.contents needs = subst (λ (C : Contents). AreNewNeeds C Q.contents needs) (contents_of_plan clock before) c.requires.needs in
    c.push_amounts.ensures P Q keeps new
    (c.in_ok-push_quantities.ensures clock now (c.in_ok-push_needs.ensures P Q keeps new (c.in_ok-push_dependencies.ensures clock now so_far)))
