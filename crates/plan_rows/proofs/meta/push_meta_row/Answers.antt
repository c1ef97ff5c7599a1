use Rattle.std.proofs.Common.{◌≡◌, ◌++◌, subst, [], ◌∷◌}
use Rattle.std.proofs.lemmas.Result.{on_ok_weaker}
use Rattle.plan_records.specs.declared.PlanRow.TheVariants as row
use Rattle.plan_rows.proofs.MetaRow.{one_made, only_place}
use Rattle.plan_rows.proofs.meta.push_meta_row.Goals as goal

pub returns : goal.returns
returns c =
    let is = row.Meta 2 c.args.loaded c.args.clock in
    on_ok_weaker c.push_made.result
    (λ (more, at, rows). subst (λ ms. c.push_made.new.rows.items ≡ c.args.rows.now.items ++ ms) (one_made is more at) rows)
    (c.push_made.ensures (is ∷ []) (λ i r has e. only_place is i r has e))
