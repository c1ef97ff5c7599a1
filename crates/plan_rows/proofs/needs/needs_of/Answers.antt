use Rattle.std.proofs.Common.{◌≡◌, ◌∙◌, ap, sym, refl, List, [], ◌∷◌, map}
use Rattle.plan_basics.specs.Keys.{Name}
use Rattle.plan_basics.specs.declared.keys.OpKey.{OpKey}
use Rattle.plan_model.specs.Contents.{Operation}
use Rattle.plan_rows.proofs.WithinRows.{needs_kept}
use Rattle.plan_rows.proofs.needs.needs_of.Goals as goal
use Rattle.plan_rows.specs.Rows.{with_operation}
use Rattle.special_resources.specs.declared.Need.{Need}

-- needs with their operation's key are those under both keys
with_key : (o : OpKey) (ns : List Need) → map {B = OpKey × Need} (λ n. (o, n)) ns ≡ map with_operation (map {B = (OpKey × Name) × Need} (λ (n : Need). ((o, n.name), n)) ns)
with_key o [] = refl
with_key o (n ∷ ns) = ap (λ rs. (o, n) ∷ rs) (with_key o ns)

pub returns : goal.returns
returns c = λ o.
    let ns = c.as_slice.result.now in
    with_key o ns ∙ ap (map with_operation) (needs_kept (o, c.args.operation.now) ns (ap (λ (z : Operation). z.needs) (sym c.operation.view_is) ∙ c.as_slice.ensures.usages) c.as_slice.ensures.in_order)
