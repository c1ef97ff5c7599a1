use Rattle.std.proofs.Common.{rules, ◌≡◌, sym, ◌∙◌, ap, arith, Some, w64, FitsSigned, to_z, of_z}
use Rattle.std.proofs.lemmas.Int.{ints}
use Rattle.plan_outlooks.proofs.refs.latest_at.Goals as goal

pub returns : goal.returns
returns c = λ o op at.
    let fits : FitsSigned w64 c.of.result = search rules in
    let back : to_z w64 (of_z w64 c.of.result) ≡ c.of.result = omega (arith, ints, fits) in
    c.latest-latest.ensures.each c.args.place o op (to_z w64 (of_z w64 c.of.result)) at (c.of.ensures ∙ ap Some (sym back))
