use Rattle.std.proofs.Common.{rules, ◌≡◌, ◌∙◌, sym, ap, arith, w64, FitsSigned, to_z, of_z, Some}
use Rattle.std.proofs.lemmas.Int.{ints}
use Rattle.std.proofs.lemmas.Option.{same_Some}
use Rattle.plan_rows.proofs.operations.have_one_start.Goals as goal

pub returns : goal.returns
returns c =
    let fits : FitsSigned w64 c.of.result = search rules in
    let too : FitsSigned w64 c.of-2.result = search rules in
    let back : to_z w64 (of_z w64 c.of.result) ≡ c.of.result = omega (arith, ints, fits) in
    let again : to_z w64 (of_z w64 c.of-2.result) ≡ c.of-2.result = omega (arith, ints, too) in
    let one = c.of.ensures in
    let other = c.of-2.ensures in (
      λ t. one ∙ ap Some (sym back ∙ c.is_one_start.ensures.0 t ∙ again) ∙ sym other,
      λ e. c.is_one_start.ensures.1 (back ∙ same_Some c.of.result c.of-2.result (sym one ∙ e ∙ other) ∙ sym again),
    )
