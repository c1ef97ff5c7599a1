use Rattle.std.proofs.Common.{◌≡◌, ◌↔◌, ◌∙◌, refl, sym, subst, true, IsTrue}
use Rattle.plan_model.proofs.Taking.{takes_where_known}
use Rattle.record_faults.specs.Warnings.{StartsAreKnown}
use Rattle.record_faults.proofs.warnings.starts_are_known.Goals as goal

pub returns : goal.returns
returns c =
    subst (λ b. IsTrue b ↔ StartsAreKnown c.args.attribute) (sym (c.knows_starts.ensures ∙ takes_where_known c.args.attribute)) (λ h. h, λ h. h)
