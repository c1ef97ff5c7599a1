-- The order of pairs.
use Rattle.std.proofs.Common.{◌≡◌, ap, true}
use Rattle.std.specs.Ordering.{eq_by_cmp}
use Rattle.std.specs.Cmp.{Equal-is}
use Rattle.plan_basics.specs.declared.keys.OpKey.{OpKey}
use Rattle.plan_records.specs.plan_model.specs.Contents.{pair_cmp}
pub use Rattle.plan_records.specs.plan_drafts.proofs.KeyPlaces.{pair_cmp_total, pair_cmp-IsAntisymmetric}

pub pair_same : (p o a b : OpKey) → eq_by_cmp pair_cmp (p, o) (a, b) ≡ true → (p ≡ a) × (o ≡ b)
pair_same p o a b e =
    let same : ◌≡◌ {A = OpKey × OpKey} (p, o) (a, b) = pair_cmp-IsAntisymmetric (p, o) (a, b) ((Equal-is (pair_cmp (p, o) (a, b))).0 e) in
    (ap (λ x. x.0) same, ap (λ x. x.1) same)
