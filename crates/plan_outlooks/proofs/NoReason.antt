-- What isn't in the plan has no reason.
use Rattle.std.proofs.Common.{refl, arith, ℕ, [], None}
use Rattle.plan_basics.proofs.Members.{contains_none}
use Rattle.plan_basics.specs.declared.keys.OpKey.{OpKey}
use Rattle.plan_model.specs.Contents.{Contents, IsInPlan}
use Rattle.plan_reasons.specs.Whys.{IsFirstReason}

pub none_of_none : (P : Contents) (o : OpKey) (m : ℕ) → ¬ IsInPlan P o → IsFirstReason P o m None
none_of_none P o m never = (
  [],
  record {
    in_order = λ i j d lt within. absurd (omega (arith, within));
    exactly = λ r. ((λ has. absurd (contains_none r has)), (λ is. absurd (never (is.0, is.1, tt))));
  },
  refl,
)
