-- The refusals of a new request, with room for its receipt or without.
use Rattle.std.proofs.Common.{◌≡◌, inr, refl, ap, arith, ◌+◌, ◌<◌, List}
use Rattle.std.specs.FinMap.{get}
use Rattle.plan_basics.specs.Refusals.{number_of, IsLeastRefusal}
use Rattle.plan_basics.specs.declared.Refusal.{Refusal}
use Rattle.plan_basics.specs.declared.Refusal.TheVariants as refusal
use Rattle.plan_basics.specs.declared.keys.OpKey.{OpKey}
use Rattle.plan_model.specs.Plan.{Plan}
use Rattle.plan_records.specs.Acceptance.{MayBeAccepted}
use Rattle.plan_records.specs.Answer.{accepted, refused}
use Rattle.plan_records.specs.Step.{HasReceiptRoom, Numbered, NumberedMayBeAccepted, NumberedStep, Receipts, Step, StepBy, last_number}

module _ (P : Plan) (T : Receipts) (n : Numbered) where
  -- ---- with room its own rules decide
  module _ (room : HasReceiptRoom T n) where
    pub accepted_with_room : (os : List OpKey) (after : Plan) → Step P n.request (accepted os) after → StepBy (NumberedMayBeAccepted P T n) P n.request (accepted os) after
    accepted_with_room os after step = record {
      none_refuses = λ r. (step.none_refuses r, λ limit. room);
      is_request = step.is_request;
      changed = step.changed;
      changes = step.changes;
      is_chosen = step.is_chosen;
      is_after = step.is_after;
    }

    pub refused_with_room : (r : Refusal) → Step P n.request (refused r) P → StepBy (NumberedMayBeAccepted P T n) P n.request (refused r) P
    refused_with_room r step = record {
      least = (λ may. step.least.0 may.0, λ lower less. (step.least.1 lower less, λ limit. room));
      is_after = refl;
    }

  -- ---- without room the limit refuses, where no lower number does
  module _ (full : ¬ HasReceiptRoom T n) where
    pub lower_refuses : (r : Refusal) → number_of r < number_of refusal.Limit → IsLeastRefusal (MayBeAccepted P n.request) r → IsLeastRefusal (NumberedMayBeAccepted P T n) r
    lower_refuses r under least = (λ may. least.0 may.0, λ lower less. (least.1 lower less, λ limit. absurd (let e = ap number_of limit in omega (arith, under, less, e))))

    pub limit_refuses : ((lower : Refusal) → number_of lower < number_of refusal.Limit → MayBeAccepted P n.request lower) → IsLeastRefusal (NumberedMayBeAccepted P T n) refusal.Limit
    limit_refuses below = (λ may. full (may.1 refl), λ lower less. (below lower less, λ limit. absurd (let e = ap number_of limit in omega (arith, less, e))))

  -- ---- a new request that is refused leaves the plan and the receipts as they are
  pub refused_anew : (r : Refusal) → n.number ≡ last_number (get T n.tracker) + 1 → StepBy (NumberedMayBeAccepted P T n) P n.request (refused r) P → NumberedStep P T n (refused r) P T
  refused_anew r next step = inr (next, λ chosen is. absurd (cc), step, refl)
