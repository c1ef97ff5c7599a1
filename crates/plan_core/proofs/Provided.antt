-- What holds of the plan that a request leads to, and of what becomes started by it.
use Rattle.std.proofs.Common.{refl, subst, List, [], ◌∷◌, ◌++◌}
use Rattle.std.specs.FinMap as finmap
use Rattle.plan_opening.specs.plan_laws.proofs.Every.{every_step_keeps_sound, reached_starts_are_provided_for, run_keeps_sound}
use Rattle.plan_opening.specs.plan_laws.proofs.Starts.{starts_are_provided_for}
use Rattle.plan_model.specs.Plan.{Plan, IsSoundPlan}
use Rattle.plan_records.specs.Answer.{Answer}
use Rattle.plan_records.specs.Run.{State, plain, usable}
use Rattle.plan_records.specs.Step.{Step}
use Rattle.plan_records.specs.declared.Request.{Request}
use Rattle.plan_core.specs.Requested.{IsAnswered}
use Rattle.plan_core.specs.Provided.{RunStartsAreProvided, StartsAreProvided}

-- after one step
module _ (P after : Plan) (q : Request) (reply : Answer) (sound : IsSoundPlan P) (step : Step P q reply after) where
  pub step_sound : IsSoundPlan after
  step_sound = every_step_keeps_sound P after q reply sound step

  pub step_starts : StartsAreProvided P q reply after
  step_starts = starts_are_provided_for P after q reply sound step

-- a plan with no receipts beside it
alone : Plan → State
alone P = record { plan = P; receipts = finmap.empty }

-- after one answer, that may be want of memory
module _ (P after : Plan) (q : Request) (reply : Answer) (sound : IsSoundPlan P) (answered : IsAnswered P q reply after) where
  pub answered_sound : IsSoundPlan after
  unfolding alone
  answered_sound = run_keeps_sound (alone P) (alone after) usable usable (plain q ∷ []) (reply ∷ []) sound (alone after, usable, answered finmap.empty, (refl, refl))

  pub answered_starts : StartsAreProvided P q reply after
  unfolding alone
  answered_starts = reached_starts_are_provided_for (alone P) [] [] (alone P) (alone after) usable usable (plain q) reply sound (refl, refl) (answered finmap.empty)

-- after several, and one more
pub provided_more : (P mid after : Plan) (requests : List Request) (answers : List Answer) (q : Request) (reply : Answer) → IsSoundPlan mid → RunStartsAreProvided P requests answers mid → IsAnswered mid q reply after
    → RunStartsAreProvided P (requests ++ q ∷ []) (answers ++ reply ∷ []) after
provided_more P mid after [] [] q reply sound run last =
    subst (λ (z : Plan). RunStartsAreProvided z (q ∷ []) (reply ∷ []) after) run (after, last, answered_sound mid after q reply sound last, answered_starts mid after q reply sound last, refl)
provided_more P mid after [] (x ∷ answers) q reply sound run last = absurd run
provided_more P mid after (r ∷ requests) [] q reply sound run last = absurd run
provided_more P mid after (r ∷ requests) (x ∷ answers) q reply sound run last =
    (run.0, run.1, run.2, run.3, provided_more run.0 mid after requests answers q reply sound run.4 last)
