-- Of what going operation it isn't known since when it is.
use Rattle.std.proofs.Common.{◌≡◌, refl, sym, ◌∙◌, ap, ℕ, Bool, true, false, true≢false, is_none, not, Option, Some, None}
use Rattle.std.specs.Prelude.{Decides}
use Rattle.std.specs.FinMap.{get}
use Rattle.std.proofs.lemmas.Option.{none-some, same_Some}
use Rattle.plan_basics.specs.declared.keys.OpKey.{OpKey}
use Rattle.plan_model.specs.Contents.{Operation}
use Rattle.plan_outlooks.specs.Forecasts.{Forecast, IsUntold, is_named}

module _ (F : Forecast) (o : OpKey) (op : Operation) (is : get F.plan.contents.operations o ≡ Some op) where
  pub told_if_named : is_named op.mark ≡ true → ¬ IsUntold F o
  told_if_named named untold = true≢false (sym named ∙ ap (λ (z : Operation). is_named z.mark) (same_Some op untold.0.0 (sym is ∙ untold.0.1)) ∙ untold.0.2)

  pub untold_by : is_named op.mark ≡ false → (known : Option ℕ) → known ≡ F.known o → Decides (is_none known) (IsUntold F o)
  untold_by unnamed None same = ((λ e. ((op, is, unnamed), sym same)), (λ untold. refl))
  untold_by unnamed (Some k) same = ((λ e. absurd (true≢false (sym e))), (λ untold. absurd (none-some k (sym untold.1 ∙ sym same))))

pub twice : (b : Bool) (X : Type 0) → Decides b X → Decides (not (not b)) X
twice true X told = told
twice false X told = told
