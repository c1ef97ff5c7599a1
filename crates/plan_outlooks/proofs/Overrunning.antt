-- What goes on longer than planned, by the minutes that tell it.
use Rattle.std.proofs.Common.{◌≡◌, refl, sym, ◌∙◌, subst, arith, ℕ, ◌<◌, true≢false, is_some, Option, Some, None}
use Rattle.std.specs.Prelude.{Decides}
use Rattle.std.specs.FinMap.{get}
use Rattle.std.proofs.lemmas.Int.{ints}
use Rattle.std.proofs.lemmas.Option.{none-some, same_Some}
use Rattle.plan_basics.specs.declared.keys.OpKey.{OpKey}
use Rattle.plan_forecast.specs.Ahead.{IsGoing}
use Rattle.plan_model.specs.Contents.{Contents, Operation}
use Rattle.plan_outlooks.specs.Overruns.{IsOverBy, RunsOver, planned_end}

pub over_told : (end : Option ℕ) (from : ℕ) (over : Option ℕ) → IsOverBy end from over → Decides (is_some over) ((e : ℕ) × (end ≡ Some e) × (e < from))
over_told None from None is = ((λ e. absurd (true≢false (sym e))), (λ h. absurd (none-some h.0 h.1)))
over_told None from (Some n) is = absurd (none-some n (sym is))
over_told (Some end) from None is = ((λ e. absurd (true≢false (sym e))), (λ h. absurd (let same = same_Some end h.0 h.1 in let less = h.2 in omega (arith, ints, is, same, less))))
over_told (Some end) from (Some n) is = ((λ e. (end, refl, (let some = is.0 in let late = is.1 in omega (arith, ints, some, late)))), (λ h. refl))

module _ (P : Contents) (known : OpKey → Option ℕ) (from : ℕ) (o : OpKey) (op : Operation) (is : get P.operations o ≡ Some op) (going : IsGoing P o) where
  pub runs_by : (over : Option ℕ) → IsOverBy (planned_end op (known o)) from over → Decides (is_some over) (RunsOver P known from o)
  runs_by over told =
      let d = over_told (planned_end op (known o)) from over told in (
        (λ e. (going, (op, is, d.0 e))),
        (λ h. d.1 (subst (λ (z : Operation). (e : ℕ) × (planned_end z (known o) ≡ Some e) × (e < from)) (same_Some h.1.0 op (sym h.1.1 ∙ is)) h.1.2)),
      )
