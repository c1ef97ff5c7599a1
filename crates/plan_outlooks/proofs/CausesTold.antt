-- What an operation begins after, found in the order of the causes.
use Rattle.std.proofs.Common.{◌≡◌, inl, inr, arith, ℕ, ◌<◌, Option, Some, None}
use Rattle.plan_basics.specs.declared.keys.OpKey.{OpKey}
use Rattle.plan_forecast.specs.Ahead.{IsGoing}
use Rattle.plan_model.specs.Contents.{Has}
use Rattle.plan_reasons.specs.declared.reasons.Reason.{Reason}
use Rattle.plan_outlooks.specs.Forecasts.{Forecast}
use Rattle.plan_outlooks.specs.PathParts.{IsBefore, IsFirstIn}
use Rattle.plan_outlooks.specs.Paths.{CauseCase, IsAwaited, IsFreeing, OpensAt, cause_place}
use Rattle.plan_outlooks.specs.declared.rows.Cause.{Cause}
use Rattle.plan_outlooks.specs.declared.rows.Cause.TheVariants as cause

module _ (F : Forecast) (o : OpKey) (m : ℕ) (lack : Option Reason) where
  pub by_now : CauseCase F o m cause.Now → IsBefore F o m lack cause.Now None
  by_now is = ((is, first), tt)
    where
      first : (d : Cause) → cause_place d < cause_place cause.Now → ¬ CauseCase F o m d
      first cause.Now less h = omega (arith, less)
      first cause.After less h = omega (arith, less)
      first cause.NotBefore less h = omega (arith, less)
      first cause.Opens less h = omega (arith, less)
      first cause.Frees less h = omega (arith, less)

  module _ (later : ¬ IsGoing F.plan.contents o) (after : ¬ (m ≡ F.from)) where
    not_now : ¬ CauseCase F o m cause.Now
    not_now (inl going) = later going
    not_now (inr at) = after at

    pub by_after : (i : ℕ) → IsFirstIn F (IsAwaited F o m) (Some i) → IsBefore F o m lack cause.After (Some i)
    by_after i (p, at, is) = (((p, is.0), first), (p, is, at))
      where
        first : (d : Cause) → cause_place d < cause_place cause.After → ¬ CauseCase F o m d
        first cause.Now less h = not_now h
        first d less h = omega (arith, less)

    module _ (none : (p : OpKey) → ¬ IsAwaited F o m p) where
      pub by_not_before : Has F.plan.contents o (λ op. op.not_before ≡ m) → IsBefore F o m lack cause.NotBefore None
      by_not_before is = ((is, first), tt)
        where
          first : (d : Cause) → cause_place d < cause_place cause.NotBefore → ¬ CauseCase F o m d
          first cause.Now less h = not_now h
          first cause.After less h = none h.0 h.1
          first d less h = omega (arith, less)

      module _ (other : ¬ Has F.plan.contents o (λ op. op.not_before ≡ m)) where
        pub by_opens : OpensAt F.plan.contents o m → IsBefore F o m lack cause.Opens None
        by_opens is = ((is, first), tt)
          where
            first : (d : Cause) → cause_place d < cause_place cause.Opens → ¬ CauseCase F o m d
            first cause.Now less h = not_now h
            first cause.After less h = none h.0 h.1
            first cause.NotBefore less h = other h
            first d less h = omega (arith, less)

        module _ (shut : ¬ OpensAt F.plan.contents o m) where
          before_frees : (d : Cause) → cause_place d < cause_place cause.Frees → ¬ CauseCase F o m d
          before_frees cause.Now less h = not_now h
          before_frees cause.After less h = none h.0 h.1
          before_frees cause.NotBefore less h = other h
          before_frees cause.Opens less h = shut h
          before_frees cause.Frees less h = omega (arith, less)

          pub by_frees : (found : Option ℕ) → IsFirstIn F (IsFreeing F m lack) found → IsBefore F o m lack cause.Frees found
          by_frees None nothing = ((tt, before_frees), inr (nothing, tt))
          by_frees (Some i) (q, at, is) = ((tt, before_frees), inl (q, is, at))
