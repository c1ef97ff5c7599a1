-- What is decided of an operation by its status.
use Rattle.std.proofs.Common.{◌≡◌, ◌⊎◌, inl, inr, refl, sym, ◌∙◌, ap, subst, Bool, true, false, true≢false, not}
use Rattle.std.specs.Prelude.{Decides}
use Rattle.std.proofs.lemmas.Bool.{false_from_ne_true}
use Rattle.plan_basics.specs.declared.keys.OpKey.{OpKey}
use Rattle.plan_forecast.specs.plan_laws.proofs.Standing.{one_status}
use Rattle.plan_model.specs.Contents.{Contents}
use Rattle.plan_model.specs.Status.{HasStatus}
use Rattle.plan_model.specs.Valid.{IsValid}
use Rattle.status_rules.specs.declared.Status.{Status}
use Rattle.status_rules.specs.declared.Status.TheVariants.{Complete, Deleted}
use Rattle.plan_outlooks.specs.Forecasts.{Begins, Forecast, HasBegun, IsOutstanding, NeverBegins}

module _ (P : Contents) (valid : IsValid P) (o : OpKey) (s : Status) (has : HasStatus P o s) where
  one : (t : Status) → HasStatus P o t → s ≡ t
  one t h = one_status P valid.acyclic o s t has h

  pub outstanding_by : (b : Bool) → Decides b (¬ (s ≡ Complete) × ¬ (s ≡ Deleted)) → Decides b (IsOutstanding P o)
  outstanding_by b told = (
    (λ e. let are = told.0 e in ((has.0, has.1, tt), (λ h. are.0 (one Complete h)), (λ h. are.1 (one Deleted h)))),
    (λ is. told.1 ((λ e. is.1 (subst (HasStatus P o) e has)), (λ e. is.2 (subst (HasStatus P o) e has)))),
  )

  pub complete_by : (b : Bool) → Decides b (s ≡ Complete) → Decides b (HasStatus P o Complete)
  complete_by b told = ((λ e. subst (HasStatus P o) (told.0 e) has), (λ h. told.1 (one Complete h)))

-- where the first isn't so the second decides
pub else_by : (X Y : Type 0) (a b : Bool) → Decides a X → a ≡ false → Decides b Y → Decides b (X ⊎ Y)
else_by X Y a b first off told = (
  (λ e. inr (told.0 e)),
  (λ h. elim h [ inl x ↦ absurd (true≢false (sym (first.1 x) ∙ off)) | inr y ↦ told.1 y ]),
)

pub so_by : (X : Type 0) (b : Bool) → b ≡ true → X → Decides b X
so_by X b on is = ((λ e. is), (λ h. on))

pub not_by : (X : Type 0) (b : Bool) → b ≡ false → ¬ X → Decides b X
not_by X b off never = ((λ e. absurd (true≢false (sym e ∙ off))), (λ h. absurd (never h)))

pub not_true : (b : Bool) → not b ≡ true → b ≡ false
not_true false e = refl
not_true true e = cc

module _ (F : Forecast) (o : OpKey) where
  pub never_by : IsOutstanding F.plan.contents o → (b : Bool) → Decides b (HasBegun F o) → Decides (not b) (NeverBegins F o)
  never_by is b told = (
    (λ e. (is, λ begun. true≢false (sym (told.1 begun) ∙ not_true b e))),
    (λ never. ap not (false_from_ne_true b (λ e. never.1 (told.0 e)))),
  )

  pub both_by : IsOutstanding F.plan.contents o → (b : Bool) → Decides b (HasBegun F o) → Decides b (Begins F o)
  both_by is b told = ((λ e. (is, told.0 e)), (λ begins. told.1 begins.1))
