use Rattle.std.proofs.Common.{◌≡◌, Bool, not, Decides, refl, subst, sym, true≢false}
use Rattle.plan_outlooks.proofs.occurrences.is_outstanding.Goals as goal
use Rattle.status_rules.specs.Classes.{is_over}
use Rattle.status_rules.specs.declared.OccStatus.{OccStatus}
use Rattle.status_rules.specs.declared.OccStatus.TheVariants as occurrence

-- what isn't over is neither complete nor deleted
not_over : (s : OccStatus) → Decides (not (is_over s)) (¬ (s ≡ occurrence.Complete) × ¬ (s ≡ occurrence.Deleted))
not_over occurrence.Complete = (λ e. absurd (true≢false (sym e)), λ h. absurd (h.0 refl))
not_over occurrence.Deleted = (λ e. absurd (true≢false (sym e)), λ h. absurd (h.1 refl))
not_over s = (λ _. (λ e. cc, λ e. cc), λ _. refl)

pub returns : goal.returns
returns c = subst (λ (b : Bool). Decides (not b) (¬ (c.args.status ≡ occurrence.Complete) × ¬ (c.args.status ≡ occurrence.Deleted))) (sym c.is_over.ensures) (not_over c.args.status)
