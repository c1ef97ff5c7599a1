-- The latest starts of the night's plan.
use Rattle.std.proofs.Common.{rules, ◌≡◌, refl, subst, sym, pos, Some}
use Rattle.std.specs.FinMap.{get}
use Rattle.plan_model.specs.Contents.{Operations}
use Rattle.plan_model.specs.Starts.{IsLatestStart}
use Rattle.worked_examples.specs.Night.{night, night_pairs, payroll_at}
use Rattle.worked_examples.specs.Statements.{LatestStartsOfTheNight}
use Rattle.worked_examples.proofs.Moments.{starts_are}
use Rattle.worked_examples.proofs.NightReports.{found_at, p5, p10, p20, p30, p40}
use Rattle.worked_examples.proofs.NightStatuses.{reported}
use Rattle.worked_examples.proofs.Starts.{starts_at_end, starts_before}

-- 20, 30 and 40 are there as they were planned
abbrev pub AreAsPlanned : Operations → Type 0
AreAsPlanned operations = (get operations (payroll_at 20) ≡ Some p20) × (get operations (payroll_at 30) ≡ Some p30) × (get operations (payroll_at 40) ≡ Some p40)

-- then they have these latest starts, whatever is reported of the others
module _ (operations : Operations) (are : AreAsPlanned operations) where
  pub latest_40 : IsLatestStart (reported operations) (payroll_at 40) (pos 27438040)
  latest_40 = starts_at_end (reported operations) night_pairs refl (payroll_at 40) p40 are.2 refl

  pub latest_30 : IsLatestStart (reported operations) (payroll_at 30) (pos 27438039)
  latest_30 = starts_before (reported operations) night_pairs refl (payroll_at 30) p30 are.1 (payroll_at 40) p40 _ are.2 (λ e. cc) refl refl latest_40 (search rules)

  pub latest_20 : IsLatestStart (reported operations) (payroll_at 20) (pos 27437979)
  latest_20 = starts_before (reported operations) night_pairs refl (payroll_at 20) p20 are.0 (payroll_at 30) p30 _ are.1 (λ e. cc) refl refl latest_30 (search rules)

when_loaded : AreAsPlanned night.operations
when_loaded = (found_at (payroll_at 20), found_at (payroll_at 30), found_at (payroll_at 40))

latest_10 : IsLatestStart night (payroll_at 10) (pos 27437949)
latest_10 = starts_before night night_pairs refl (payroll_at 10) p10 (found_at (payroll_at 10)) (payroll_at 20) p20 _ (found_at (payroll_at 20)) (λ e. cc) refl refl (latest_20 night.operations when_loaded) (search rules)

pub latest_5 : IsLatestStart night (payroll_at 5) (pos 27437939)
latest_5 = starts_before night night_pairs refl (payroll_at 5) p5 (found_at (payroll_at 5)) (payroll_at 10) p10 _ (found_at (payroll_at 10)) (λ e. cc) refl refl latest_10 (search rules)

pub latest_starts : LatestStartsOfTheNight
latest_starts = (
  subst (IsLatestStart night (payroll_at 5)) (sym starts_are.0) latest_5,
  subst (IsLatestStart night (payroll_at 10)) (sym starts_are.1) latest_10,
  subst (IsLatestStart night (payroll_at 20)) (sym starts_are.2) (latest_20 night.operations when_loaded),
  subst (IsLatestStart night (payroll_at 30)) (sym starts_are.3) (latest_30 night.operations when_loaded),
  subst (IsLatestStart night (payroll_at 40)) (sym starts_are.4) (latest_40 night.operations when_loaded),
)
