use Rattle.std.proofs.Common.{refl, subst, sym}
use Rattle.plan_rows.specs.Touched.{IsFacilityChange}
use Rattle.plan_rows.specs.declared.notes.FacilityChange.TheVariants as kind
use Rattle.small_requests.proofs.Written.{keeps_quantities}
use Rattle.small_requests.proofs.revisions.Revision.facility_change.Goals as goal
use Rattle.small_requests.specs.Revisions.{written}
use Rattle.small_requests.specs.declared.revisions.Revision.{Revision}

pub returns-in-Available : goal.returns-in-Available
returns-in-Available c keys P = subst (λ (x : Revision). IsFacilityChange kind.Resources P (written keys x P)) (sym c.in-Available.is) (refl, refl, keeps_quantities P _ _)
