-- The order of groups ties only equal ones.
use Rattle.std.proofs.Common.{◌≡◌, refl, sym, ap, subst, ℕ}
use Rattle.std.specs.declared.cmp.Ordering.{Ordering}
use Rattle.std.specs.declared.cmp.Ordering.TheVariants.{Equal}
use Rattle.std.specs.Ordering.{nat_cmp, ordering_then}
use Rattle.std.specs.FinMap.{IsAntisymmetric}
use Rattle.plan_basics.specs.Keys.{name_cmp, name_cmp-IsAntisymmetric, operation_cmp, operation_cmp-IsAntisymmetric}
use Rattle.record_faults.specs.declared.groups.Group.{Group}
use Rattle.record_faults.specs.declared.groups.Group.TheVariants as group
use Rattle.record_faults.specs.contracts.groups.GroupOrd.TheImpl as derived

-- groups in their order
abbrev rank : Group → ℕ
rank group.Workstations = 0
rank (group.IntervalsOf w) = 1
rank group.Resources = 2
rank group.Occurrences = 3
rank group.Operations = 4
rank group.Dependencies = 5
rank (group.NeedsOf o) = 6

abbrev owner_cmp : Group → Group → Ordering
owner_cmp (group.IntervalsOf a) (group.IntervalsOf b) = name_cmp a b
owner_cmp (group.NeedsOf a) (group.NeedsOf b) = operation_cmp a b
owner_cmp a b = Equal

abbrev group_cmp : Group → Group → Ordering
group_cmp a b = ordering_then (nat_cmp (rank a) (rank b)) (owner_cmp a b)

derived_at : (a b : Group) → derived.ghosts.cmp a b ≡ group_cmp a b
derived_at group.Workstations group.Workstations = refl
derived_at (group.IntervalsOf a) (group.IntervalsOf b) = refl
derived_at group.Resources group.Resources = refl
derived_at group.Occurrences group.Occurrences = refl
derived_at group.Operations group.Operations = refl
derived_at group.Dependencies group.Dependencies = refl
derived_at (group.NeedsOf a) (group.NeedsOf b) = refl
derived_at a b = refl

group_cmp-IsAntisymmetric : IsAntisymmetric group_cmp
group_cmp-IsAntisymmetric group.Workstations group.Workstations e = refl
group_cmp-IsAntisymmetric (group.IntervalsOf a) (group.IntervalsOf b) e = ap group.IntervalsOf (name_cmp-IsAntisymmetric a b e)
group_cmp-IsAntisymmetric group.Resources group.Resources e = refl
group_cmp-IsAntisymmetric group.Occurrences group.Occurrences e = refl
group_cmp-IsAntisymmetric group.Operations group.Operations e = refl
group_cmp-IsAntisymmetric group.Dependencies group.Dependencies e = refl
group_cmp-IsAntisymmetric (group.NeedsOf a) (group.NeedsOf b) e = ap group.NeedsOf (operation_cmp-IsAntisymmetric a b e)
group_cmp-IsAntisymmetric a b e = absurd (cc)

pub exact : IsAntisymmetric derived.ghosts.cmp
exact = subst IsAntisymmetric (λ i a b. sym (derived_at a b) i) group_cmp-IsAntisymmetric
