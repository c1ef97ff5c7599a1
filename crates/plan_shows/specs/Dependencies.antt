-- The dependencies of an occurrence.
use Rattle.std.specs.Prelude.{◌≡◌, ◌⊎◌, ◌↔◌, ◌||◌, Bool, List, Contains}
use Rattle.std.specs.List.{AllZip}
use Rattle.std.specs.List.Sorted.{IsStrictlySortedBy}
use Rattle.std.specs.Ordering.{eq_by_cmp}
use Rattle.plan_basics.specs.Keys.{occurrence_cmp}
use Rattle.plan_basics.specs.declared.keys.OccKey.{OccKey}
use Rattle.plan_basics.specs.declared.keys.OpKey.{OpKey}
use Rattle.plan_model.specs.Contents.{Contents, IsInPlan, Precedes, pair_cmp}
use Rattle.plan_model.specs.Status.{HasStatus}
use Rattle.plan_shows.specs.declared.dependencies.DependencyView.{DependencyView}

-- a predecessor and a successor of the plan, one of which at least is in the occurrence
abbrev pub IsDependencyOf : Contents → OccKey → OpKey × OpKey → Type 0
IsDependencyOf P c x = Precedes P x.0 x.1 × ((x.0.occurrence ≡ c) ⊎ (x.1.occurrence ≡ c))

-- both are operations of the plan
abbrev pub AreInPlan : Contents → OpKey × OpKey → Type 0
AreInPlan P x = IsInPlan P x.0 × IsInPlan P x.1

-- both, each with its status
pub record IsDependencyView (P : Contents) (x : OpKey × OpKey) (v : DependencyView) : Type 0 where
  pub ends : (v.predecessor ≡ x.0) × (v.successor ≡ x.1)
  pub statuses : HasStatus P x.0 v.predecessor_status × HasStatus P x.1 v.successor_status

-- all dependencies of the occurrence and no others, by predecessor, then successor
pub record AreDependencyViews (P : Contents) (c : OccKey) (views : List DependencyView) : Type 0 where
  pub pairs : List (OpKey × OpKey)
  pub in_order : IsStrictlySortedBy pair_cmp pairs
  pub every : (x : OpKey × OpKey) → Contains pairs x ↔ IsDependencyOf P c x
  pub each : AllZip (IsDependencyView P) pairs views

-- whether an end of the pair is in the occurrence
abbrev pub has_end_in : OccKey → OpKey × OpKey → Bool
has_end_in c x = eq_by_cmp occurrence_cmp x.0.occurrence c || eq_by_cmp occurrence_cmp x.1.occurrence c
