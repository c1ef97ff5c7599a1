-- Which operations are listed, in key order.
use Rattle.std.specs.Prelude.{◌≡◌, ◌↔◌, ◌&&◌, Bool, true, false, List, map, Contains}
use Rattle.std.specs.BTreeSet.{BTreeSet}
use Rattle.std.specs.BTreeSet as tree
use Rattle.std.specs.List.Sorted.{IsStrictlySortedBy}
use Rattle.std.specs.Ordering.{eq_by_cmp}
use Rattle.plan_basics.specs.Keys.{Name, name_cmp, occurrence_cmp, operation_cmp}
use Rattle.plan_basics.specs.declared.keys.OccKey.{OccKey}
use Rattle.plan_basics.specs.declared.keys.OpKey.{OpKey}
use Rattle.plan_model.specs.Contents.{Contents, Has, IsInPlan}
use Rattle.plan_model.specs.Status.{HasStatus}
use Rattle.plan_reasons.specs.plan_core.specs.Views.{IsOpView}
use Rattle.plan_reasons.specs.plan_core.specs.declared.views.OpView.{OpView}
use Rattle.status_rules.specs.declared.Status.{Status}
use Rattle.status_rules.specs.declared.Status.TheVariants.{Started}

-- the operations of which this is so, all of them and no others, in key order
pub record AreViewsOf (P : Contents) (IsListed : OpKey → Type 0) (views : List OpView) : Type 0 where
  pub in_order : IsStrictlySortedBy operation_cmp (map (λ v. v.key) views)
  pub every : (o : OpKey) → Contains (map (λ v. v.key) views) o ↔ IsListed o
  pub each : (v : OpView) → Contains views v → IsOpView P v

-- o is started (S): it was named, or it was reported
abbrev pub IsStarted : Contents → OpKey → Type 0
IsStarted P o = HasStatus P o Started

-- it is, on this workstation
abbrev pub IsStartedOn : Contents → Name → OpKey → Type 0
IsStartedOn P w o = IsStarted P o × Has P o (λ op. op.workstation ≡ w)

-- it is an operation of this occurrence
abbrev pub IsOfOccurrence : Contents → OccKey → OpKey → Type 0
IsOfOccurrence P c o = IsInPlan P o × (o.occurrence ≡ c)

-- ---- as tests of a view

-- whether the status is started
abbrev pub is_started : Status → Bool
is_started Started = true
is_started _ = false

-- whether an operation with this view is started on this workstation
abbrev pub is_started_on : Name → OpView → Bool
is_started_on w v = is_started v.status && eq_by_cmp name_cmp v.workstation w

-- whether it is of this occurrence
abbrev pub is_of_occurrence : OccKey → OpView → Bool
is_of_occurrence c v = eq_by_cmp occurrence_cmp v.key.occurrence c

-- whether its key is among these
abbrev pub has_key : BTreeSet OpKey → OpView → Bool
has_key keys v = tree.contains operation_cmp keys v.key
