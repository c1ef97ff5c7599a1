-- What can be decided of pairs, of limits, and of what an operation reaches.
use Rattle.std.proofs.Common.{◌≡◌, ◌≢◌, inl, inr, ap, ◌≤◌, true, List, Contains, Some, is_some}
use Rattle.std.specs.declared.cmp.Ordering.{Ordering}
use Rattle.std.specs.Cmp.{IsTotalOrder}
use Rattle.std.specs.FinMap.{FinMap, IsAntisymmetric, contains_key, get, len}
use Rattle.std.specs.FinSet as set
use Rattle.plan_basics.specs.declared.limits.TheConstants.{MOST_OCCURRENCES, MOST_OPERATIONS, MOST_PAIRS, MOST_RESOURCES, MOST_WORKSTATIONS}
use Rattle.operation_graph.specs.Paths.{end_of}
use Rattle.plan_basics.specs.declared.keys.OccKey.{OccKey}
use Rattle.plan_basics.specs.Keys.{occurrence_cmp-IsAntisymmetric, occurrence_cmp_total}
use Rattle.plan_basics.specs.declared.keys.OpKey.{OpKey}
use Rattle.status_rules.specs.declared.Status.{Status}
use Rattle.status_rules.specs.declared.Status.TheVariants as status
use Rattle.plan_laws.proofs.Allowing.{told_le}
use Rattle.plan_laws.proofs.Entries.{same_operation, told_entries, told_has, told_operations}
use Rattle.plan_laws.proofs.Latest.{plan_paths}
use Rattle.plan_records.specs.plan_drafts.proofs.Tables.{is_found}
use Rattle.plan_laws.proofs.Ordered.{pairs_are_edges}
use Rattle.plan_laws.proofs.Readying.{ready_told}
use Rattle.plan_laws.proofs.Standing.{status_told}
use Rattle.operation_graph.proofs.Telling.{Told, told_alike, told_and, told_each, told_equal, told_if_then, told_none, told_or, told_some, told_three}
use Rattle.plan_records.specs.plan_model.specs.Contents.{Contents, IsInPlan, IsPairOf, Pairs}
use Rattle.plan_records.specs.plan_model.specs.Starts.{Reaches}
use Rattle.plan_records.specs.plan_model.specs.Status.{EachOperation, HasStatus, IsUnderWay, IsWaitingOrReady}
use Rattle.plan_records.specs.plan_model.specs.Valid.{IsAcyclic, IsWithinLimits}

-- ---- pairs, keys and limits

pub told_pairs : (pairs : Pairs) (Q : OpKey → OpKey → Type 0) → ((p o : OpKey) → Told (Q p o)) → Told ((p o : OpKey) → IsPairOf pairs p o → Q p o)
told_pairs pairs Q each = told_alike {A = (x : OpKey × OpKey) → Contains (set.items pairs) x → Q x.0 x.1}
    (λ h p o pair. h (p, o) ((pairs_are_edges pairs p o).0 pair))
    (λ h x has. h x.0 x.1 ((pairs_are_edges pairs x.0 x.1).1 has))
    (told_each (λ x. Q x.0 x.1) (λ x. each x.0 x.1) (set.items pairs))

pub told_keys : {K X : Type 0} {R : K → K → Ordering} → IsTotalOrder R → IsAntisymmetric R → (m : FinMap R X) (Q : K → Type 0) → ((k : K) → Told (Q k)) → Told ((k : K) → contains_key m k ≡ true → Q k)
told_keys {K} {X} o same m Q each = told_alike {A = (k : K) (x : X) → get m k ≡ Some x → Q k}
    (λ h k has. let x = is_found (get m k) has in h k x.0 x.1)
    (λ h k x e. h k (ap is_some e))
    (told_entries m o same (λ k x. Q k) (λ k x. each k))

pub limits_told : (P : Contents) → Told (IsWithinLimits P)
limits_told P = told_alike {A = ((len P.workstations ≤ MOST_WORKSTATIONS) × (len P.resources ≤ MOST_RESOURCES) × (len P.occurrences ≤ MOST_OCCURRENCES)) × ((len P.operations ≤ MOST_OPERATIONS) × (set.len P.pairs ≤ MOST_PAIRS))}
    (λ h. record { workstations = h.0.0; resources = h.0.1; occurrences = h.0.2; operations = h.1.0; pairs = h.1.1 })
    (λ h. ((h.workstations, h.resources, h.occurrences), (h.operations, h.pairs)))
    (told_and (told_three (told_le _ _) (told_le _ _) (told_le _ _)) (λ _. told_and (told_le _ _) (λ _. told_le _ _)))

pub same_occurrence : (a b : OccKey) → Told (a ≡ b)
same_occurrence = told_equal occurrence_cmp_total occurrence_cmp-IsAntisymmetric

-- ---- statuses of one operation, of an occurrence's, and of those that are reached

module _ (P : Contents) (acyclic : IsAcyclic P.pairs) where
  pub in_plan_told : (o : OpKey) → Told (IsInPlan P o)
  in_plan_told o = told_has P o (λ op. Unit {0}) (λ op e. inl tt)

  pub waiting_or_ready_told : (o : OpKey) → Told (IsWaitingOrReady P o)
  waiting_or_ready_told o = told_or (status_told P acyclic o status.Waiting) (ready_told P acyclic o)

  pub under_way_told : (o : OpKey) → Told (IsUnderWay P o)
  under_way_told o = told_or (status_told P acyclic o status.Started) (told_or (status_told P acyclic o status.Interrupted) (status_told P acyclic o status.Undecided))

  has_in_plan : (o : OpKey) (s : Status) → HasStatus P o s → IsInPlan P o
  has_in_plan o s h = (h.0, h.1, tt)

  under_way_in_plan : (o : OpKey) → IsUnderWay P o → IsInPlan P o
  under_way_in_plan o (inl h) = has_in_plan o status.Started h
  under_way_in_plan o (inr (inl h)) = has_in_plan o status.Interrupted h
  under_way_in_plan o (inr (inr h)) = has_in_plan o status.Undecided h

  pub each_operation_told : (c : OccKey) (s : Status) → Told (EachOperation P c s)
  each_operation_told c s = told_operations P (λ o. o.occurrence ≡ c → IsInPlan P o → HasStatus P o s)
      (λ o. told_if_then (same_occurrence o.occurrence c) (λ _. told_if_then (in_plan_told o) (λ _. status_told P acyclic o s)))
      (λ o not e h. absurd (not h))

  pub none_under_way_told : (c : OccKey) → Told ((o : OpKey) → o.occurrence ≡ c → ¬ IsUnderWay P o)
  none_under_way_told c = told_operations P (λ o. o.occurrence ≡ c → ¬ IsUnderWay P o)
      (λ o. told_if_then (same_occurrence o.occurrence c) (λ _. told_none (under_way_told o)))
      (λ o not e h. not (under_way_in_plan o h))

  pub reach_told : (o q : OpKey) → Told (Reaches P o q)
  reach_told o q =
      let paths = plan_paths P acyclic o in
      told_alike {A = (rest : List OpKey) × Contains paths.0 rest × (end_of o rest ≡ q)}
      (λ h. (h.0, (paths.1 h.0).0 h.1, h.2))
      (λ h. (h.0, (paths.1 h.0).1 h.1, h.2))
      (told_some (λ rest. end_of o rest ≡ q) (λ rest. same_operation (end_of o rest) q) paths.0)

  pub none_reached_told : (o : OpKey) → Told ((q : OpKey) → q ≢ o → Reaches P o q → ¬ IsUnderWay P q)
  none_reached_told o = told_operations P (λ q. q ≢ o → Reaches P o q → ¬ IsUnderWay P q)
      (λ q. told_if_then (told_none (same_operation q o)) (λ _. told_if_then (reach_told o q) (λ _. told_none (under_way_told q))))
      (λ q not apart reached h. not (under_way_in_plan q h))
