-- Whether a request may be accepted can be decided, refusal by refusal.
use Rattle.std.proofs.Common.{◌≡◌, ◌⊎◌, inl, inr, refl, sym, subst, arith, ℕ, ◌≤◌, Bool, true, false, List, length, Option, Some, None, ℤ, pos, negsuc, is_some}
use Rattle.std.specs.Prelude.{◌≤ℤ◌}
use Rattle.std.specs.FinMap.{contains_key, get}
use Rattle.std.specs.FinSet as set
use Rattle.std.proofs.lemmas.Int.{by_lt_z, ints}
use Rattle.plan_basics.specs.declared.limits.TheConstants.{MOST_INTERVALS}
use Rattle.plan_basics.specs.declared.Attr.{Attr}
use Rattle.plan_basics.specs.declared.Attr.TheVariants as attribute
use Rattle.plan_basics.specs.declared.keys.OccKey.{OccKey}
use Rattle.plan_basics.specs.declared.keys.OpKey.{OpKey}
use Rattle.plan_basics.specs.declared.Refusal.{Refusal}
use Rattle.plan_basics.specs.declared.Refusal.TheVariants as refusal
use Rattle.plan_basics.specs.Intervals.{AreApart, OpenInterval}
use Rattle.plan_basics.specs.Keys.{Name, name_cmp-IsAntisymmetric, name_cmp_total, occurrence_cmp-IsAntisymmetric, occurrence_cmp_total, operation_cmp-IsAntisymmetric, operation_cmp_total}
use Rattle.plan_basics.specs.Minutes.{IsMoment}
use Rattle.status_rules.specs.declared.Mark.{Mark}
use Rattle.status_rules.specs.declared.Mark.TheVariants as mark
use Rattle.status_rules.specs.declared.Status.TheVariants as status
use Rattle.plan_laws.proofs.Allowing.{may_start_told, told_le}
use Rattle.plan_laws.proofs.Elements.{told_pairs_of}
use Rattle.plan_laws.proofs.Entries.{told_each_at, told_entries}
use Rattle.plan_laws.proofs.Leaving.{left_acyclic, one_left}
use Rattle.plan_laws.proofs.Ordered.{told_acyclic_pairs}
use Rattle.plan_laws.proofs.Reaching.{each_operation_told, in_plan_told, limits_told, none_reached_told, none_under_way_told, told_keys, told_pairs, under_way_told, waiting_or_ready_told}
use Rattle.plan_laws.proofs.Readying.{ready_told}
use Rattle.plan_laws.proofs.Standing.{status_told}
use Rattle.plan_laws.proofs.Waiting.{some_left}
use Rattle.plan_laws.proofs.Decide.{told_attribute}
use Rattle.operation_graph.proofs.Telling.{Told, told_alike, told_and, told_if_then, told_none, told_or, told_true}
use Rattle.plan_records.specs.plan_model.specs.Plan.{Plan}
use Rattle.plan_records.specs.plan_model.specs.Contents.{Contents, Operation, AddedParts, attribute_at}
use Rattle.plan_records.specs.plan_model.specs.Valid.{AmountsFit, HaveResources, HaveWorkstations, IsAcyclic}
use Rattle.plan_records.specs.plan_model.specs.declared.Stock.{Stock}
use Rattle.special_resources.specs.Holders.{Usage}
use Rattle.plan_records.specs.Acceptance.{IsBadText, IsLoad, IsNew, IsOld, MayBeAccepted, MayBeAdded, MayBeCompleted, MayBeDeleted, MayBeDone, MayBeEnded, MayBeFlagged, MayBeInterrupted, MayBeLoaded, MayBeOpenBy, MayBePaired, MayBeRerun, MayBeSetAvailable, MayBeStarted, MayBeUndecided, NeedsPlan, OfOperation, minute_of}
use Rattle.plan_records.specs.Changes.{LeavesOver, with_pair, with_added}
use Rattle.plan_records.specs.declared.Request.{Request}
use Rattle.plan_records.specs.declared.What.{What}
use Rattle.plan_records.specs.declared.What.TheVariants as what

told_named : (m : Mark) → Told (m ≡ mark.Named)
told_named mark.Named = inl refl
told_named m = inr (λ e. cc)

told_apart : (a b : OpenInterval) → Told (AreApart a b)
told_apart a b = told_or (told_le a.end b.from) (told_le b.end a.from)

told_has_key : (b : Bool) → Told (b ≡ true)
told_has_key b = told_true b true

module _ (P : Contents) (acyclic : IsAcyclic P.pairs) where
  -- ---- reports

  started_told : (m : ℕ) (o : OpKey) (op : Operation) (a : Option Attr) (r : Refusal) → Told (MayBeStarted P m o op a r)
  started_told m o op (Some attribute.Automatic) refusal.WrongStatus = told_named op.mark
  started_told m o op (Some attribute.StartAndCompletion) r = may_start_told P acyclic o op m r
  started_told m o op (Some attribute.CompletionOnly) refusal.WrongWorkstation = inr (λ h. h)
  started_told m o op (Some attribute.Nonreporting) refusal.WrongWorkstation = inr (λ h. h)
  started_told m o op a r = inl tt

  ended_told : (o : OpKey) (op : Operation) (a : Option Attr) (r : Refusal) → Told (MayBeEnded P o op a r)
  ended_told o op (Some attribute.Automatic) refusal.WrongStatus = told_or (status_told P acyclic o status.Started) (status_told P acyclic o status.Undecided)
  ended_told o op (Some attribute.StartAndCompletion) refusal.WrongStatus = told_or (status_told P acyclic o status.Started) (status_told P acyclic o status.Undecided)
  ended_told o op (Some attribute.CompletionOnly) refusal.WrongStatus = ready_told P acyclic o
  ended_told o op (Some attribute.CompletionOnly) refusal.Held = told_true op.held false
  ended_told o op (Some attribute.Nonreporting) refusal.WrongWorkstation = inr (λ h. h)
  ended_told o op a r = inl tt

  interrupted_told : (o : OpKey) (op : Operation) (r : Refusal) → Told (MayBeInterrupted P o op r)
  interrupted_told o op refusal.WrongStatus = status_told P acyclic o status.Started
  interrupted_told o op refusal.WrongWorkstation = told_attribute P op.workstation attribute.StartAndCompletion
  interrupted_told o op r = inl tt

  undecided_told : (o : OpKey) (r : Refusal) → Told (MayBeUndecided P o r)
  undecided_told o refusal.WrongStatus = status_told P acyclic o status.Started
  undecided_told o r = inl tt

  -- ---- commands

  flagged_told : (o : OpKey) (r : Refusal) → Told (MayBeFlagged P o r)
  flagged_told o refusal.WrongStatus = waiting_or_ready_told P acyclic o
  flagged_told o r = inl tt

  rerun_told : (o : OpKey) (r : Refusal) → Told (MayBeRerun P o r)
  rerun_told o refusal.WrongStatus = told_or (status_told P acyclic o status.Interrupted) (told_or (status_told P acyclic o status.Complete) (told_or (status_told P acyclic o status.Error) (status_told P acyclic o status.Undecided)))
  rerun_told o refusal.Running = none_reached_told P acyclic o
  rerun_told o r = inl tt

  completed_told : (o : OpKey) (op : Operation) (r : Refusal) → Told (MayBeCompleted P o op r)
  completed_told o op refusal.WrongStatus = told_or (ready_told P acyclic o) (told_or (under_way_told P acyclic o) (status_told P acyclic o status.Error))
  completed_told o op refusal.Held = told_true op.held false
  completed_told o op r = inl tt

  deleted_told : (c : OccKey) (r : Refusal) → Told (MayBeDeleted P c r)
  deleted_told c refusal.UnknownOccurrence = told_has_key (contains_key P.occurrences c)
  deleted_told c refusal.WrongStatus = told_none (each_operation_told P acyclic c status.Deleted)
  deleted_told c refusal.Running = none_under_way_told P acyclic c
  deleted_told c r = inl tt

  -- ---- what is added

  module _ (s : AddedParts) where
    new_told : (o : OpKey) → Told (IsNew s o)
    new_told o = told_has_key (contains_key s.operations o)

    old_told : (o : OpKey) → Told (IsOld P s o)
    old_told o = told_and (in_plan_told P acyclic o) (λ _. told_none (told_has_key (contains_key s.occurrences o.occurrence)))

    workstations_told : Told (HaveWorkstations P.workstations s.operations)
    workstations_told = told_entries s.operations operation_cmp_total operation_cmp-IsAntisymmetric (λ o op. contains_key P.workstations op.workstation ≡ true) (λ o op. told_has_key (contains_key P.workstations op.workstation))

    resources_told : Told (HaveResources P.resources s.operations)
    resources_told = told_entries s.operations operation_cmp_total operation_cmp-IsAntisymmetric (λ o op. (r : Name) (usage : _) → get op.needs r ≡ Some usage → contains_key P.resources r ≡ true)
        (λ o op. told_entries op.needs name_cmp_total name_cmp-IsAntisymmetric (λ r usage. contains_key P.resources r ≡ true) (λ r usage. told_has_key (contains_key P.resources r)))

    amounts_told : Told (AmountsFit P.resources s.operations)
    amounts_told = told_entries s.operations operation_cmp_total operation_cmp-IsAntisymmetric
        (λ o op. (r : Name) (usage : Usage) → get op.needs r ≡ Some usage → (stock : Stock) → get P.resources r ≡ Some stock → usage.claim.amount ≤ stock.quantity)
        (λ o op. told_entries op.needs name_cmp_total name_cmp-IsAntisymmetric (λ r usage. (stock : Stock) → get P.resources r ≡ Some stock → usage.claim.amount ≤ stock.quantity)
        (λ r usage. told_each_at P.resources r (λ stock. usage.claim.amount ≤ stock.quantity) (λ stock e. told_le usage.claim.amount stock.quantity)))

    added_told : (r : Refusal) → Told (MayBeAdded P s r)
    added_told refusal.UnknownOperation = told_pairs s.pairs (λ p o. (IsNew s p ⊎ IsOld P s p) × (IsNew s o ⊎ IsOld P s o)) (λ p o. told_and (told_or (new_told p) (old_told p)) (λ _. told_or (new_told o) (old_told o)))
    added_told refusal.UnknownWorkstation = workstations_told
    added_told refusal.UnknownResource = resources_told
    added_told refusal.WrongStatus = told_pairs s.pairs _ (λ p o. told_and (told_if_then (old_told o) (λ _. waiting_or_ready_told P acyclic o)) (λ _. told_if_then (old_told p) (λ _. told_none (status_told P acyclic p status.Deleted))))
    added_told refusal.Duplicate = told_keys occurrence_cmp_total occurrence_cmp-IsAntisymmetric s.occurrences (λ c. contains_key P.occurrences c ≡ false) (λ c. told_true (contains_key P.occurrences c) false)
    added_told refusal.Cycle = told_acyclic_pairs (with_added P s).pairs
    added_told refusal.Limit = told_and (limits_told (with_added P s)) (λ _. amounts_told)
    added_told r = inl tt

module _ (P : Contents) (acyclic : IsAcyclic P.pairs) where
  -- judged on what is left
  extended_told : (s : AddedParts) (r : Refusal) → Told ((left : Contents) → LeavesOver P left → MayBeAdded left s r)
  extended_told s r =
      let one = some_left P acyclic in
      let acyclic_left : IsAcyclic one.0.pairs = subst (λ X. IsAcyclic X.pairs) (sym one.1.2) (left_acyclic P one.1.0 acyclic) in
      told_alike
      (λ h left leaves. subst (λ X. MayBeAdded X s r) (one_left P one.0 left one.1 leaves) h)
      (λ f. f one.0 one.1)
      (added_told one.0 acyclic_left s r)

  paired_told : (p s : OpKey) (r : Refusal) → Told (MayBePaired P p s r)
  paired_told p s refusal.UnknownOperation = told_and (in_plan_told P acyclic p) (λ _. in_plan_told P acyclic s)
  paired_told p s refusal.WrongStatus = told_and (told_none (status_told P acyclic p status.Deleted)) (λ _. waiting_or_ready_told P acyclic s)
  paired_told p s refusal.Duplicate = told_none (told_has_key (set.contains P.pairs (p, s)))
  paired_told p s refusal.Cycle = told_acyclic_pairs (with_pair P p s).pairs
  paired_told p s refusal.Limit = limits_told (with_pair P p s)
  paired_told p s r = inl tt

  set_available_told : (n : Name) (r : Refusal) → Told (MayBeSetAvailable P n r)
  set_available_told n refusal.UnknownResource = told_has_key (contains_key P.resources n)
  set_available_told n r = inl tt

  open_by_told : (w : Name) (items : List OpenInterval) (r : Refusal) → Told (MayBeOpenBy P w items r)
  open_by_told w items refusal.UnknownWorkstation = told_has_key (contains_key P.workstations w)
  open_by_told w items refusal.Limit = told_le (length items) MOST_INTERVALS
  open_by_told w items refusal.BadPlan = told_pairs_of AreApart told_apart items
  open_by_told w items r = inl tt

  loaded_told : (denotes : Bool) (r : Refusal) → Told (MayBeLoaded denotes r)
  loaded_told denotes refusal.BadPlan = told_true denotes true
  loaded_told denotes r = inl tt

  bad_text_told : (r : Refusal) → Told (IsBadText r)
  bad_text_told refusal.BadPlan = inr (λ h. h)
  bad_text_told r = inl tt

  -- ---- each request

  of_operation_told : (o : OpKey) (rest : Operation → Refusal → Type 0) → ((op : Operation) (r : Refusal) → Told (rest op r)) → (r : Refusal) → Told (OfOperation P o rest r)
  of_operation_told o rest each refusal.UnknownOperation = in_plan_told P acyclic o
  of_operation_told o rest each r = told_each_at P.operations o (λ op. rest op r) (λ op e. each op r)

  pub done_told : (m : ℕ) (w : What) (r : Refusal) → Told (MayBeDone P m w r)
  done_told m (what.Load draft) r = loaded_told (is_some draft) r
  done_told m what.Tick r = inl tt
  done_told m (what.Started o) r = of_operation_told o _ (λ op. started_told P acyclic m o op (attribute_at P op.workstation)) r
  done_told m (what.Ended o) r = of_operation_told o _ (λ op. ended_told P acyclic o op (attribute_at P op.workstation)) r
  done_told m (what.Error o code) r = of_operation_told o _ (λ op. ended_told P acyclic o op (attribute_at P op.workstation)) r
  done_told m (what.Interrupted o) r = of_operation_told o _ (interrupted_told P acyclic o) r
  done_told m (what.Unknown o) r = of_operation_told o _ (λ op. undecided_told P acyclic o) r
  done_told m (what.Hold o) r = of_operation_told o _ (λ op. flagged_told P acyclic o) r
  done_told m (what.Release o) r = of_operation_told o _ (λ op. flagged_told P acyclic o) r
  done_told m (what.Nop o) r = of_operation_told o _ (λ op. flagged_told P acyclic o) r
  done_told m (what.Unnop o) r = of_operation_told o _ (λ op. flagged_told P acyclic o) r
  done_told m (what.Rerun o) r = of_operation_told o _ (λ op. rerun_told P acyclic o) r
  done_told m (what.Complete o) r = of_operation_told o _ (completed_told P acyclic o) r
  done_told m (what.DeleteOccurrence c) r = deleted_told P acyclic c r
  done_told m (what.AddOccurrence None) r = bad_text_told r
  done_told m (what.AddOccurrence (Some s)) r = added_told P acyclic s r
  done_told m (what.Extend None) r = bad_text_told r
  done_told m (what.Extend (Some s)) r = extended_told s r
  done_told m (what.AddDependency p s) r = paired_told p s r
  done_told m (what.SetAvailable n available) r = set_available_told n r
  done_told m (what.ReplaceIntervals w items) r = open_by_told w items.items r

-- ---- the moment

not_after : (a b : ℤ) → Told (a ≤ℤ b)
not_after a b = by_lt_z b a (λ less. inr (λ h. omega (arith, ints, less, h))) (λ le. inl le)

same_moment : (a b : ℕ) → pos a ≡ pos b → a ≡ b
same_moment a b e = cc

never_negative : (n m : ℕ) → negsuc n ≡ pos m → ⊥
never_negative n m e = cc

moment_told : (z : ℤ) → Told ((m : ℕ) × (z ≡ pos m) × IsMoment m)
moment_told (pos n) = told_alike {A = IsMoment n} (λ h. (n, refl, h)) (λ h. subst IsMoment (sym (same_moment n h.0 h.1)) h.2) (told_le _ _)
moment_told (negsuc n) = inr (λ h. never_negative n h.0 h.1)

needs_plan_told : (w : What) → Told (NeedsPlan w)
needs_plan_told (what.Load draft) = inr (λ h. h)
needs_plan_told w = inl tt

is_load_told : (w : What) → Told (IsLoad w)
is_load_told (what.Load draft) = inl tt
is_load_told w = inr (λ h. h)

-- whether the request may be accepted, under each refusal
pub accepted_told : (P : Plan) → IsAcyclic P.contents.pairs → (q : Request) (r : Refusal) → Told (MayBeAccepted P q r)
accepted_told P acyclic q refusal.Past = not_after (pos P.clock) q.at
accepted_told P acyclic q refusal.MomentRange = moment_told q.at
accepted_told P acyclic q refusal.NotLoaded = told_if_then (needs_plan_told q.what) (λ _. told_true P.loaded true)
accepted_told P acyclic q refusal.Loaded = told_if_then (is_load_told q.what) (λ _. told_true P.loaded false)
accepted_told P acyclic q r = done_told P.contents acyclic (minute_of q.at) q.what r
