-- BACKUP may be added to the small plan, and what the plan holds with it.
use Rattle.std.proofs.Common.{rules, arith, pos, ◌≡◌, inl, inr, refl, sym, ◌∙◌, ap, subst, true≢false, ◌⊎◌, ℕ, ◌+◌, ◌<◌, ◌≤◌, true, false, [], ◌∷◌, Some, is_some, length}
use Rattle.std.specs.FinMap.{contains_key, get, get-empty, get-from_entries, len-empty, len-entries}
use Rattle.plan_basics.specs.declared.limits.TheConstants.{MOST_OCCURRENCES, MOST_OPERATIONS, MOST_PAIRS, MOST_WORKSTATIONS}
use Rattle.plan_basics.specs.declared.keys.OccKey.{OccKey}
use Rattle.plan_basics.specs.declared.keys.OpKey.{OpKey}
use Rattle.plan_basics.specs.declared.Refusal.{Refusal}
use Rattle.plan_basics.specs.declared.Refusal.TheVariants as refusal
use Rattle.plan_basics.specs.Keys.{IsOccurrenceKey, IsOperationKey, Name, name_cmp, name_cmp_total, occurrence_cmp_total, occurrence_cmp-IsAntisymmetric, operation_cmp_total, operation_cmp-IsAntisymmetric}
use Rattle.special_resources.specs.Holders.{Usage}
use Rattle.status_rules.specs.declared.Status.TheVariants as status
use Rattle.plan_model.specs.Contents.{IsPairOf, Operation}
use Rattle.plan_model.specs.declared.Stock.{Stock}
use Rattle.plan_model.specs.Status.{HasStatus, IsWaitingOrReady}
use Rattle.plan_model.specs.Valid.{IsAcyclic, IsOccurrence, IsOperation, IsUntouched, IsWithinLimits}
use Rattle.plan_records.specs.declared.Request.{Request}
use Rattle.plan_records.specs.declared.What.TheVariants as what
use Rattle.plan_records.specs.Acceptance.{IsNew, IsOld, MayBeAccepted}
use Rattle.plan_records.specs.Changes.{with_added}
use Rattle.plan_drafts.specs.Drafts.{IsAddition, IsEnd, IsOwn}
use Rattle.std.proofs.lemmas.Option.{none-some}
use Rattle.plan_laws.proofs.Pairs.{pair_cmp_total, pair_cmp-IsAntisymmetric}
use Rattle.worked_examples.specs.Backup.{backup, backup_addition, backup_key, three_operations, two_occurrences, two_pairs, with_backup}
use Rattle.worked_examples.specs.Day.{always_open, cpu1, daily, day, evening, first, lasting, loaded_at, occurrence, second}
use Rattle.worked_examples.proofs.DayLoad.{cpu1_held, daily_key, lasting_is}
use Rattle.worked_examples.proofs.Facts.{unmarked_has}
use Rattle.worked_examples.proofs.Lists.{entries-from_entries, joined_written, union_written}
use Rattle.worked_examples.proofs.Literal.{each_entry, each_key}
use Rattle.worked_examples.proofs.Small.{second_is}
use Rattle.worked_examples.proofs.Validity.{acyclic_by, each_pair, len_at_most, name_is, set_at_most}

-- ---- what is added is an addition

of_backup : (Q : OpKey → Operation → Type 0) → Q backup_key (lasting 30) → (o : OpKey) (op : Operation) → get backup_addition.operations o ≡ Some op → Q o op
of_backup Q h = each_entry operation_cmp_total operation_cmp-IsAntisymmetric ((backup_key, lasting 30) ∷ []) Q (h, tt)

-- its one pair
of_pair : (Q : OpKey → OpKey → Type 0) → Q second backup_key → (p o : OpKey) → IsPairOf backup_addition.pairs p o → Q p o
of_pair Q h = each_pair ((second, backup_key) ∷ []) Q (h, tt)

-- its one occurrence
of_occurrence : (Q : OccKey → Type 0) → Q backup → (c : OccKey) → contains_key backup_addition.occurrences c ≡ true → Q c
of_occurrence Q h = each_key occurrence_cmp_total occurrence_cmp-IsAntisymmetric ((backup, occurrence) ∷ []) Q (h, tt)

is_own : IsOwn backup_addition backup_key
is_own = ap is_some (get-from_entries occurrence_cmp_total ((backup, occurrence) ∷ []) backup)

second_is_other : IsOwn backup_addition second → ⊥
second_is_other own = true≢false (sym own ∙ ap is_some (get-from_entries occurrence_cmp_total ((backup, occurrence) ∷ []) daily))

is_new : IsNew backup_addition backup_key
is_new = ap is_some (get-from_entries operation_cmp_total ((backup_key, lasting 30) ∷ []) backup_key)

backup_occurrence_key : IsOccurrenceKey backup
backup_occurrence_key = (name_is 16 backup.app (omega arith) (omega arith) refl, omega arith)

backup_operation_key : IsOperationKey backup_key
backup_operation_key = (backup_occurrence_key, omega arith, omega arith)

pub is_addition : IsAddition backup_addition
is_addition = record {
  one = len-entries backup_addition.occurrences ∙ ap length (entries-from_entries occurrence_cmp_total occurrence_cmp-IsAntisymmetric ((backup, occurrence) ∷ []) tt);
  extension = record {
    occurrences = record {
      each_occurrence = each_entry occurrence_cmp_total occurrence_cmp-IsAntisymmetric ((backup, occurrence) ∷ []) IsOccurrence (record { key = backup_occurrence_key; priority = (omega arith, omega arith); deadline = omega arith }, tt);
      each_operation = of_backup (λ o op. IsOperation o op × IsOwn backup_addition o) (lasting_is backup_key 30 backup_operation_key (omega arith, omega arith), is_own);
      not_empty = of_occurrence (λ c. (o : OpKey) × (o.occurrence ≡ c) × (contains_key backup_addition.operations o ≡ true)) (backup_key, refl, is_new);
    };
    untouched = of_backup (λ o op. IsUntouched op) (refl, refl, refl);
    pairs = of_pair (λ p o. IsEnd backup_addition p × IsEnd backup_addition o × (IsOwn backup_addition p ⊎ IsOwn backup_addition o))
        (((daily_key, omega arith, omega arith), λ own. absurd (second_is_other own)), (backup_operation_key, λ own. is_new), inr is_own);
  };
}

-- ---- the plan with it

pub added_is : with_added day backup_addition ≡ with_backup
added_is =
    let occurrences_are = joined_written occurrence_cmp_total occurrence_cmp-IsAntisymmetric ((daily, occurrence) ∷ []) backup occurrence in
    let operations_are = joined_written operation_cmp_total operation_cmp-IsAntisymmetric ((first, lasting 30) ∷ (second, lasting 60) ∷ []) backup_key (lasting 30) in
    let pairs_are = union_written pair_cmp_total pair_cmp-IsAntisymmetric ((first, second) ∷ []) ((second, backup_key) ∷ []) in
    λ i. record day { occurrences = occurrences_are i; operations = operations_are i; pairs = pairs_are i }

-- arrivals and numbers ascend along its pairs
place : OpKey → ℕ
place o = o.occurrence.arrival + o.number

closes_no_path : IsAcyclic with_backup.pairs
unfolding place
closes_no_path = acyclic_by place (each_pair two_pairs (λ p o. place p < place o) (omega arith, (omega arith, tt)))

is_within_limits : IsWithinLimits with_backup
is_within_limits = record {
  workstations = len_at_most name_cmp_total ((cpu1, always_open) ∷ []) MOST_WORKSTATIONS (omega arith);
  resources = let e = len-empty name_cmp Stock in omega arith;
  occurrences = len_at_most occurrence_cmp_total two_occurrences MOST_OCCURRENCES (omega arith);
  operations = len_at_most operation_cmp_total three_operations MOST_OPERATIONS (omega arith);
  pairs = set_at_most pair_cmp_total two_pairs MOST_PAIRS (omega arith);
}

-- ---- nothing refuses it

abbrev pub adding : Request
adding = record { at = pos evening; what = what.AddOccurrence (Some backup_addition) }

pub nothing_refuses : (r : Refusal) → MayBeAccepted (loaded_at 0 day) adding r
nothing_refuses refusal.Past = search rules
nothing_refuses refusal.MomentRange = (evening, refl, omega arith)
nothing_refuses refusal.NotLoaded = λ needs. refl
nothing_refuses refusal.Loaded = λ loads. absurd loads
nothing_refuses refusal.UnknownOperation = of_pair (λ p o. (IsNew backup_addition p ⊎ IsOld day backup_addition p) × (IsNew backup_addition o ⊎ IsOld day backup_addition o)) (inr ((lasting 60, second_is, tt), second_is_other), inl is_new)
nothing_refuses refusal.UnknownWorkstation = of_backup (λ o op. contains_key day.workstations op.workstation ≡ true) cpu1_held
nothing_refuses refusal.UnknownResource = of_backup (λ o op. (r : Name) (usage : Usage) → get op.needs r ≡ Some usage → contains_key day.resources r ≡ true) (λ r usage found. absurd (none-some usage (sym (get-empty name_cmp r) ∙ found)))
nothing_refuses refusal.WrongStatus = of_pair (λ p o. (IsOld day backup_addition o → IsWaitingOrReady day o) × (IsOld day backup_addition p → ¬ HasStatus day p status.Deleted))
    (λ old. absurd (old.1 is_own), λ old deleted. unmarked_has day second (lasting 60) status.Deleted second_is refl deleted)
nothing_refuses refusal.Duplicate = of_occurrence (λ c. contains_key day.occurrences c ≡ false) (ap is_some (get-from_entries occurrence_cmp_total ((daily, occurrence) ∷ []) backup))
nothing_refuses refusal.Cycle = subst (λ P. IsAcyclic P.pairs) (sym added_is) closes_no_path
nothing_refuses refusal.Limit = (
  subst IsWithinLimits (sym added_is) is_within_limits,
  of_backup (λ o op. (r : Name) (usage : Usage) → get op.needs r ≡ Some usage → (stock : Stock) → get day.resources r ≡ Some stock → usage.claim.amount ≤ stock.quantity) (λ r usage found. absurd (none-some usage (sym (get-empty name_cmp r) ∙ found))),
)
nothing_refuses r = tt
