-- The numbers of occurrences' operations, as one row after another is gone through.
use Rattle.std.proofs.Common.{◌≡◌, ◌≢◌, ◌⊎◌, inl, inr, refl, sym, ap, subst, ◌∙◌, arith, ℕ, ◌+◌, ◌≤◌, List, length, replicate, set, slice_get, Some}
use Rattle.std.proofs.lemmas.List.{length-replicate, length-set}
use Rattle.std.proofs.lemmas.Option.{some_pair_parts}
use Rattle.std.specs.List.Sorted.{IsStrictlySortedBy}
use Rattle.std.specs.Map.{keys_of}
use Rattle.std.specs.FinMap.{entries, from_entries, get}
use Rattle.plan_basics.specs.declared.limits.TheConstants.{MOST_OPERATIONS}
use Rattle.plan_basics.specs.Keys.{occurrence_cmp, occurrence_cmp_total, operation_cmp, operation_cmp_total, operation_cmp-IsAntisymmetric}
use Rattle.plan_basics.specs.declared.keys.OccKey.{OccKey}
use Rattle.plan_basics.specs.declared.keys.OpKey.{OpKey}
use Rattle.plan_laws.proofs.Standing.{one_status}
use Rattle.plan_model.specs.Contents.{Contents, Operation}
use Rattle.plan_model.proofs.Entries.{entries_are}
use Rattle.plan_model.specs.Status.{HasStatus}
use Rattle.plan_model.specs.Valid.{IsAcyclic}
use Rattle.plan_model.specs.declared.Occurrence.{Occurrence}
use Rattle.plan_laws.specs.plan_drafts.specs.Places.{AreByPlace}
use Rattle.plan_status.proofs.Ascending.{all_alike, one_place, set_cases}
use Rattle.plan_status.proofs.OfOccurrences.{IsOfIts, IsStarted}
use Rattle.plan_status.proofs.SoMany.{IsSoMany, all_counted, none_before, one_more_row}
use Rattle.plan_status.specs.OneMore.{AreAtMost, CountsOneMore, RisesIf}
use Rattle.plan_status.specs.Standings.{AreTallies, BelongsWithStatus, IsTally}
use Rattle.status_rules.specs.declared.Counts.{Counts}
use Rattle.status_rules.specs.declared.Status.{Status}
use Rattle.status_rules.specs.declared.Status.TheVariants as status

abbrev pub no_counts : Counts
no_counts = record { all = 0; deleted = 0; error = 0; undecided = 0; complete = 0; started = 0 }

-- the numbers of the occurrence's operations among the first i rows
pub record IsTallySoFar (P : Contents) (rows : List (OpKey × Operation)) (i : ℕ) (c : OccKey) (n : Counts) : Type 0 where
  pub all : IsSoMany rows i (IsOfIts P c) n.all
  pub deleted : IsSoMany rows i (BelongsWithStatus P c status.Deleted) n.deleted
  pub error : IsSoMany rows i (BelongsWithStatus P c status.Error) n.error
  pub undecided : IsSoMany rows i (BelongsWithStatus P c status.Undecided) n.undecided
  pub complete : IsSoMany rows i (BelongsWithStatus P c status.Complete) n.complete
  pub started : IsSoMany rows i (IsStarted P c) n.started

pub at_most_rows : (P : Contents) (rows : List (OpKey × Operation)) (i : ℕ) (c : OccKey) (n : Counts) → IsTallySoFar P rows i c n → i ≤ MOST_OPERATIONS → AreAtMost MOST_OPERATIONS n
at_most_rows P rows i c n t le = record {
  all = omega (arith, t.all.at_most, le);
  deleted = omega (arith, t.deleted.at_most, le);
  error = omega (arith, t.error.at_most, le);
  undecided = omega (arith, t.undecided.at_most, le);
  complete = omega (arith, t.complete.at_most, le);
  started = omega (arith, t.started.at_most, le);
}

pub none_tallied : (P : Contents) (rows : List (OpKey × Operation)) (c : OccKey) → IsTallySoFar P rows 0 c no_counts
none_tallied P rows c = record {
  all = none_before rows (IsOfIts P c);
  deleted = none_before rows (BelongsWithStatus P c status.Deleted);
  error = none_before rows (BelongsWithStatus P c status.Error);
  undecided = none_before rows (BelongsWithStatus P c status.Undecided);
  complete = none_before rows (BelongsWithStatus P c status.Complete);
  started = none_before rows (IsStarted P c);
}

-- before a row is gone through
pub tallies_begin : (P : Contents) (rows : List (OpKey × Operation)) (occurrences : List (OccKey × Occurrence)) (n : ℕ) (tallies : List Counts)
    → n ≡ length occurrences → tallies ≡ replicate n no_counts → AreByPlace occurrences tallies (IsTallySoFar P rows 0)
tallies_begin P rows occurrences n tallies e is = record {
  size = ap length is ∙ length-replicate n no_counts ∙ e;
  each = λ i c v x row at. subst (IsTallySoFar P rows 0 c) (sym (all_alike n i no_counts x (ap (λ xs. slice_get xs i) (sym is) ∙ at))) (none_tallied P rows c);
}

module _ (P : Contents) (acyclic : IsAcyclic P.pairs) (rows : List (OpKey × Operation)) (sorted : IsStrictlySortedBy operation_cmp (keys_of rows))
    (i : ℕ) (k : OpKey) (op : Operation) (row : slice_get rows i ≡ Some (k, op)) (s : Status) (has : HasStatus P k s) where
  rises_of_its : (c : OccKey) → k.occurrence ≡ c → (t : Status) (n m : ℕ) → RisesIf (s ≡ t) n m → RisesIf (BelongsWithStatus P c t k) n m
  rises_of_its c of t n m (inl up) = inl ((of, subst (HasStatus P k) up.0 has), up.1)
  rises_of_its c of t n m (inr same) = inr (λ h. same.0 (one_status P acyclic k s t has h.1), same.1)

  rises_started : (c : OccKey) → k.occurrence ≡ c → (n m : ℕ) → RisesIf ((s ≡ status.Started) ⊎ (s ≡ status.Interrupted)) n m → RisesIf (IsStarted P c k) n m
  rises_started c of n m (inl up) = inl (elim up.0 [ inl e ↦ inl (of, subst (HasStatus P k) e has) | inr e ↦ inr (of, subst (HasStatus P k) e has) ], up.1)
  rises_started c of n m (inr same) = inr (
    elim [
      | inl h ↦ same.0 (inl (one_status P acyclic k s status.Started has h.1))
      | inr h ↦ same.0 (inr (one_status P acyclic k s status.Interrupted has h.1))
    ],
    same.1,
  )

  more : (S : OpKey → Type 0) (n m : ℕ) → IsSoMany rows i S n → RisesIf (S k) n m → IsSoMany rows (i + 1) S m
  more S n m so_far r = one_more_row rows S sorted i k op row n so_far m r

  -- the row's operation is of this occurrence
  one_tallied : (c : OccKey) (n m : Counts) → k.occurrence ≡ c → CountsOneMore s n m → IsTallySoFar P rows i c n → IsTallySoFar P rows (i + 1) c m
  one_tallied c n m of up t = record {
    all = more (IsOfIts P c) n.all m.all t.all (inl ((of, (has.0, has.1, tt)), up.all));
    deleted = more (BelongsWithStatus P c status.Deleted) n.deleted m.deleted t.deleted (rises_of_its c of status.Deleted n.deleted m.deleted up.deleted);
    error = more (BelongsWithStatus P c status.Error) n.error m.error t.error (rises_of_its c of status.Error n.error m.error up.error);
    undecided = more (BelongsWithStatus P c status.Undecided) n.undecided m.undecided t.undecided (rises_of_its c of status.Undecided n.undecided m.undecided up.undecided);
    complete = more (BelongsWithStatus P c status.Complete) n.complete m.complete t.complete (rises_of_its c of status.Complete n.complete m.complete up.complete);
    started = more (IsStarted P c) n.started m.started t.started (rises_started c of n.started m.started up.started);
  }

  -- it is of another
  none_more : (c : OccKey) (n : Counts) → k.occurrence ≢ c → IsTallySoFar P rows i c n → IsTallySoFar P rows (i + 1) c n
  none_more c n apart t = record {
    all = more (IsOfIts P c) n.all n.all t.all (inr (λ h. apart h.0, refl));
    deleted = more (BelongsWithStatus P c status.Deleted) n.deleted n.deleted t.deleted (inr (λ h. apart h.0, refl));
    error = more (BelongsWithStatus P c status.Error) n.error n.error t.error (inr (λ h. apart h.0, refl));
    undecided = more (BelongsWithStatus P c status.Undecided) n.undecided n.undecided t.undecided (inr (λ h. apart h.0, refl));
    complete = more (BelongsWithStatus P c status.Complete) n.complete n.complete t.complete (inr (λ h. apart h.0, refl));
    started = more (IsStarted P c) n.started n.started t.started (inr (elim [ inl h ↦ apart h.0 | inr h ↦ apart h.0 ], refl));
  }

  module _ (occurrences : List (OccKey × Occurrence)) (in_order : IsStrictlySortedBy occurrence_cmp (keys_of occurrences))
      (place : ℕ) (terms : Occurrence) (at : slice_get occurrences place ≡ Some (k.occurrence, terms)) where
    -- its occurrence's numbers are brought up to date
    pub row_tallied : (tallies : List Counts) → AreByPlace occurrences tallies (IsTallySoFar P rows i) → (old new : Counts)
        → slice_get tallies place ≡ Some old → CountsOneMore s old new → AreByPlace occurrences (set tallies place new) (IsTallySoFar P rows (i + 1))
    row_tallied tallies so_far old new there up = record {
      size = length-set tallies place new ∙ so_far.size;
      each = λ j c v n here is. elim (set_cases tallies place j new n is) [
        | inl this ↦
            let same : k.occurrence ≡ c = (some_pair_parts k.occurrence c terms v (sym at ∙ ap (slice_get occurrences) (sym this.0) ∙ here)).0 in
            subst (IsTallySoFar P rows (i + 1) c) (sym this.1) (one_tallied c old new same up (subst (λ z. IsTallySoFar P rows i z old) same (so_far.each place k.occurrence terms old at there)))
        | inr other ↦
            let apart : k.occurrence ≢ c = λ e.
            other.0 (one_place occurrence_cmp_total occurrences in_order j place c v terms here (subst (λ z. slice_get occurrences place ≡ Some (z, terms)) e at)) in
            none_more c n apart (so_far.each j c v n here other.1)
      ];
    }

-- all rows are gone through
module _ (P : Contents) where
  abbrev rows_of : List (OpKey × Operation)
  rows_of = entries P.operations

  row_of : (o : OpKey) (op : Operation) → get P.operations o ≡ Some op → get {R = operation_cmp} (from_entries rows_of) o ≡ Some op
  row_of o op is = ap (λ m. get m o) (entries_are operation_cmp operation_cmp_total operation_cmp-IsAntisymmetric P.operations) ∙ is

  complete_tally : (i : ℕ) → i ≡ length rows_of → (k : OccKey) (n : Counts) → IsTallySoFar P rows_of i k n → IsTally P k n
  complete_tally i e k n t = record {
    all = all_counted rows_of (IsOfIts P k) (λ o h. (h.1.0, row_of o h.1.0 h.1.1)) i n.all e t.all;
    deleted = all_counted rows_of (BelongsWithStatus P k status.Deleted) (λ o h. (h.1.0, row_of o h.1.0 h.1.1)) i n.deleted e t.deleted;
    error = all_counted rows_of (BelongsWithStatus P k status.Error) (λ o h. (h.1.0, row_of o h.1.0 h.1.1)) i n.error e t.error;
    undecided = all_counted rows_of (BelongsWithStatus P k status.Undecided) (λ o h. (h.1.0, row_of o h.1.0 h.1.1)) i n.undecided e t.undecided;
    complete = all_counted rows_of (BelongsWithStatus P k status.Complete) (λ o h. (h.1.0, row_of o h.1.0 h.1.1)) i n.complete e t.complete;
    started = all_counted rows_of (IsStarted P k) (λ o h. elim h [ inl a ↦ (a.1.0, row_of o a.1.0 a.1.1) | inr b ↦ (b.1.0, row_of o b.1.0 b.1.1) ]) i n.started e t.started;
  }

  pub all_tallied : (i : ℕ) → i ≡ length rows_of → (tallies : List Counts)
      → AreByPlace (entries P.occurrences) tallies (IsTallySoFar P rows_of i) → AreTallies P tallies
  all_tallied i e tallies so_far = record { size = so_far.size; each = λ j k v n row at. complete_tally i e k n (so_far.each j k v n row at) }
