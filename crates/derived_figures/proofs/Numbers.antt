-- The numbers of an occurrence's operations, once one of them has another status.
use Rattle.std.proofs.Common.{◌≡◌, ◌≢◌, ◌⊎◌, inl, inr, refl, sym, ap, subst, ◌∙◌, arith, ℕ, ◌<◌, ◌≤◌, List, set, slice_get, Some}
use Rattle.std.proofs.lemmas.List.{length-set}
use Rattle.std.proofs.lemmas.Option.{some_pair_parts}
use Rattle.std.specs.FinMap.{entries, keys}
use Rattle.std.specs.List.Sorted.{IsStrictlySortedBy}
use Rattle.plan_basics.specs.Keys.{occurrence_cmp, occurrence_cmp_total, operation_cmp}
use Rattle.plan_basics.specs.declared.limits.TheConstants.{MOST_OPERATIONS}
use Rattle.plan_basics.specs.declared.keys.OccKey.{OccKey}
use Rattle.plan_basics.specs.declared.keys.OpKey.{OpKey}
use Rattle.status_rules.specs.declared.Counts.{Counts}
use Rattle.status_rules.specs.declared.Status.{Status}
use Rattle.status_rules.specs.declared.Status.TheVariants as status
use Rattle.plan_model.proofs.Entries.{entries_in_order}
use Rattle.plan_model.specs.Contents.{Contents, IsInPlan, Operation}
use Rattle.plan_model.specs.Valid.{IsValid}
use Rattle.plan_model.specs.declared.Occurrence.{Occurrence}
use Rattle.start_choice.specs.plan_records.specs.Rows.{IsCount}
use Rattle.start_choice.specs.plan_laws.proofs.Entries.{same_operation}
use Rattle.start_choice.specs.plan_status.proofs.Alike.{count_alike}
use Rattle.start_choice.specs.plan_status.proofs.Ascending.{one_place, set_cases}
use Rattle.start_choice.specs.plan_status.proofs.CountOneMore.{count_more}
use Rattle.start_choice.specs.plan_status.proofs.Counting.{some_counted}
use Rattle.start_choice.specs.plan_status.proofs.LoadedRows.{row_found}
use Rattle.start_choice.specs.plan_status.proofs.RowKeys.{key_of_row, row_of_key}
use Rattle.start_choice.specs.plan_status.specs.OneMore.{AreAtMost, CountsOneMore, RisesIf}
use Rattle.derived_figures.specs.ByStatuses.{AreTalliesBy, BelongsBy, CountsAsStarted, CountsOne, IsTallyBy}
use Rattle.derived_figures.proofs.Exchanged.{had_alone, had_old, has_alone, has_new, other_after, other_before}
use Rattle.derived_figures.proofs.Fewness.{count_less, few_of_plan}

module _ (ks : List OpKey) (sorted : IsStrictlySortedBy operation_cmp ks) (statuses : List Status) (place : ℕ) (k : OpKey) (at : slice_get ks place ≡ Some k)
    (old new : Status) (was : slice_get statuses place ≡ Some old) where
  abbrev after : List Status
  after = set statuses place new

  module _ (c : OccKey) (kind : Status → Type 0) where
    abbrev Before : OpKey → Type 0
    Before = BelongsBy ks statuses c kind

    abbrev After : OpKey → Type 0
    After = BelongsBy ks after c kind

    abbrev Others : OpKey → Type 0
    Others o = Before o × (o ≢ k)

    moves_on : (o : OpKey) → o ≢ k → Before o → After o
    moves_on o apart h = (h.0, (h.1.0, other_after ks sorted statuses place k at old new was o apart h.1.0 h.1.1, h.1.2))

    was_before : (o : OpKey) → o ≢ k → After o → Before o
    was_before o apart h = (h.0, (h.1.0, other_before ks sorted statuses place k at old new was o apart h.1.0 h.1.1, h.1.2))

    -- the operation is of another occurrence
    pub count_kept : k.occurrence ≢ c → (n : ℕ) → IsCount Before n → IsCount After n
    count_kept apart n = count_alike (λ o h. moves_on o (λ e. apart (ap (λ (z : OpKey). z.occurrence) (sym e) ∙ h.0)) h) (λ o h. was_before o (λ e. apart (ap (λ (z : OpKey). z.occurrence) (sym e) ∙ h.0)) h)

    module _ (of : k.occurrence ≡ c) where
      belonged : kind old → Before k
      belonged h = (of, (old, had_old ks sorted statuses place k at old new was, h))

      belongs : kind new → After k
      belongs h = (of, (new, has_new ks sorted statuses place k at old new was, h))

      kind_before : Before k → kind old
      kind_before h = subst kind (had_alone ks sorted statuses place k at old new was h.1.0 h.1.1) h.1.2

      kind_after : After k → kind new
      kind_after h = subst kind (has_alone ks sorted statuses place k at old new was h.1.0 h.1.1) h.1.2

      -- without it
      taken_away : (n m : ℕ) → RisesIf (kind old) m n → IsCount Before n → IsCount Others m
      taken_away n m (inl up) count = let less = count_less Before k n (belonged up.0) count in subst (IsCount Others) (omega (arith, less.1, up.1)) less.2
      taken_away n m (inr same) count = subst (IsCount Others) same.1 (count_alike (λ o h. (h, λ e. same.0 (kind_before (subst Before e h)))) (λ o h. h.0) count)

      -- and with it again
      brought_in : (m l : ℕ) → RisesIf (kind new) m l → IsCount Others m → IsCount After l
      brought_in m l (inl up) count = subst (IsCount After) (sym up.1) (count_more {S = Others} {T = After} k (λ h. h.1 refl) (belongs up.0) (λ o h. moves_on o h.1 h.0) parts count)
        where
          parts : (o : OpKey) → After o → Others o ⊎ (k ≡ o)
          parts o h = elim (same_operation o k) [ inl e ↦ inr (sym e) | inr apart ↦ inl (was_before o apart h, apart) ]
      brought_in m l (inr same) count = subst (IsCount After) (sym same.1) (count_alike (λ o h. moves_on o h.1 h.0) parts count)
        where
          parts : (o : OpKey) → After o → Others o
          parts o h = elim (same_operation o k) [ inl e ↦ absurd (same.0 (kind_after (subst After e h))) | inr apart ↦ (was_before o apart h, apart) ]

      pub count_exchanged : (n m l : ℕ) → RisesIf (kind old) m n → RisesIf (kind new) m l → IsCount Before n → IsCount After l
      count_exchanged n m l down up count = brought_in m l up (taken_away n m down count)

      -- there is one of the old kind
      pub one_counted : (n : ℕ) → IsCount Before n → kind old → 0 < n
      one_counted n count h = (some_counted Before n count).1 (k, belonged h)

  abbrev Any : Status → Type 0
  Any s = Unit {0}

  -- the numbers of its occurrence
  tally_exchanged : (c : OccKey) → k.occurrence ≡ c → (n m l : Counts) → CountsOneMore old m n → CountsOneMore new m l → IsTallyBy ks statuses c n → IsTallyBy ks after c l
  tally_exchanged c of n m l down up t = record {
    all = count_exchanged c Any of n.all m.all l.all (inl (tt, down.all)) (inl (tt, up.all)) t.all;
    deleted = count_exchanged c (λ s. s ≡ status.Deleted) of n.deleted m.deleted l.deleted down.deleted up.deleted t.deleted;
    error = count_exchanged c (λ s. s ≡ status.Error) of n.error m.error l.error down.error up.error t.error;
    undecided = count_exchanged c (λ s. s ≡ status.Undecided) of n.undecided m.undecided l.undecided down.undecided up.undecided t.undecided;
    complete = count_exchanged c (λ s. s ≡ status.Complete) of n.complete m.complete l.complete down.complete up.complete t.complete;
    started = count_exchanged c CountsAsStarted of n.started m.started l.started down.started up.started t.started;
  }

  -- those of any other
  tally_kept : (c : OccKey) → k.occurrence ≢ c → (n : Counts) → IsTallyBy ks statuses c n → IsTallyBy ks after c n
  tally_kept c apart n t = record {
    all = count_kept c Any apart n.all t.all;
    deleted = count_kept c (λ s. s ≡ status.Deleted) apart n.deleted t.deleted;
    error = count_kept c (λ s. s ≡ status.Error) apart n.error t.error;
    undecided = count_kept c (λ s. s ≡ status.Undecided) apart n.undecided t.undecided;
    complete = count_kept c (λ s. s ≡ status.Complete) apart n.complete t.complete;
    started = count_kept c CountsAsStarted apart n.started t.started;
  }

  pub one_of_its : (c : OccKey) → k.occurrence ≡ c → (n : Counts) → IsTallyBy ks statuses c n → CountsOne old n
  one_of_its c of n t = record {
    all = one_counted c Any of n.all t.all tt;
    deleted = one_counted c (λ s. s ≡ status.Deleted) of n.deleted t.deleted;
    error = one_counted c (λ s. s ≡ status.Error) of n.error t.error;
    undecided = one_counted c (λ s. s ≡ status.Undecided) of n.undecided t.undecided;
    complete = one_counted c (λ s. s ≡ status.Complete) of n.complete t.complete;
    started = one_counted c CountsAsStarted of n.started t.started;
  }

-- ---- no number is higher than that of all operations of a plan

fewer_if : (Q : Type 0) (m n most : ℕ) → RisesIf Q m n → n ≤ most → m ≤ most
fewer_if Q m n most (inl up) le = let e = up.1 in omega (arith, e, le)
fewer_if Q m n most (inr same) le = let e = same.1 in omega (arith, e, le)

-- one fewer is no more
pub at_most_fewer : (most : ℕ) (s : Status) (m n : Counts) → CountsOneMore s m n → AreAtMost most n → AreAtMost most m
at_most_fewer most s m n up le = record {
  all = omega (arith, up.all, le.all);
  deleted = fewer_if _ m.deleted n.deleted most up.deleted le.deleted;
  error = fewer_if _ m.error n.error most up.error le.error;
  undecided = fewer_if _ m.undecided n.undecided most up.undecided le.undecided;
  complete = fewer_if _ m.complete n.complete most up.complete le.complete;
  started = fewer_if _ m.started n.started most up.started le.started;
}

module _ (P : Contents) (valid : IsValid P) (statuses : List Status) (c : OccKey) where
  listed_in_plan : (kind : Status → Type 0) (o : OpKey) → BelongsBy (keys P.operations) statuses c kind o → IsInPlan P o
  listed_in_plan kind o h =
      let place = h.1.1 in
      let row = row_of_key (entries P.operations) place.0 o place.1 in
      (row.0, row_found P place.0 o row.0 row.1, tt)

  few_of_kind : (kind : Status → Type 0) (n : ℕ) → IsCount (BelongsBy (keys P.operations) statuses c kind) n → n ≤ MOST_OPERATIONS
  few_of_kind kind n count = few_of_plan P valid (BelongsBy (keys P.operations) statuses c kind) (listed_in_plan kind) n count

  few_tallied : (n : Counts) → IsTallyBy (keys P.operations) statuses c n → AreAtMost MOST_OPERATIONS n
  few_tallied n t = record {
    all = few_of_kind (λ s. Unit {0}) n.all t.all;
    deleted = few_of_kind (λ s. s ≡ status.Deleted) n.deleted t.deleted;
    error = few_of_kind (λ s. s ≡ status.Error) n.error t.error;
    undecided = few_of_kind (λ s. s ≡ status.Undecided) n.undecided t.undecided;
    complete = few_of_kind (λ s. s ≡ status.Complete) n.complete t.complete;
    started = few_of_kind CountsAsStarted n.started t.started;
  }

-- ---- the numbers of all occurrences

module _ (P : Contents) (statuses : List Status) (tallies : List Counts) (are : AreTalliesBy P statuses tallies)
    (place : ℕ) (k : OpKey) (op : Operation) (row : slice_get (entries P.operations) place ≡ Some (k, op))
    (old : Status) (was : slice_get statuses place ≡ Some old)
    (there : ℕ) (terms : Occurrence) (its : slice_get (entries P.occurrences) there ≡ Some (k.occurrence, terms))
    (n : Counts) (stood : slice_get tallies there ≡ Some n) where
  abbrev sorted : IsStrictlySortedBy operation_cmp (keys P.operations)
  sorted = entries_in_order operation_cmp P.operations

  abbrev its_key : slice_get (keys P.operations) place ≡ Some k
  its_key = key_of_row (entries P.operations) place k op row

  its_tally : IsTallyBy (keys P.operations) statuses k.occurrence n
  its_tally = are.each there k.occurrence terms n its stood

  -- the occurrence's numbers have one of the old status
  pub one_there : CountsOne old n
  one_there = one_of_its (keys P.operations) sorted statuses place k its_key old old was k.occurrence refl n its_tally

  pub few_there : IsValid P → AreAtMost MOST_OPERATIONS n
  few_there valid = few_tallied P valid statuses k.occurrence n its_tally

  -- once one of them has another status
  pub tallies_exchanged : (new : Status) (m l : Counts) → CountsOneMore old m n → CountsOneMore new m l → AreTalliesBy P (set statuses place new) (set tallies there l)
  tallies_exchanged new m l down up = record {
    size = length-set tallies there l ∙ are.size;
    each = λ j c v t here is. elim (set_cases tallies there j l t is) [
      | inl this ↦
          let same : k.occurrence ≡ c = (some_pair_parts k.occurrence c terms v (sym its ∙ ap (slice_get (entries P.occurrences)) (sym this.0) ∙ here)).0 in
          subst (IsTallyBy (keys P.operations) (set statuses place new) c) (sym this.1)
          (tally_exchanged (keys P.operations) sorted statuses place k its_key old new was c same n m l down up (subst (λ z. IsTallyBy (keys P.operations) statuses z n) same its_tally))
      | inr other ↦
          let apart : k.occurrence ≢ c = λ e.
          other.0 (one_place occurrence_cmp_total (entries P.occurrences) (entries_in_order occurrence_cmp P.occurrences) j there c v terms here (subst (λ z. slice_get (entries P.occurrences) there ≡ Some (z, terms)) e its)) in
          tally_kept (keys P.operations) sorted statuses place k its_key old new was c apart t (are.each j c v t here other.1)
    ];
  }
