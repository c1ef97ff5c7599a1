-- Statuses that are those of a plan: what goes by them is what is read off the plan.
use Rattle.std.proofs.Common.{◌≡◌, inl, inr, refl, sym, ap, subst, ◌∙◌, arith, ℕ, List, get_or, slice_get, Some, IsSome, Contains, ℤ, pos}
use Rattle.std.proofs.lemmas.Option.{slice_get-get_or, slice_get_within}
use Rattle.std.specs.FinMap.{entries, get, keys}
use Rattle.plan_basics.specs.declared.keys.OccKey.{OccKey}
use Rattle.plan_basics.specs.declared.keys.OpKey.{OpKey}
use Rattle.status_rules.specs.declared.Counts.{Counts}
use Rattle.status_rules.specs.declared.Status.{Status}
use Rattle.status_rules.specs.declared.Status.TheVariants as status
use Rattle.ready_list.proofs.Members.{in_keys}
use Rattle.ready_list.specs.declared.ReadyKey.{ReadyKey}
use Rattle.ready_list.specs.declared.entry.ReadyEntry.{ReadyEntry}
use Rattle.plan_model.specs.Contents.{Contents, HasAttribute, IsInPlan, Operation}
use Rattle.plan_model.specs.Ready.{IsEntry}
use Rattle.plan_model.specs.Starts.{IsLatestStart}
use Rattle.plan_model.specs.Status.{HasStatus, IsReady}
use Rattle.plan_model.specs.Valid.{IsAcyclic, IsValid}
use Rattle.start_choice.specs.plan_drafts.proofs.Tables.{is_found}
use Rattle.start_choice.specs.plan_drafts.specs.Places.{AreByPlace, AreStatuses}
use Rattle.start_choice.specs.plan_laws.proofs.Classes.{ready_by}
use Rattle.start_choice.specs.plan_laws.proofs.Latest.{one_latest_start}
use Rattle.start_choice.specs.plan_laws.proofs.Standing.{one_status}
use Rattle.plan_model.specs.Moves.{IsMovedAt, IsRemarkedAt}
use Rattle.start_choice.specs.plan_status.proofs.Alike.{count_alike}
use Rattle.start_choice.specs.plan_status.proofs.LoadedRows.{its_occurrence, row_of}
use Rattle.start_choice.specs.plan_status.proofs.OfOccurrences.{IsOfIts, IsStarted}
use Rattle.start_choice.specs.plan_status.proofs.RowKeys.{key_of_row, row_of_key}
use Rattle.start_choice.specs.plan_status.specs.Standings.{AreTallies, BelongsWithStatus, IsTally}
use Rattle.start_choice.proofs.Readied.{ready_in_plan}
use Rattle.start_choice.specs.Choices.{AreLatestStarts, AreReadyEntries, HasItsWorkstation}
use Rattle.derived_figures.specs.StatusesBefore.{AreReadOff}
use Rattle.start_choice.specs.ReadyItems.{IsKeyIn}
use Rattle.derived_figures.specs.ByStatuses.{AreEntriesBy, AreInLine, AreTalliesBy, BelongsBy, CountsAsStarted, HasListed, IsReadyBy, IsTallyBy}
use Rattle.derived_figures.specs.Entries.{AreEntriesAt}
use Rattle.derived_figures.proofs.Entering.{one_key}
use Rattle.derived_figures.proofs.StatusesKept.{attribute_after, moved_back, remarked_by, row_after, same_keys, same_workstations}

-- an operation of the plan has a latest start
some_start : (P : Contents) (starts : List ℤ) → AreLatestStarts P starts → (o : OpKey) (op : Operation) → get P.operations o ≡ Some op → (v : ℤ) × IsLatestStart P o v
some_start P starts latest o op is =
    let at = row_of P o op is in
    let within = slice_get_within (entries P.operations) at.0 (o, op) at.1 in
    let v : ℤ = get_or starts at.0 (pos 0) in
    (v, latest.each at.0 o op v at.1 (slice_get-get_or starts at.0 (pos 0) (omega (arith, within, latest.size))))

module _ (P : Contents) (acyclic : IsAcyclic P.pairs) (statuses : List Status) (are : AreStatuses P statuses) where
  abbrev ks : List OpKey
  ks = keys P.operations

  has_status : (o : OpKey) (s : Status) → HasListed ks statuses o s → HasStatus P o s
  has_status o s (i, key, is) = let row = row_of_key (entries P.operations) i o key in are.each i o row.0 s row.1 is

  is_listed : (o : OpKey) (s : Status) → HasStatus P o s → HasListed ks statuses o s
  is_listed o s has =
      let at = row_of P o has.0 has.1 in
      let t : Status = get_or statuses at.0 s in
      let within = slice_get_within (entries P.operations) at.0 (o, has.0) at.1 in
      let is : slice_get statuses at.0 ≡ Some t = slice_get-get_or statuses at.0 s (omega (arith, within, are.size)) in
      (at.0, key_of_row (entries P.operations) at.0 o has.0 at.1, is ∙ ap Some (one_status P acyclic o t s (are.each at.0 o has.0 t at.1 is) has))

  some_listed : (o : OpKey) → IsInPlan P o → (s : Status) × HasListed ks statuses o s
  some_listed o h =
      let at = row_of P o h.0 h.1 in
      let within = slice_get_within (entries P.operations) at.0 (o, h.0) at.1 in
      (get_or statuses at.0 status.Waiting, (at.0, key_of_row (entries P.operations) at.0 o h.0 at.1, slice_get-get_or statuses at.0 status.Waiting (omega (arith, within, are.size))))

  -- ---- numbers of operations

  module _ (c : OccKey) where
    of_kind : (t : Status) (o : OpKey) → BelongsWithStatus P c t o → BelongsBy ks statuses c (λ s. s ≡ t) o
    of_kind t o h = (h.0, (t, is_listed o t h.1, refl))

    with_status : (t : Status) (o : OpKey) → BelongsBy ks statuses c (λ s. s ≡ t) o → BelongsWithStatus P c t o
    with_status t o h = (h.0, subst (HasStatus P o) h.1.2 (has_status o h.1.0 h.1.1))

    of_any : (o : OpKey) → IsOfIts P c o → BelongsBy ks statuses c (λ s. Unit {0}) o
    of_any o h = let listed = some_listed o h.1 in (h.0, (listed.0, listed.1, tt))

    of_its : (o : OpKey) → BelongsBy ks statuses c (λ s. Unit {0}) o → IsOfIts P c o
    of_its o h = let has = has_status o h.1.0 h.1.1 in (h.0, (has.0, has.1, tt))

    of_started : (o : OpKey) → IsStarted P c o → BelongsBy ks statuses c CountsAsStarted o
    of_started o (inl h) = (h.0, (status.Started, is_listed o status.Started h.1, inl refl))
    of_started o (inr h) = (h.0, (status.Interrupted, is_listed o status.Interrupted h.1, inr refl))

    is_started : (o : OpKey) → BelongsBy ks statuses c CountsAsStarted o → IsStarted P c o
    is_started o h = elim h.1.2 [
      | inl e ↦ inl (h.0, subst (HasStatus P o) e (has_status o h.1.0 h.1.1))
      | inr e ↦ inr (h.0, subst (HasStatus P o) e (has_status o h.1.0 h.1.1))
    ]

    tally_by : (n : Counts) → IsTally P c n → IsTallyBy ks statuses c n
    tally_by n t = record {
      all = count_alike of_any of_its t.all;
      deleted = count_alike (of_kind status.Deleted) (with_status status.Deleted) t.deleted;
      error = count_alike (of_kind status.Error) (with_status status.Error) t.error;
      undecided = count_alike (of_kind status.Undecided) (with_status status.Undecided) t.undecided;
      complete = count_alike (of_kind status.Complete) (with_status status.Complete) t.complete;
      started = count_alike of_started is_started t.started;
    }

    tally_is : (n : Counts) → IsTallyBy ks statuses c n → IsTally P c n
    tally_is n t = record {
      all = count_alike of_its of_any t.all;
      deleted = count_alike (with_status status.Deleted) (of_kind status.Deleted) t.deleted;
      error = count_alike (with_status status.Error) (of_kind status.Error) t.error;
      undecided = count_alike (with_status status.Undecided) (of_kind status.Undecided) t.undecided;
      complete = count_alike (with_status status.Complete) (of_kind status.Complete) t.complete;
      started = count_alike is_started of_started t.started;
    }

  pub tallies_by : (tallies : List Counts) → AreTallies P tallies → AreTalliesBy P statuses tallies
  tallies_by tallies all = record { size = all.size; each = λ i c v n row at. tally_by c n (all.each i c v n row at) }

  pub tallies_are : (tallies : List Counts) → AreTalliesBy P statuses tallies → AreTallies P tallies
  tallies_are tallies all = record { size = all.size; each = λ i c v n row at. tally_is c n (all.each i c v n row at) }

  -- ---- the ready list

  ready_listed : (o : OpKey) → IsReady P o → IsReadyBy ks statuses o
  ready_listed o (inl h) = (status.Arriving, is_listed o status.Arriving h, refl)
  ready_listed o (inr (inl h)) = (status.ReadyAfterNonreporting, is_listed o status.ReadyAfterNonreporting h, refl)
  ready_listed o (inr (inr h)) = (status.Ready, is_listed o status.Ready h, refl)

  listed_ready : (o : OpKey) → IsReadyBy ks statuses o → IsReady P o
  listed_ready o h = ready_by P o h.0 (has_status o h.0 h.1) h.2

  pub entries_are : (es : List ReadyEntry) → AreEntriesBy P statuses es → AreReadyEntries P es
  entries_are es all = record {
    list = record {
      ascends = all.in_order;
      has_all = λ k. (
        λ has.
            let one = (in_keys es k).0 has in
            let it = all.each one.0 one.1 in
            let key : IsKeyIn P k = subst (IsKeyIn P) one.2 it.0.0 in
            (listed_ready k.op (subst (λ (z : ReadyKey). IsReadyBy ks statuses z.op) one.2 it.1), key.0, key.1, key.2),
        λ entry.
            let one = all.every k.op (ready_listed k.op entry.0) in
            (in_keys es k).1 (one.0, one.1, one_key P one.0.key k (all.each one.0 one.1).0.0 (entry.1, entry.2, entry.3) one.2),
      );
    };
    workstations = λ e has. (all.each e has).0.1;
  }

  -- where each operation has its occurrence and its latest start, what the plan's ready list has
  module _ (have_occurrences : (o : OpKey) (op : Operation) → get P.operations o ≡ Some op → IsSome (get P.occurrences o.occurrence)) (starts : List ℤ) (latest : AreLatestStarts P starts)
      (es : List ReadyEntry) (ready : AreReadyEntries P es) where
    -- what is ready has an entry
    some_entry : (o : OpKey) → IsReady P o → (e : ReadyEntry) × Contains es e × (e.key.op ≡ o)
    some_entry o is =
        let found = ready_in_plan P o is in
        let start = some_start P starts latest o found.0 found.1 in
        let terms = is_found (get P.occurrences o.occurrence) (have_occurrences o found.0 found.1) in
        let k : ReadyKey = record { latest = start.0; priority = terms.0.priority; duration = found.0.duration; op = o } in
        let entry : IsEntry P k = (is, start.1, (found.0, found.1, refl), (terms.0, terms.1, refl)) in
        let one = (in_keys es k).0 ((ready.list.has_all k).1 entry) in
        (one.0, one.1, ap (λ (z : ReadyKey). z.op) one.2)

    pub entries_by : AreEntriesBy P statuses es
    entries_by = record {
      in_order = ready.list.ascends;
      each = λ e has.
          let entry = (ready.list.has_all e.key).0 ((in_keys es e.key).1 (e, has, refl)) in
          (((entry.1, entry.2, entry.3), ready.workstations e has), ready_listed e.key.op entry.0);
      every = λ o is. some_entry o (listed_ready o is);
    }

-- ---- what goes by the same statuses in a plan that differs in marks and flags alone, whatever its pairs are

module _ (P Q : Contents) (moved_at : List ℕ) (moved : IsRemarkedAt P Q moved_at) (starts : List ℤ) (before : AreLatestStarts P starts) (after : AreLatestStarts Q starts) where
  -- it has the pairs of the plan before
  abbrev with_its_pairs : Contents
  with_its_pairs = record Q { pairs = P.pairs }

  start_after : (o : OpKey) → IsInPlan P o → (v : ℤ) → IsLatestStart P o v → IsLatestStart Q o v
  start_after o h v is =
      let now = row_after P with_its_pairs moved_at moved o h.0 h.1 in
      let at = row_of P o h.0 h.1 in
      let within = slice_get_within (entries P.operations) at.0 (o, h.0) at.1 in
      let w : ℤ = get_or starts at.0 (pos 0) in
      let here : slice_get starts at.0 ≡ Some w = slice_get-get_or starts at.0 (pos 0) (omega (arith, within, before.size)) in
      let key = row_of_key (entries Q.operations) at.0 o (subst (λ ks. slice_get ks at.0 ≡ Some o) (sym (same_keys P with_its_pairs moved_at moved)) (key_of_row (entries P.operations) at.0 o h.0 at.1)) in
      subst (IsLatestStart Q o) (one_latest_start P o w v (before.each at.0 o h.0 w at.1 here) is) (after.each at.0 o key.0 w key.1 here)

  key_after : (k : ReadyKey) → IsKeyIn P k → IsKeyIn Q k
  key_after k key =
      let found = key.1 in
      let now = row_after P with_its_pairs moved_at moved k.op found.0 found.1 in
      let terms = key.2 in (
        start_after k.op (found.0, found.1, tt) k.latest key.0,
        (now.0, now.1, found.2 ∙ sym (ap (λ (x : Operation). x.duration) now.2.rest)),
        (terms.0, ap (λ occurrences. get occurrences k.op.occurrence) moved.occurrences ∙ terms.1, terms.2),
      )

  workstation_after : (e : ReadyEntry) → HasItsWorkstation P e → HasItsWorkstation Q e
  workstation_after e on =
      let now = row_after P with_its_pairs moved_at moved e.key.op on.0 on.1 in
      let same = ap (λ (x : Operation). x.workstation) now.2.rest in
      let placed = subst (λ ks. slice_get ks e.site ≡ Some now.0.workstation) (sym (same_workstations P with_its_pairs moved_at moved)) (on.2.2 ∙ ap Some (sym same)) in
      (now.0, now.1, (on.2.0 ∙ sym same, attribute_after P with_its_pairs moved_at moved now.0.workstation e.attr (subst (λ w. HasAttribute P w e.attr) (sym same) on.2.1), placed))

  pub entries_remarked : (statuses : List Status) (es : List ReadyEntry) → AreEntriesBy P statuses es → AreEntriesBy Q statuses es
  entries_remarked statuses es are =
      let keys_back = sym (same_keys P with_its_pairs moved_at moved) in
      record {
        in_order = are.in_order;
        each = λ e has. let it = are.each e has in ((key_after e.key it.0.0, workstation_after e it.0.1), subst (λ ks. IsReadyBy ks statuses e.key.op) keys_back it.1);
        every = λ o ready. are.every o (subst (λ ks. IsReadyBy ks statuses o) (same_keys P with_its_pairs moved_at moved) ready);
      }

  -- what is noted of one is noted of the other
  pub noted_remarked : (places : List ℕ) (es : List ReadyEntry) → AreEntriesAt P places es → AreEntriesAt Q places es
  noted_remarked places es are = record {
    size = are.size;
    each = λ k i e place entry.
        let it = are.each k i e place entry in
        ((key_after e.key it.0.0, workstation_after e it.0.1), subst (λ ks. slice_get ks i ≡ Some e.key.op) (sym (same_keys P with_its_pairs moved_at moved)) it.1);
  }

-- so in one that has the same pairs
pub entries_after : (P Q : Contents) (moved_at : List ℕ) → IsMovedAt P Q moved_at → (starts : List ℤ) → AreLatestStarts P starts → AreLatestStarts Q starts → (statuses : List Status) (es : List ReadyEntry)
    → AreEntriesBy P statuses es → AreEntriesBy Q statuses es
entries_after P Q moved_at moved = entries_remarked P Q moved_at (remarked_by P Q moved_at moved)

pub noted_after : (P Q : Contents) (moved_at : List ℕ) → IsMovedAt P Q moved_at → (starts : List ℤ) → AreLatestStarts P starts → AreLatestStarts Q starts → (places : List ℕ) (es : List ReadyEntry)
    → AreEntriesAt P places es → AreEntriesAt Q places es
noted_after P Q moved_at moved = noted_remarked P Q moved_at (remarked_by P Q moved_at moved)

-- the way back
pub entries_back : (P Q : Contents) (moved_at : List ℕ) → IsMovedAt P Q moved_at → (starts : List ℤ) → AreLatestStarts P starts → AreLatestStarts Q starts → (statuses : List Status) (es : List ReadyEntry)
    → AreEntriesBy Q statuses es → AreEntriesBy P statuses es
entries_back P Q moved_at moved starts before after = entries_after Q P moved_at (moved_back P Q moved_at moved) starts after before

-- ---- what was read off the plan before

module _ (P Q : Contents) (moved_at : List ℕ) (moved : IsMovedAt P Q moved_at) (valid : IsValid Q) (starts : List ℤ) (after : AreLatestStarts Q starts)
    (statuses : List Status) (tallies : List Counts) (es : List ReadyEntry) (before : AreReadOff P starts statuses tallies es) where
  acyclic : IsAcyclic P.pairs
  acyclic = subst IsAcyclic moved.pairs valid.acyclic

  tallies_before : AreTalliesBy Q statuses tallies
  tallies_before =
      subst (λ ks. AreByPlace (entries Q.occurrences) tallies (IsTallyBy ks statuses)) (sym (same_keys P Q moved_at moved))
      (subst (λ occurrences. AreByPlace (entries occurrences) tallies (IsTallyBy (keys P.operations) statuses)) (sym moved.occurrences) (tallies_by P acyclic statuses before.statuses tallies before.tallies))

  have_occurrences : (o : OpKey) (op : Operation) → get P.operations o ≡ Some op → IsSome (get P.occurrences o.occurrence)
  have_occurrences o op is =
      let now = row_after P Q moved_at moved o op is in
      subst (λ occurrences. IsSome (get occurrences o.occurrence)) moved.occurrences (its_occurrence Q valid o now.0 now.1)

  -- it goes by the statuses in the changed plan too
  pub in_line_before : AreInLine Q statuses tallies es
  in_line_before = record {
    size = before.statuses.size ∙ sym moved.size;
    tallies = tallies_before;
    ready = entries_after P Q moved_at moved starts before.latest after statuses es (entries_by P acyclic statuses before.statuses have_occurrences starts before.latest es before.ready);
  }
