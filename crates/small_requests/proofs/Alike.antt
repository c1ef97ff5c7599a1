-- Where a step touches some operations, the sources of the plan before and after are the same at all other places.
use Rattle.std.proofs.Common.{◌≡◌, inl, inr, refl, sym, ap, subst, ◌∙◌, arith, ℕ, ℤ, zero, suc, Bool, Decides, List, [], ◌∷◌, length, Contains, Option, Some, None, slice_get}
use Rattle.std.proofs.lemmas.Option.{slice_get_cases, slice_get_past}
use Rattle.std.specs.Cmp.{both_ways}
use Rattle.std.specs.FinMap.{entries}
use Rattle.std.specs.List.{zip}
use Rattle.plan_basics.specs.declared.keys.OccKey.{OccKey}
use Rattle.plan_basics.specs.declared.keys.OpKey.{OpKey}
use Rattle.plan_model.specs.Contents.{Contents, IsInPlan, LivePredecessor, Operation}
use Rattle.plan_model.specs.declared.Occurrence.{Occurrence}
use Rattle.plan_model.specs.Starts.{IsLatestStart}
use Rattle.plan_model.specs.Status.{AllPredecessorsSatisfied, FollowsNonreporting, HasStatus, IsSatisfied}
use Rattle.plan_model.specs.Valid.{IsValid}
use Rattle.plan_drafts.proofs.RowPlaces.{row_at}
use Rattle.plan_drafts.specs.Places.{AreByPlace}
use Rattle.plan_checks.specs.plan_laws.proofs.Latest.{one_latest_start}
use Rattle.plan_checks.specs.plan_laws.proofs.Standing.{one_status, some_status}
use Rattle.plan_checks.specs.plan_laws.proofs.Waiting.{one_count}
use Rattle.plan_model.specs.Moves.{IsRemarkedAt}
use Rattle.plan_records.specs.Rows.{IsCount}
use Rattle.plan_checks.specs.start_choice.specs.Choices.{AreLatestStarts}
use Rattle.plan_rows.specs.Sources.{IsSource, known_of}
use Rattle.plan_rows.specs.declared.row_sources.RowSource.{RowSource}
use Rattle.plan_checks.specs.plan_status.proofs.Alike.{count_alike}
use Rattle.plan_checks.specs.plan_status.proofs.LoadedRows.{row_found, row_of}
use Rattle.plan_checks.specs.plan_status.proofs.OfOccurrences.{IsOfIts, IsStarted}
use Rattle.plan_checks.specs.plan_status.specs.Standings.{BelongsWithStatus, IsStanding, IsTally}
use Rattle.plan_checks.specs.plan_status.specs.declared.standings.Standing.{Standing}
use Rattle.status_rules.specs.declared.Counts.{Counts}
use Rattle.status_rules.specs.declared.Status.{Status}
use Rattle.status_rules.specs.declared.Status.TheVariants as status
use Rattle.small_requests.specs.Touched.{IsTouchedAt}
use Rattle.plan_rows.specs.Touched.{AreTouched, HasOneOf}

-- ---- what is read off a plan is one

-- one truth value at most says whether this is so
pub one_truth : {A : Type 0} (b c : Bool) → Decides b A → Decides c A → b ≡ c
one_truth b c x y = both_ways b c (λ e. y.1 (x.0 e)) (λ e. x.1 (y.0 e))

-- an operation has one standing at most
pub one_standing : (P : Contents) (o : OpKey) (s t : Standing) → IsStanding P o s → IsStanding P o t → s ≡ t
one_standing P o s t x y =
    let live : s.preds.live ≡ t.preds.live = one_truth {A = (q : OpKey) × LivePredecessor P q o} s.preds.live t.preds.live x.preds.live y.preds.live in
    let satisfied : s.preds.satisfied ≡ t.preds.satisfied = one_truth {A = AllPredecessorsSatisfied P o} s.preds.satisfied t.preds.satisfied x.preds.satisfied y.preds.satisfied in
    let nonreporting : s.preds.nonreporting ≡ t.preds.nonreporting = one_truth {A = FollowsNonreporting P o} s.preds.nonreporting t.preds.nonreporting x.preds.nonreporting y.preds.nonreporting in
    let waiting : s.waiting ≡ t.waiting = one_count (λ p. LivePredecessor P p o × ¬ IsSatisfied P p) s.waiting t.waiting x.waiting y.waiting in
    λ i. record { preds = record { live = live i; satisfied = satisfied i; nonreporting = nonreporting i }; waiting = waiting i }

-- an occurrence has one tally at most
pub one_tally : (P : Contents) (c : OccKey) (m n : Counts) → IsTally P c m → IsTally P c n → m ≡ n
one_tally P c m n x y =
    let all : m.all ≡ n.all = one_count (IsOfIts P c) m.all n.all x.all y.all in
    let deleted : m.deleted ≡ n.deleted = one_count (BelongsWithStatus P c status.Deleted) m.deleted n.deleted x.deleted y.deleted in
    let error : m.error ≡ n.error = one_count (BelongsWithStatus P c status.Error) m.error n.error x.error y.error in
    let undecided : m.undecided ≡ n.undecided = one_count (BelongsWithStatus P c status.Undecided) m.undecided n.undecided x.undecided y.undecided in
    let complete : m.complete ≡ n.complete = one_count (BelongsWithStatus P c status.Complete) m.complete n.complete x.complete y.complete in
    let started : m.started ≡ n.started = one_count (IsStarted P c) m.started n.started x.started y.started in
    λ i. record { all = all i; deleted = deleted i; error = error i; undecided = undecided i; complete = complete i; started = started i }

-- ---- lists

-- two that are there, side by side
both : {X Y : Type 0} → Option X → Option Y → Option (X × Y)
both (Some x) (Some y) = Some (x, y)
both x y = None

-- what is at an index of two lists side by side
slice_get-zip : {X Y : Type 0} (xs : List X) (ys : List Y) (i : ℕ) → slice_get (zip xs ys) i ≡ both (slice_get xs i) (slice_get ys i)
unfolding both
slice_get-zip [] ys i = refl
slice_get-zip (x ∷ xs) [] i = none (slice_get (x ∷ xs) i)
  where
    -- nothing is beside nothing
    none : {X Y : Type 0} (z : Option X) → None ≡ both {Y = Y} z None
    none None = refl
    none (Some x) = refl
slice_get-zip (x ∷ xs) (y ∷ ys) zero = refl
slice_get-zip (x ∷ xs) (y ∷ ys) (suc i) = slice_get-zip xs ys i

-- it is the same where both are the same
zipped_alike : {X Y : Type 0} (xs vs : List X) (ys ws : List Y) (i : ℕ) → slice_get xs i ≡ slice_get vs i → slice_get ys i ≡ slice_get ws i → slice_get (zip xs ys) i ≡ slice_get (zip vs ws) i
zipped_alike xs vs ys ws i e f = slice_get-zip xs ys i ∙ (λ j. both (e j) (f j)) ∙ sym (slice_get-zip vs ws i)

module _ {K V X : Type 0} (before after : List (K × V)) (was is : K → X → Type 0) (xs ys : List X) (size : length after ≡ length before) (x_by : AreByPlace before xs was) (y_by : AreByPlace after ys is) (i : ℕ) where
  -- what is known at an index is the same where its key was there before, and what was known of it is what is known
  pub alike_at : ((k : K) (v : V) → slice_get after i ≡ Some (k, v) → (old : V) × (slice_get before i ≡ Some (k, old)) × ((x y : X) → was k x → is k y → x ≡ y)) → slice_get ys i ≡ slice_get xs i
  alike_at same = elim (slice_get_cases after i).1 [
    | inl here ↦
        let lt = here.1 in
        let row = same here.0.0 here.0.1 here.2 in
        let x = row_at xs i (omega (arith, lt, size, x_by.size)) in
        let y = row_at ys i (omega (arith, lt, y_by.size)) in
        y.1 ∙ ap Some (sym (row.2 x.0 y.0 (x_by.each i here.0.0 row.0 x.0 row.1 x.1) (y_by.each i here.0.0 here.0.1 y.0 here.2 y.1))) ∙ sym x.1
    | inr past ↦
        let le = past.0 in
        slice_get_past ys i (omega (arith, le, y_by.size)) ∙ sym (slice_get_past xs i (omega (arith, le, size, x_by.size)))
  ]

-- ---- two plans of which only these operations differ

module _ (P Q : Contents) (valid : IsValid P) (valid_after : IsValid Q) (touched : List ℕ) (at_touched : IsTouchedAt P Q touched) where
  -- marks and flags at these places alone differ
  abbrev moved : IsRemarkedAt P Q at_touched.moved.places
  moved = at_touched.moved.moved

  -- an occurrence at this place, none of whose operations is touched
  module _ (place : ℕ) (c : OccKey) (terms : Occurrence) (at : slice_get (entries P.occurrences) place ≡ Some (c, terms)) (none : ¬ HasOneOf P touched place) where
    -- such an operation is at another place
    not_touched : (o : OpKey) (op : Operation) (j : ℕ) → o.occurrence ≡ c → slice_get (entries P.operations) j ≡ Some (o, op) → ¬ Contains touched j
    not_touched o op j of there among = none (j, among, record { o = o; op = op; terms = terms; operation = there; occurrence = at ∙ ap (λ d. Some (d, terms)) (sym of) })

    -- its operations have the statuses that they had
    status_after : (o : OpKey) (s : Status) → o.occurrence ≡ c → HasStatus P o s → HasStatus Q o s
    status_after o s of has =
        let row = row_of P o has.0 has.1 in
        (at_touched.same row.0 (not_touched o has.0 row.0 of row.1) o has.0 row.1).1 s has

    -- what is in the plan after is there before
    in_plan_before : (o : OpKey) → IsInPlan Q o → IsInPlan P o
    in_plan_before o has =
        let at = row_of Q o has.0 has.1 in
        let row = moved.rows at.0 o has.0 at.1 in
        (row.before, row_found P at.0 o row.before row.was, tt)

    -- and the other way round
    in_plan_after : (o : OpKey) → o.occurrence ≡ c → IsInPlan P o → IsInPlan Q o
    in_plan_after o of has = let s = some_status P valid o has in let h = status_after o s.0 of s.1 in (h.0, h.1, tt)

    -- they had the statuses that they have
    status_before : (o : OpKey) (s : Status) → o.occurrence ≡ c → HasStatus Q o s → HasStatus P o s
    status_before o s of has =
        let old = some_status P valid o (in_plan_before o (has.0, has.1, tt)) in
        subst (HasStatus P o) (one_status Q valid_after.acyclic o old.0 s (status_after o old.0 of old.1) has) old.1

    -- so as many as before have a status
    count_after : (s : Status) (n : ℕ) → IsCount (BelongsWithStatus P c s) n → IsCount (BelongsWithStatus Q c s) n
    count_after s n = count_alike (λ o h. (h.0, status_after o s h.0 h.1)) (λ o h. (h.0, status_before o s h.0 h.1))

    -- and its numbers stay
    pub tally_after : (n : Counts) → IsTally P c n → IsTally Q c n
    tally_after n tally = record {
      all = count_alike (λ o h. (h.0, in_plan_after o h.0 h.1)) (λ o h. (h.0, in_plan_before o h.1)) tally.all;
      deleted = count_after status.Deleted n.deleted tally.deleted;
      error = count_after status.Error n.error tally.error;
      undecided = count_after status.Undecided n.undecided tally.undecided;
      complete = count_after status.Complete n.complete tally.complete;
      started = count_alike {S = IsStarted P c} {T = IsStarted Q c}
          (λ o. elim [ inl h ↦ inl (h.0, status_after o status.Started h.0 h.1) | inr h ↦ inr (h.0, status_after o status.Interrupted h.0 h.1) ])
          (λ o. elim [ inl h ↦ inl (h.0, status_before o status.Started h.0 h.1) | inr h ↦ inr (h.0, status_before o status.Interrupted h.0 h.1) ])
          tally.started;
    }

-- ---- sources

module _ (s t : RowSource) (source : IsSource s) (source_after : IsSource t) (touched : List ℕ) (at_touched : IsTouchedAt s.contents.now t.contents.now touched)
    (start_alike : (i : ℕ) → ¬ Contains touched i → slice_get t.latest.now.starts i ≡ slice_get s.latest.now.starts i) where
  abbrev P : Contents
  P = s.contents.now

  abbrev Q : Contents
  Q = t.contents.now

  abbrev moves : IsRemarkedAt P Q at_touched.moved.places
  moves = at_touched.moved.moved

  -- of an operation that isn't touched the standing stays
  standing_alike : (i : ℕ) → ¬ Contains touched i → slice_get t.standings.now i ≡ slice_get s.standings.now i
  standing_alike i not = alike_at (entries P.operations) (entries Q.operations) (IsStanding P) (IsStanding Q) s.standings.now t.standings.now moves.size source.standings source_after.standings i
      (λ o op at. let row = moves.rows i o op at in (row.before, row.was, λ x y was is. one_standing Q o x y ((at_touched.same i not o row.before row.was).0 x was) is))

  -- so does its status
  status_alike : (i : ℕ) → ¬ Contains touched i → slice_get t.statuses.now i ≡ slice_get s.statuses.now i
  status_alike i not = alike_at (entries P.operations) (entries Q.operations) (HasStatus P) (HasStatus Q) s.statuses.now t.statuses.now moves.size source.statuses source_after.statuses i
      (λ o op at. let row = moves.rows i o op at in (row.before, row.was, λ x y was is. one_status Q source_after.sound.valid.acyclic o x y ((at_touched.same i not o row.before row.was).1 x was) is))

  -- so that all that is known of it stays
  known_alike : (i : ℕ) → ¬ Contains touched i → slice_get (known_of t) i ≡ slice_get (known_of s) i
  known_alike i not =
      zipped_alike t.standings.now s.standings.now (zip t.statuses.now t.latest.now.starts) (zip s.statuses.now s.latest.now.starts) i (standing_alike i not)
      (zipped_alike t.statuses.now s.statuses.now t.latest.now.starts s.latest.now.starts i (status_alike i not) (start_alike i not))

  -- the numbers of an occurrence of which no operation is touched stay
  tallies_alike : (i : ℕ) → ¬ HasOneOf P touched i → slice_get t.tallies.now i ≡ slice_get s.tallies.now i
  tallies_alike i none =
      let same : entries Q.occurrences ≡ entries P.occurrences = ap entries moves.occurrences in
      alike_at (entries P.occurrences) (entries Q.occurrences) (IsTally P) (IsTally Q) s.tallies.now t.tallies.now (ap length same) source.tallies source_after.tallies i
      (λ c terms at.
      let was : slice_get (entries P.occurrences) i ≡ Some (c, terms) = subst (λ rows. slice_get rows i ≡ Some (c, terms)) same at in
      (terms, was, λ x y old new. one_tally Q c x y (tally_after P Q source.sound.valid source_after.sound.valid touched at_touched i c terms was none x old) new))

  -- nothing else differs
  pub sources_alike : AreTouched (Some s) (Some t) touched
  sources_alike = record {
    moved = at_touched.moved;
    ascend = at_touched.ascend;
    within = at_touched.within;
    known = known_alike;
    tallies = tallies_alike;
  }

-- where latest starts stay, sources have each alike
starts_alike : (s t : RowSource) → IsSource s → IsSource t → ((starts : List ℤ) → AreLatestStarts s.contents.now starts → AreLatestStarts t.contents.now starts) → (i : ℕ) → slice_get t.latest.now.starts i ≡ slice_get s.latest.now.starts i
starts_alike s t source source_after latest i =
    let Q = t.contents.now in
    alike_at (entries Q.operations) (entries Q.operations) (IsLatestStart Q) (IsLatestStart Q) s.latest.now.starts t.latest.now.starts refl (latest s.latest.now.starts source.latest) source_after.latest i
    (λ o op at. (op, at, one_latest_start Q o))

-- where a step touches these places, a source after it differs at these alone
pub touched_sources : (P Q : Contents) (touched : List ℕ) → IsTouchedAt P Q touched → ((starts : List ℤ) → AreLatestStarts P starts → AreLatestStarts Q starts)
    → (s t : RowSource) → s.contents.now ≡ P → t.contents.now ≡ Q → IsSource s → IsSource t → AreTouched (Some s) (Some t) touched
touched_sources P Q touched at_touched latest s t before after source source_after =
    let there : IsTouchedAt s.contents.now t.contents.now touched = subst (λ R. IsTouchedAt R t.contents.now touched) (sym before) (subst (λ R. IsTouchedAt P R touched) (sym after) at_touched) in
    let stay : (starts : List ℤ) → AreLatestStarts s.contents.now starts → AreLatestStarts t.contents.now starts =
    λ starts are. subst (λ R. AreLatestStarts R starts) (sym after) (latest starts (subst (λ R. AreLatestStarts R starts) before are)) in
    sources_alike s t source source_after touched there (λ i out. starts_alike s t source source_after stay i)
