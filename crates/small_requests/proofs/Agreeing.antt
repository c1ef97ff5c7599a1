-- Where a step touches some operations, the columns of the plan before and after agree at all other places.
use Rattle.std.proofs.Common.{◌≡◌, sym, ap, subst, ◌∙◌, arith, ℕ, List, length, Contains, Some, slice_get}
use Rattle.std.proofs.lemmas.Option.{slice_get_within, some_pair_parts}
use Rattle.std.specs.FinMap.{entries}
use Rattle.plan_basics.specs.declared.keys.OpKey.{OpKey}
use Rattle.satisfaction.specs.declared.nodes.WaitState.{WaitState}
use Rattle.plan_drafts.proofs.RowPlaces.{row_at}
use Rattle.plan_checks.specs.plan_laws.proofs.Classes.{satisfied_decides}
use Rattle.plan_checks.specs.plan_laws.proofs.Standing.{one_status}
use Rattle.plan_checks.specs.plan_laws.proofs.Waiting.{one_count}
use Rattle.plan_model.specs.Contents.{Contents, Operation}
use Rattle.plan_model.specs.Status.{HasStatus, IsSatisfied}
use Rattle.plan_model.specs.Valid.{IsValid}
use Rattle.plan_model.specs.Moves.{IsRemarkedAt}
use Rattle.plan_checks.specs.derived_figures.specs.WaitStates.{IsKept}
use Rattle.plan_rows.specs.Touched.{HasOneOf}
use Rattle.plan_checks.specs.plan_status.specs.Standings.{IsStanding, IsTally}
use Rattle.small_requests.proofs.Alike.{alike_at, one_standing, one_tally, one_truth, tally_after}
use Rattle.small_requests.proofs.Overwritten.{values_lead}
use Rattle.small_requests.specs.Columns.{AreColumnsOf, IsSnapshotOf, MakesOf}
use Rattle.small_requests.specs.Touched.{IsTouchedAt}
use Rattle.small_requests.specs.declared.columns.FigureColumns.{FigureColumns}
use Rattle.small_requests.specs.declared.snapshots.Snapshot.{Snapshot}
use Rattle.status_rules.specs.Classes.{is_satisfied}

module _ (P Q : Contents) (valid : IsValid P) (valid_after : IsValid Q) (touched : List ℕ) (at_touched : IsTouchedAt P Q touched) (l m : FigureColumns) (are : AreColumnsOf P l) (then : AreColumnsOf Q m) where
  abbrev moved : IsRemarkedAt P Q at_touched.moved.places
  moved = at_touched.moved.moved

  -- ---- operations

  -- what is kept of one that isn't touched stays
  kept_stays : (i : ℕ) → ¬ Contains touched i → (o : OpKey) (op : Operation) → slice_get (entries P.operations) i ≡ Some (o, op) → (x y : WaitState) → IsKept P o x → IsKept Q o y → x ≡ y
  kept_stays i out o op at x y was is =
      let within = slice_get_within (entries P.operations) i (o, op) at in
      let s = row_at l.standings.items i (omega (arith, within, are.standings.size)) in
      let t = row_at l.statuses.items i (omega (arith, within, are.statuses.size)) in
      let stood = are.standings.each i o op s.0 at s.1 in
      let had = are.statuses.each i o op t.0 at t.1 in
      let same = at_touched.same i out o op at in
      let satisfied : x.satisfied ≡ y.satisfied =
      one_truth {A = IsSatisfied P o} x.satisfied (is_satisfied t.0) was.0 (satisfied_decides P o t.0 had)
      ∙ sym (one_truth {A = IsSatisfied Q o} y.satisfied (is_satisfied t.0) is.0 (satisfied_decides Q o t.0 (same.1 t.0 had))) in
      let waiting : x.waiting ≡ y.waiting = one_count _ x.waiting s.0.waiting was.1 stood.waiting ∙ sym (one_count _ y.waiting s.0.waiting is.1 (same.0 s.0 stood).waiting) in
      λ j. record { satisfied = satisfied j; waiting = waiting j }

  pub kept_agree : (i : ℕ) → ¬ Contains touched i → slice_get m.wait_states.items i ≡ slice_get l.wait_states.items i
  kept_agree i out = alike_at (entries P.operations) (entries Q.operations) (IsKept P) (IsKept Q) l.wait_states.items m.wait_states.items moved.size are.wait_states then.wait_states i
      (λ o op at. let row = moved.rows i o op at in (row.before, row.was, kept_stays i out o row.before row.was))

  pub standings_agree : (i : ℕ) → ¬ Contains touched i → slice_get m.standings.items i ≡ slice_get l.standings.items i
  standings_agree i out = alike_at (entries P.operations) (entries Q.operations) (IsStanding P) (IsStanding Q) l.standings.items m.standings.items moved.size are.standings then.standings i
      (λ o op at. let row = moved.rows i o op at in (row.before, row.was, λ x y was is. one_standing Q o x y ((at_touched.same i out o row.before row.was).0 x was) is))

  pub statuses_agree : (i : ℕ) → ¬ Contains touched i → slice_get m.statuses.items i ≡ slice_get l.statuses.items i
  statuses_agree i out = alike_at (entries P.operations) (entries Q.operations) (HasStatus P) (HasStatus Q) l.statuses.items m.statuses.items moved.size are.statuses then.statuses i
      (λ o op at. let row = moved.rows i o op at in (row.before, row.was, λ x y was is. one_status Q valid_after.acyclic o x y ((at_touched.same i out o row.before row.was).1 x was) is))

  -- ---- occurrences

  same_occurrences : entries Q.occurrences ≡ entries P.occurrences
  same_occurrences = ap entries moved.occurrences

  pub tallies_agree : (i : ℕ) → ¬ HasOneOf P touched i → slice_get m.tallies.items i ≡ slice_get l.tallies.items i
  tallies_agree i none =
      alike_at (entries P.occurrences) (entries Q.occurrences) (IsTally P) (IsTally Q) l.tallies.items m.tallies.items (ap length same_occurrences) are.tallies then.tallies i
      (λ c terms at.
      let was : slice_get (entries P.occurrences) i ≡ Some (c, terms) = subst (λ rows. slice_get rows i ≡ Some (c, terms)) same_occurrences at in
      (terms, was, λ x y old new. one_tally Q c x y (tally_after P Q valid valid_after touched at_touched i c terms was none x old) new))

  -- an operation that is touched belongs to the same occurrence after
  pub has_one_after : (p : ℕ) → HasOneOf P touched p → HasOneOf Q touched p
  has_one_after p (i, among, belongs) =
      let within = slice_get_within (entries P.operations) i (belongs.o, belongs.op) belongs.operation in
      let row = row_at (entries Q.operations) i (omega (arith, within, moved.size)) in
      let was = moved.rows i row.0.0 row.0.1 row.1 in
      let key : belongs.o ≡ row.0.0 = (some_pair_parts belongs.o row.0.0 belongs.op was.before (sym belongs.operation ∙ was.was)).0 in (
        i,
        among,
        record {
          o = row.0.0;
          op = row.0.1;
          terms = belongs.terms;
          operation = row.1;
          occurrence = ap (λ rows. slice_get rows p) same_occurrences ∙ belongs.occurrence ∙ ap (λ (o : OpKey). Some (o.occurrence, belongs.terms)) key;
        },
      )

  -- ---- all of them

  same_size : length (entries P.operations) ≡ length (entries Q.operations)
  same_size = sym moved.size

  -- what the plan has after, where something is touched, leads there
  pub leads_on : (x : Snapshot) → IsSnapshotOf Q touched m x → MakesOf x l m
  leads_on x is = record {
    wait_states = values_lead (Contains touched) x.wait_states.items l.wait_states.items m.wait_states.items is.wait_states (are.wait_states.size ∙ same_size ∙ sym then.wait_states.size) (λ i out. sym (kept_agree i out));
    standings = values_lead (Contains touched) x.standings.items l.standings.items m.standings.items is.standings (are.standings.size ∙ same_size ∙ sym then.standings.size) (λ i out. sym (standings_agree i out));
    statuses = values_lead (Contains touched) x.statuses.items l.statuses.items m.statuses.items is.statuses (are.statuses.size ∙ same_size ∙ sym then.statuses.size) (λ i out. sym (statuses_agree i out));
    tallies = values_lead (HasOneOf Q touched) x.tallies.items l.tallies.items m.tallies.items is.tallies (are.tallies.size ∙ ap length (sym same_occurrences) ∙ sym then.tallies.size)
        (λ i none. sym (tallies_agree i (λ has. none (has_one_after i has))));
  }

  -- and what it had there before leads back
  pub leads_back : (x : Snapshot) → IsSnapshotOf Q touched l x → MakesOf x m l
  leads_back x was = record {
    wait_states = values_lead (Contains touched) x.wait_states.items m.wait_states.items l.wait_states.items was.wait_states (then.wait_states.size ∙ sym same_size ∙ sym are.wait_states.size) kept_agree;
    standings = values_lead (Contains touched) x.standings.items m.standings.items l.standings.items was.standings (then.standings.size ∙ sym same_size ∙ sym are.standings.size) standings_agree;
    statuses = values_lead (Contains touched) x.statuses.items m.statuses.items l.statuses.items was.statuses (then.statuses.size ∙ sym same_size ∙ sym are.statuses.size) statuses_agree;
    tallies = values_lead (HasOneOf Q touched) x.tallies.items m.tallies.items l.tallies.items was.tallies (then.tallies.size ∙ ap length same_occurrences ∙ sym are.tallies.size)
        (λ i none. tallies_agree i (λ has. none (has_one_after i has)));
  }

  -- so does what it was told to have there of the plan before
  pub leads_home : (x : Snapshot) → IsSnapshotOf P touched l x → MakesOf x m l
  leads_home x was = record {
    wait_states = values_lead (Contains touched) x.wait_states.items m.wait_states.items l.wait_states.items was.wait_states (then.wait_states.size ∙ sym same_size ∙ sym are.wait_states.size) kept_agree;
    standings = values_lead (Contains touched) x.standings.items m.standings.items l.standings.items was.standings (then.standings.size ∙ sym same_size ∙ sym are.standings.size) standings_agree;
    statuses = values_lead (Contains touched) x.statuses.items m.statuses.items l.statuses.items was.statuses (then.statuses.size ∙ sym same_size ∙ sym are.statuses.size) statuses_agree;
    tallies = values_lead (HasOneOf P touched) x.tallies.items m.tallies.items l.tallies.items was.tallies (then.tallies.size ∙ ap length same_occurrences ∙ sym are.tallies.size) tallies_agree;
  }
