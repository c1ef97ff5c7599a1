-- Standings brought in line, one index after another.
use Rattle.std.proofs.Common.{◌≡◌, ◌⊎◌, ◌↔◌, inl, inr, refl, sym, ap, subst, ◌∙◌, arith, ℕ, ◌<◌, ◌≤◌, false, List, [], ◌∷◌, ◌++◌, length, get_or, set, slice_get, Some, Contains, Decides}
use Rattle.std.proofs.lemmas.List.{length-set}
use Rattle.std.proofs.lemmas.List.Elements.{Contains-append_left, Contains-push, Contains-push_cases}
use Rattle.std.proofs.lemmas.Option.{slice_get-get_or, slice_get_within}
use Rattle.std.specs.FinMap.{entries}
use Rattle.plan_basics.specs.declared.keys.OpKey.{OpKey}
use Rattle.plan_basics.specs.declared.limits.TheConstants.{MOST_OPERATIONS}
use Rattle.plan_basics.proofs.Members.{contains_none}
use Rattle.start_choice.specs.satisfaction.specs.declared.nodes.WaitState.{WaitState}
use Rattle.plan_model.specs.Contents.{Contents, LivePredecessor}
use Rattle.plan_model.specs.Status.{AllPredecessorsSatisfied, FollowsNonreporting}
use Rattle.plan_model.specs.Valid.{IsAcyclic, IsValid}
use Rattle.start_choice.specs.plan_drafts.proofs.RowPlaces.{row_at}
use Rattle.start_choice.specs.plan_records.specs.Rows.{IsWaitingFor}
use Rattle.start_choice.specs.plan_laws.proofs.Ordered.{pairs_have_rank}
use Rattle.start_choice.specs.plan_laws.proofs.Tables.{zero_is_satisfied}
use Rattle.start_choice.specs.plan_laws.proofs.Waiting.{one_count}
use Rattle.plan_model.specs.Moves.{AreLiveAlike, IsMovedAt}
use Rattle.start_choice.specs.plan_status.specs.Standings.{AreStandings, IsStanding}
use Rattle.start_choice.specs.plan_status.specs.declared.standings.Standing.{Standing}
use Rattle.start_choice.specs.plan_status.proofs.Alike.{decides_alike}
use Rattle.start_choice.specs.plan_status.proofs.Ascending.{set_cases}
use Rattle.derived_figures.specs.StandingChanges.{AgreeElsewhere, AreCounters, IsUpdatedStanding, StayElsewhere}
use Rattle.derived_figures.proofs.Fewness.{few_waiting}
use Rattle.derived_figures.proofs.StatusesKept.{nonreporting_after, nonreporting_before, predecessor_after, predecessor_before}

-- none waits exactly where all are satisfied
none_waits : (P : Contents) → IsAcyclic P.pairs → (o : OpKey) (n : ℕ) → IsWaitingFor P o n → (n ≡ 0) ↔ AllPredecessorsSatisfied P o
none_waits P acyclic o n waits =
    let r = pairs_have_rank P.pairs acyclic in
    let zero = zero_is_satisfied P r.0 r.1 o in
    (λ e. zero.0 (subst (IsWaitingFor P o) e waits), λ all. one_count _ n 0 waits (zero.1 all))

-- what is kept at an index is no higher than a plan may hold
pub few_kept : (P : Contents) → IsValid P → (wait_states : List WaitState) → AreCounters P wait_states → (i : ℕ) (d : WaitState) → i < length wait_states → (get_or wait_states i d).waiting ≤ MOST_OPERATIONS
few_kept P valid wait_states are i d lt =
    let row = row_at (entries P.operations) i (omega (arith, lt, are.size)) in
    few_waiting P valid row.0.0 (get_or wait_states i d).waiting (are.each i row.0.0 row.0.1 (get_or wait_states i d) row.1 (slice_get-get_or wait_states i d lt))

-- ---- one standing

restood_on : (n : ℕ) (a b c : Standing) → b.preds.live ≡ a.preds.live → b.preds.nonreporting ≡ a.preds.nonreporting → IsUpdatedStanding n b c → IsUpdatedStanding n a c
restood_on n a b c live nonreporting on = record { live = on.live ∙ live; satisfied = on.satisfied; nonreporting = on.nonreporting ∙ nonreporting; waiting = on.waiting }

module _ (P Q : Contents) (places : List ℕ) (moved : IsMovedAt P Q places) (alike : AreLiveAlike P Q) (valid : IsValid Q) (o : OpKey) where
  -- with the right number it stands right
  pub stands_anew : (old new : Standing) (n : ℕ) → IsStanding P o old → IsWaitingFor Q o n → IsUpdatedStanding n old new → IsStanding Q o new
  stands_anew old new n was waits anew = record {
    preds = record {
      live = decides_alike {A = (p : OpKey) × LivePredecessor P p o} (λ h. (h.0, predecessor_after P Q places moved alike h.0 o h.1)) (λ h. (h.0, predecessor_before P Q places moved alike h.0 o h.1))
          (subst (λ b. Decides b ((p : OpKey) × LivePredecessor P p o)) (sym anew.live) was.preds.live);
      satisfied = decides_alike (none_waits Q valid.acyclic o n waits).0 (none_waits Q valid.acyclic o n waits).1 anew.satisfied;
      nonreporting = decides_alike {A = FollowsNonreporting P o}
          (λ h. (h.0, predecessor_after P Q places moved alike h.0 o h.1, nonreporting_after P Q places moved h.0 h.2))
          (λ h. (h.0, predecessor_before P Q places moved alike h.0 o h.1, nonreporting_before P Q places moved h.0 h.2))
          (subst (λ b. Decides b (FollowsNonreporting P o)) (sym anew.nonreporting) was.preds.nonreporting);
    };
    waiting = subst (IsWaitingFor Q o) (sym anew.waiting) waits;
  }

  -- one that had this number already is as if brought in line
  pub stands_still : (s : Standing) (n : ℕ) → IsStanding P o s → s.waiting ≡ n → IsUpdatedStanding n s s
  stands_still s n was e =
      let zero = none_waits P (subst IsAcyclic moved.pairs valid.acyclic) o s.waiting was.waiting in
      record {
        live = refl;
        satisfied = decides_alike (λ all. sym e ∙ zero.1 all) (λ none. zero.0 (e ∙ none)) was.preds.satisfied;
        nonreporting = refl;
        waiting = e;
      }

-- ---- all of them

-- a standing as it was, at another index than these, or in line with what is kept there
abbrev IsUpdatedBy : List ℕ → List WaitState → ℕ → Standing → Standing → Type 0
IsUpdatedBy done wait_states i old s = (¬ Contains done i × (s ≡ old)) ⊎ (Contains done i × ((k : WaitState) × (slice_get wait_states i ≡ Some k) × IsUpdatedStanding k.waiting old s))

-- standings are brought in line at these indices
pub record AreUpdatedAt (done : List ℕ) (wait_states : List WaitState) (before after : List Standing) : Type 0 where
  pub size : length after ≡ length before
  pub each : (i : ℕ) (s : Standing) → slice_get after i ≡ Some s → (old : Standing) × (slice_get before i ≡ Some old) × IsUpdatedBy done wait_states i old s

pub none_restood : (wait_states : List WaitState) (before : List Standing) → AreUpdatedAt [] wait_states before before
none_restood wait_states before = record { size = refl; each = λ i s at. (s, at, inl (contains_none i, refl)) }

same_parts : (done : List ℕ) (wait_states : List WaitState) (i : ℕ) (old s : Standing) → IsUpdatedBy done wait_states i old s → (s.preds.live ≡ old.preds.live) × (s.preds.nonreporting ≡ old.preds.nonreporting)
same_parts done wait_states i old s (inl same) = (ap (λ (x : Standing). x.preds.live) same.1, ap (λ (x : Standing). x.preds.nonreporting) same.1)
same_parts done wait_states i old s (inr on) = (on.1.2.live, on.1.2.nonreporting)

pub one_restood : (done : List ℕ) (wait_states : List WaitState) (before after : List Standing) (p : ℕ) (k : WaitState) (now new : Standing)
    → AreUpdatedAt done wait_states before after → slice_get after p ≡ Some now → slice_get wait_states p ≡ Some k → IsUpdatedStanding k.waiting now new
    → AreUpdatedAt (done ++ p ∷ []) wait_states before (set after p new)
one_restood done wait_states before after p k now new so_far at wait_state_at anew = record {
  size = length-set after p new ∙ so_far.size;
  each = λ i s here. elim (set_cases after p i new s here) [
    | inl this ↦
        let was = so_far.each p now at in
        let parts = same_parts done wait_states p was.0 now was.2 in
        (was.0, ap (slice_get before) this.0 ∙ was.1, inr (subst (Contains (done ++ p ∷ [])) (sym this.0) (Contains-push done p), (k, ap (slice_get wait_states) this.0 ∙ wait_state_at, subst (IsUpdatedStanding k.waiting was.0) (sym this.1) (restood_on k.waiting was.0 now new parts.0 parts.1 anew))))
    | inr other ↦
        let was = so_far.each i s other.1 in (
          was.0,
          was.1,
          elim was.2 [
            | inl still ↦ inl (λ has. elim (Contains-push_cases done p i has) [ inl earlier ↦ still.0 earlier | inr last ↦ other.0 (sym last) ], still.1)
            | inr on ↦ inr (Contains-append_left done (p ∷ []) i on.0, on.1)
          ],
        )
  ];
}

-- all others stay
pub others_stay : (places : List ℕ) (wait_states : List WaitState) (before after : List Standing) → AreUpdatedAt places wait_states before after → StayElsewhere before after places
others_stay places wait_states before after done i out s was =
    let within = slice_get_within before i s was in
    let now : Standing = get_or after i s in
    let here : slice_get after i ≡ Some now = slice_get-get_or after i s (omega (arith, within, done.size)) in
    let it = done.each i now here in
    elim it.2 [ inl still ↦ here ∙ ap Some still.1 ∙ sym it.1 ∙ was | inr on ↦ absurd (out on.0) ]

-- where all others had the number that is kept, the standings are right
pub all_restood : (P Q : Contents) (moved_at : List ℕ) → IsValid Q → IsMovedAt P Q moved_at → AreLiveAlike P Q → (places : List ℕ) (wait_states : List WaitState) (before after : List Standing)
    → AreStandings P before → AreCounters Q wait_states → AgreeElsewhere before wait_states places → AreUpdatedAt places wait_states before after → AreStandings Q after
all_restood P Q moved_at valid moved alike places wait_states before after stand counters agree done = record {
  size = done.size ∙ stand.size ∙ sym moved.size;
  each = λ i o op s row at.
      let was = done.each i s at in
      let old_row = moved.rows i o op row in
      let standing = stand.each i o old_row.before was.0 old_row.was was.1 in
      elim was.2 [
        | inl still ↦
            let d : WaitState = record { satisfied = false; waiting = 0 } in
            let within = slice_get_within (entries Q.operations) i (o, op) row in
            let wait_state_at = slice_get-get_or wait_states i d (omega (arith, within, counters.size)) in
            let same = agree i still.0 was.0 (get_or wait_states i d) was.1 wait_state_at in
            stands_anew P Q moved_at moved alike valid o was.0 s (get_or wait_states i d).waiting standing (counters.each i o op (get_or wait_states i d) row wait_state_at)
            (subst (IsUpdatedStanding (get_or wait_states i d).waiting was.0) (sym still.1) (stands_still P Q moved_at moved alike valid o was.0 (get_or wait_states i d).waiting standing same))
        | inr on ↦ stands_anew P Q moved_at moved alike valid o was.0 s on.1.0.waiting standing (counters.each i o op on.1.0 row on.1.1) on.1.2
      ];
}
