-- What the parts of a small step ask of one another.
use Rattle.std.proofs.Common.{◌≡◌, sym, ap, subst, ◌∙◌, arith, ℕ, ◌<◌, List, slice_index_or, All, Result, Ok, Err, OnOk}
use Rattle.std.proofs.lemmas.List.Elements.{All-contains_itself}
use Rattle.std.proofs.lemmas.Option.{get_or_from_slice_get, slice_get_within}
use Rattle.std.specs.FinMap.{entries}
use Rattle.operation_graph.specs.Graphs.{Digraph}
use Rattle.satisfaction.specs.Counters.{wait_state_at, no_wait_state}
use Rattle.satisfaction.specs.declared.nodes.WaitState.{WaitState}
use Rattle.plan_drafts.proofs.RowPlaces.{row_at}
use Rattle.plan_drafts.specs.PlanGraphs.{IsGraphFor}
use Rattle.small_requests.proofs.OneFrame.{graph_stays}
use Rattle.plan_checks.specs.plan_laws.proofs.Waiting.{one_count}
use Rattle.plan_model.specs.Contents.{Contents}
use Rattle.plan_model.specs.Valid.{IsValid}
use Rattle.plan_model.specs.Moves.{AreLiveAlike, IsMovedAt}
use Rattle.plan_checks.specs.derived_figures.specs.StatusesBefore.{KeepStatus}
use Rattle.plan_checks.specs.derived_figures.specs.StandingChanges.{AgreeElsewhere, AreCounters}
use Rattle.plan_checks.specs.plan_status.specs.Standings.{AreStandings}
use Rattle.plan_checks.specs.plan_status.specs.declared.standings.Standing.{Standing}
use Rattle.small_requests.specs.StepLooks.{IsKeptElsewhere}
use Rattle.small_requests.specs.Edits.{AreBelow}
use Rattle.small_requests.specs.Touched.{AreKnownAlike}
use Rattle.plan_checks.specs.derived_figures.proofs.Right.{kept_there}
use Rattle.plan_checks.specs.derived_figures.specs.WaitStates.{AreWaitStates}

-- what holds anyway holds where it is ok
pub on_ok : {T E : Type 0} {A : Type 0} (r : Result T E) → A → OnOk r A
on_ok (Ok x) a = a
on_ok (Err e) a = tt

pub all_below : (n : ℕ) (places : List ℕ) → AreBelow n places → All (λ i. i < n) places
all_below n places below = λ k d lt. below (slice_index_or places k d) (All-contains_itself places k d lt)

-- the counters of what is kept
pub counters : (P : Contents) (wait_states : List WaitState) → AreWaitStates P wait_states → AreCounters P wait_states
counters P wait_states are = record { size = are.size; each = λ i o op k at there. (are.each i o op k at there).1 }

module _ (P Q : Contents) (moved_at : List ℕ) (moved : IsMovedAt P Q moved_at) where
  pub graph_after : (g : Digraph) → IsGraphFor P g → IsGraphFor Q g
  graph_after = graph_stays P Q moved_at moved

  -- where the same is kept, each standing has the number that is kept
  pub agree : (wait_states now : List WaitState) → AreWaitStates P wait_states → (standings : List Standing) → AreStandings P standings → (touched : List ℕ) → IsKeptElsewhere touched wait_states now → AgreeElsewhere standings now touched
  agree wait_states now were standings stood touched uncounted i out s k at there =
      let within = slice_get_within standings i s at in
      let row = row_at (entries P.operations) i (omega (arith, within, stood.size)) in
      let stands = stood.each i row.0.0 row.0.1 s row.1 at in
      let was = kept_there P wait_states were i row.0.0 row.0.1 row.1 in
      let same : k ≡ wait_state_at wait_states i = sym (get_or_from_slice_get now i k no_wait_state there) ∙ uncounted i out in
      one_count _ s.waiting (wait_state_at wait_states i).waiting stands.waiting was.1 ∙ ap (λ (x : WaitState). x.waiting) (sym same)

  -- what is known alike is so of statuses
  pub keep_status : (touched : List ℕ) → AreKnownAlike P Q touched → KeepStatus P Q touched
  keep_status touched known i out o op at = let was = moved.rows i o op at in (known i out o was.before was.was).1

-- standings brought in line with what is kept, as they are read of what is lent
pub updated_standing : (P Q : Contents) (moved_at : List ℕ) → IsMovedAt P Q moved_at → AreLiveAlike P Q → IsValid Q → (wait_states now : List WaitState) → AreWaitStates P wait_states → AreWaitStates Q now → (standings : List Standing) → AreStandings P standings
    → (touched : List ℕ) → IsKeptElsewhere touched wait_states now → (xs : List Standing) (ks : List WaitState) (ts : List ℕ) → xs ≡ standings → ks ≡ now → ts ≡ touched → (after : List Standing)
    → ((R S : Contents) (places : List ℕ) → IsValid S → IsMovedAt R S places → AreLiveAlike R S → AreStandings R xs → AreCounters S ks → AgreeElsewhere xs ks ts → AreStandings S after) → AreStandings Q after
updated_standing P Q moved_at moved alike valid wait_states now were are standings stood touched uncounted xs ks ts x k t after right =
    right P Q moved_at valid moved alike (subst (AreStandings P) (sym x) stood) (subst (AreCounters Q) (sym k) (counters Q now are))
    (subst (λ zs. AgreeElsewhere zs ks ts) (sym x) (subst (λ zs. AgreeElsewhere standings zs ts) (sym k) (subst (AgreeElsewhere standings now) (sym t) (agree P Q moved_at moved wait_states now were standings stood touched uncounted))))
