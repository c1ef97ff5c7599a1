-- What is kept of operations once an edit is written, by its values at the places that are touched.
use Rattle.std.proofs.Common.{◌≡◌, ◌↔◌, ◌⊎◌, inl, inr, sym, ap, subst, ◌∙◌, arith, ℕ, ◌<◌, List, length, Contains, Some, slice_get}
use Rattle.std.proofs.lemmas.Option.{slice_get-get_or, slice_get_cases, slice_get_past}
use Rattle.std.specs.List.Sorted.{IsStrictlySortedBy}
use Rattle.std.specs.Ordering.{nat_cmp}
use Rattle.satisfaction.specs.Counters.{wait_state_at, no_wait_state}
use Rattle.satisfaction.specs.declared.nodes.WaitState.{WaitState}
use Rattle.operation_graph.specs.Graphs.{Digraph}
use Rattle.plan_model.specs.Contents.{Contents}
use Rattle.plan_checks.specs.derived_figures.specs.WaitStates.{AreWaitStates}
use Rattle.small_requests.specs.StepLooks.{IsKeptElsewhere}
use Rattle.small_requests.proofs.Overwritten.{leads_there, leads_within, values_lead}
use Rattle.small_requests.specs.Edits.{AreBelow, ArePlacesWith, IsKeptBefore}
use Rattle.small_requests.specs.Groundworks.{IsMovedOn}
use Rattle.small_requests.specs.Values.{AreValuesAt, LeadsTo}
use Rattle.small_requests.specs.declared.edits.Edit.{Edit}

-- where the same is kept, the same stands
pub same_there : (wait_states new : List WaitState) → length new ≡ length wait_states → (i : ℕ) → wait_state_at new i ≡ wait_state_at wait_states i → slice_get wait_states i ≡ slice_get new i
same_there wait_states new size i same = elim (slice_get_cases wait_states i).1 [
  | inl here ↦
      let lt = here.1 in
      slice_get-get_or wait_states i no_wait_state lt ∙ ap Some (sym same) ∙ sym (slice_get-get_or new i no_wait_state (omega (arith, lt, size)))
  | inr past ↦
      let le = past.0 in
      past.1 ∙ sym (slice_get_past new i (omega (arith, le, size)))
]

-- what is kept where something is touched leads from what was kept to what is
pub kept_leads : (touched : List ℕ) (values : List (ℕ × WaitState)) (wait_states new : List WaitState) → length new ≡ length wait_states → IsKeptElsewhere touched wait_states new → AreValuesAt new (Contains touched) values → LeadsTo values wait_states new
kept_leads touched values wait_states new size elsewhere are = values_lead (Contains touched) values wait_states new are (sym size) (λ i out. same_there wait_states new size i (elsewhere i out))

pub moved_on : (Q : Contents) (edits touched : List ℕ) (values : List (ℕ × WaitState)) (wait_states new : List WaitState) → ArePlacesWith Q edits touched → AreWaitStates Q new → length new ≡ length wait_states → IsKeptElsewhere touched wait_states new
    → AreValuesAt new (Contains touched) values → IsMovedOn Q edits touched values wait_states
moved_on Q edits touched values wait_states new placed right size elsewhere are =
    let leads = kept_leads touched values wait_states new size elsewhere are in
    let is = leads_there values wait_states new leads in
    record {
      touched = placed;
      within = leads_within values wait_states new leads;
      kept_then = subst (AreWaitStates Q) (sym is) right;
      elsewhere = subst (IsKeptElsewhere touched wait_states) (sym is) elsewhere;
    }

-- what is edited and what is noted are places of the plan
pub placed : (P Q : Contents) (e : Edit) (g : Digraph) (wait_states : List WaitState) → IsKeptBefore P Q e g wait_states → (nodes first second touched : List ℕ) → AreBelow (length wait_states) nodes → first ≡ e.places.items → second ≡ nodes
    → IsStrictlySortedBy nat_cmp touched → ((i : ℕ) → Contains touched i ↔ (Contains first i ⊎ Contains second i)) → ArePlacesWith Q e.places.items touched
placed P Q e g wait_states was nodes first second touched below edited noted ascend both =
    let size = sym was.edit.moved.size in
    record {
      ascend = ascend;
      within = λ i has. elim ((both i).0 has) [
        | inl one ↦ subst (λ n. i < n) size (was.edit.within i (subst (λ ps. Contains ps i) edited one))
        | inr other ↦ subst (λ n. i < n) (was.wait_states.size ∙ size) (below i (subst (λ ps. Contains ps i) noted other))
      ];
      among = λ i has. (both i).1 (inl (subst (λ ps. Contains ps i) (sym edited) has));
    }
