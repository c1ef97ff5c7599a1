-- What is known of operations whose row stays, and of which the same is kept.
use Rattle.std.proofs.Common.{◌≡◌, sym, ap, subst, ◌∙◌, arith, ℕ, List, Contains, Some, slice_get, option_map}
use Rattle.std.proofs.lemmas.Option.{slice_get_within, some_pair_parts}
use Rattle.std.specs.FinMap.{entries, get}
use Rattle.plan_basics.specs.declared.keys.OpKey.{OpKey}
use Rattle.satisfaction.specs.Counters.{wait_state_at}
use Rattle.satisfaction.specs.declared.nodes.WaitState.{WaitState}
use Rattle.plan_drafts.proofs.RowPlaces.{row_at}
use Rattle.plan_drafts.proofs.Tables.{is_found}
use Rattle.plan_checks.specs.plan_laws.proofs.Standing.{one_status}
use Rattle.plan_checks.specs.plan_laws.proofs.Waiting.{one_count}
use Rattle.plan_model.specs.Contents.{Contents, HasAttribute, Operation}
use Rattle.plan_model.specs.Status.{HasStatus}
use Rattle.plan_model.specs.Valid.{IsValid}
use Rattle.plan_model.specs.Moves.{AreLiveAlike, IsMovedAt}
use Rattle.plan_checks.specs.derived_figures.proofs.StatusesKept.{attribute_after}
use Rattle.plan_checks.specs.derived_figures.proofs.StandingsMoved.{stands_anew, stands_still}
use Rattle.plan_checks.specs.plan_status.proofs.ByStanding.{status_on}
use Rattle.plan_checks.specs.plan_status.proofs.LoadedRows.{row_found}
use Rattle.plan_checks.specs.plan_status.specs.Standings.{AreStandings, IsStanding}
use Rattle.plan_checks.specs.plan_status.specs.declared.standings.Standing.{Standing}
use Rattle.small_requests.specs.StepLooks.{IsKeptElsewhere}
use Rattle.small_requests.specs.Touched.{AreKnownAlike, IsKnownAlike}
use Rattle.plan_checks.specs.derived_figures.proofs.Right.{kept_there}
use Rattle.plan_checks.specs.derived_figures.specs.WaitStates.{AreWaitStates, IsKept}
use Rattle.status_rules.specs.Table.{status_by}
use Rattle.status_rules.specs.declared.Status.{Status}
use Rattle.workstations.specs.Workstations.{Workstation}

module _ (P Q : Contents) (moved_at : List ℕ) (moved : IsMovedAt P Q moved_at) where
  -- the row of an operation that isn't moved stays
  pub row_stays : (i : ℕ) (o : OpKey) (op : Operation) → slice_get (entries P.operations) i ≡ Some (o, op) → ¬ Contains moved_at i → slice_get (entries Q.operations) i ≡ Some (o, op)
  row_stays i o op at out =
      let within = slice_get_within (entries P.operations) i (o, op) at in
      let row = row_at (entries Q.operations) i (omega (arith, within, moved.size)) in
      let was = moved.rows i row.0.0 row.0.1 row.1 in
      let parts = some_pair_parts o row.0.0 op was.before (sym at ∙ was.was) in
      let op_same : row.0.1 ≡ op = was.elsewhere out ∙ sym parts.1 in
      row.1 ∙ (λ j. Some (sym parts.0 j, op_same j))

  module _ (alike : AreLiveAlike P Q) (valid : IsValid P) (still : IsValid Q) (wait_states now : List WaitState) (were : AreWaitStates P wait_states) (are : AreWaitStates Q now) (standings : List Standing) (stood : AreStandings P standings) where
    module _ (i : ℕ) (o : OpKey) (op : Operation) (at : slice_get (entries P.operations) i ≡ Some (o, op)) (out : ¬ Contains moved_at i) (same : wait_state_at now i ≡ wait_state_at wait_states i) where
      was : IsKept P o (wait_state_at wait_states i)
      was = kept_there P wait_states were i o op at

      is : IsKept Q o (wait_state_at wait_states i)
      is = subst (IsKept Q o) same (kept_there Q now are i o op (row_stays i o op at out))

      standing_stays : (s : Standing) → IsStanding P o s → IsStanding Q o s
      standing_stays s h =
          let waits : s.waiting ≡ (wait_state_at wait_states i).waiting = one_count _ s.waiting (wait_state_at wait_states i).waiting h.waiting was.1 in
          stands_anew P Q moved_at moved alike still o s s (wait_state_at wait_states i).waiting h is.1 (stands_still P Q moved_at moved alike still o s (wait_state_at wait_states i).waiting h waits)

      status_stays : (t : Status) → HasStatus P o t → HasStatus Q o t
      status_stays t h =
          let within = slice_get_within (entries P.operations) i (o, op) at in
          let s = row_at standings i (omega (arith, within, stood.size)) in
          let stands : IsStanding P o s.0 = stood.each i o op s.0 at s.1 in
          let found = row_found P i o op at in
          let ws = is_found (get P.workstations op.workstation) (valid.have_workstations o op found) in
          let a = ws.0.attribute in
          let on : HasAttribute P op.workstation a = ap (option_map (λ (w : Workstation). w.attribute)) ws.1 in
          let told = status_on P o op a s.0.preds found on stands.preds in
          subst (HasStatus Q o) (sym (one_status P valid.acyclic o t (status_by op.mark op.held op.nop a s.0.preds) h told))
          (status_on Q o op a s.0.preds (row_found Q i o op (row_stays i o op at out)) (attribute_after P Q moved_at moved op.workstation a on) (standing_stays s.0 stands).preds)

      pub alike_there : IsKnownAlike P Q o
      alike_there = (standing_stays, status_stays)

    -- what is known stays, where the row stays and the same is kept
    pub known_alike : (touched : List ℕ) → ((i : ℕ) → Contains moved_at i → Contains touched i) → IsKeptElsewhere touched wait_states now → AreKnownAlike P Q touched
    known_alike touched among uncounted i out o op at = alike_there i o op at (λ has. out (among i has)) (uncounted i out)
