-- Where an operation's row and standing stay, its status stays.
use Rattle.std.proofs.Common.{◌≡◌, sym, ap, subst, ◌∙◌, arith, ℕ, false, List, get_or, slice_get, Some, Contains, option_map}
use Rattle.std.proofs.lemmas.Option.{slice_get-get_or, slice_get_within}
use Rattle.std.specs.FinMap.{entries, get}
use Rattle.plan_basics.specs.declared.keys.OpKey.{OpKey}
use Rattle.workstations.specs.Workstations.{Workstation}
use Rattle.status_rules.specs.Table.{status_by}
use Rattle.status_rules.specs.declared.Status.{Status}
use Rattle.plan_model.specs.Contents.{Contents, HasAttribute, Operation}
use Rattle.plan_model.specs.Status.{HasStatus}
use Rattle.plan_model.specs.Valid.{IsAcyclic, IsValid}
use Rattle.start_choice.specs.plan_drafts.proofs.Tables.{is_found}
use Rattle.start_choice.specs.plan_laws.proofs.Standing.{one_status}
use Rattle.plan_model.specs.Moves.{IsMovedAt}
use Rattle.start_choice.specs.plan_status.proofs.ByStanding.{status_on}
use Rattle.start_choice.specs.plan_status.proofs.LoadedRows.{row_found}
use Rattle.start_choice.specs.plan_status.specs.Standings.{AreStandings, IsStanding}
use Rattle.start_choice.specs.plan_status.specs.declared.standings.Standing.{Standing}
use Rattle.derived_figures.specs.StatusesBefore.{KeepStatus}
use Rattle.derived_figures.specs.StandingChanges.{StayElsewhere}
use Rattle.derived_figures.proofs.StatusesKept.{attribute_before}

module _ (P Q : Contents) (moved_at : List ℕ) (moved : IsMovedAt P Q moved_at) (valid : IsValid Q) where
  status_stays : (o : OpKey) (op : Operation) → get P.operations o ≡ Some op → get Q.operations o ≡ Some op → (s : Standing) → IsStanding P o s → IsStanding Q o s → (t : Status) → HasStatus P o t → HasStatus Q o t
  status_stays o op was is s before after t has =
      let ws = is_found (get Q.workstations op.workstation) (valid.have_workstations o op is) in
      let a = ws.0.attribute in
      let on : HasAttribute Q op.workstation a = ap (option_map (λ (x : Workstation). x.attribute)) ws.1 in
      let by = status_by op.mark op.held op.nop a s.preds in
      let same : t ≡ by = one_status P (subst IsAcyclic moved.pairs valid.acyclic) o t by has (status_on P o op a s.preds was (attribute_before P Q moved_at moved op.workstation a on) before.preds) in
      subst (HasStatus Q o) (sym same) (status_on Q o op a s.preds is on after.preds)

  -- where rows differ at some of these places alone, and standings too, statuses stay at all others
  pub keeps_status : (places : List ℕ) → ((i : ℕ) → Contains moved_at i → Contains places i) → (before after : List Standing) → AreStandings P before → AreStandings Q after
      → StayElsewhere before after places → KeepStatus P Q places
  keeps_status places among before after stood stand stay i out o op row t has =
      let was = moved.rows i o op row in
      let unmoved : op ≡ was.before = was.elsewhere (λ m. out (among i m)) in
      let within = slice_get_within (entries Q.operations) i (o, op) row in
      let s : Standing = get_or before i (record { preds = record { live = false; satisfied = false; nonreporting = false }; waiting = 0 }) in
      let here : slice_get before i ≡ Some s = slice_get-get_or before i _ (omega (arith, within, stood.size, moved.size)) in
      status_stays o op (row_found P i o was.before was.was ∙ ap Some (sym unmoved)) (row_found Q i o op row) s
      (stood.each i o was.before s was.was here) (stand.each i o op s row (stay i out s here)) t has
