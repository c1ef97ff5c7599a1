-- To name operations takes no others out of the ready list.
use Rattle.std.proofs.Common.{◌≡◌, inl, inr, refl, subst, arith, ◌+◌, ◌≤◌, true, false, List, length, Contains}
use Rattle.std.specs.FinMap.{get}
use Rattle.std.proofs.lemmas.Bool.{cases_Bool}
use Rattle.plan_basics.specs.declared.keys.OpKey.{OpKey}
use Rattle.ready_list.specs.Choice.{is_among, operations_of}
use Rattle.ready_list.specs.declared.ReadyKey.{ReadyKey}
use Rattle.plan_drafts.proofs.Lists.{from_map, in_map, length_map}
use Rattle.plan_drafts.proofs.Tables.{is_found}
use Rattle.plan_model.specs.Contents.{Contents}
use Rattle.plan_model.specs.Ready.{IsReadyList, named}
use Rattle.plan_model.specs.Status.{IsReady}
use Rattle.plan_model.specs.Valid.{IsValid}
use Rattle.plan_checks.specs.plan_laws.proofs.Latest.{some_latest_start}
use Rattle.plan_checks.specs.start_choice.proofs.Naming.{ready_still}
use Rattle.plan_checks.specs.start_choice.proofs.Readied.{ready_in_plan}
use Rattle.plan_checks.specs.start_choice.proofs.ReadyLists.{ready_distinct}
use Rattle.small_requests.proofs.FewLooks.{length_within_both}

module _ (Q : Contents) (os : List OpKey) (ready : (o : OpKey) → is_among os o ≡ true → IsReady Q o) (valid : IsValid (named os Q)) where
  -- what is ready, and isn't named, is still listed
  still_listed : (after : List ReadyKey) → IsReadyList (named os Q) after → (o : OpKey) → is_among os o ≡ false → IsReady Q o → Contains (operations_of after) o
  still_listed after list o out is =
      let still = ready_still os Q ready o out is in
      let found = ready_in_plan (named os Q) o still in
      let latest = some_latest_start (named os Q) valid.acyclic o in
      let occurrence = is_found (get Q.occurrences o.occurrence) (valid.occurrences.each_operation o found.0 found.1).1 in
      let key : ReadyKey = record { latest = latest.0; priority = occurrence.0.priority; duration = found.0.duration; op = o } in
      in_map (λ (k : ReadyKey). k.op) after key ((list.has_all key).1 (still, latest.1, (found.0, found.1, refl), (occurrence.0, occurrence.1, refl)))

  pub few_asked : (keys after : List ReadyKey) (names : List OpKey) → IsReadyList Q keys → IsReadyList (named os Q) after → ((o : OpKey) → is_among os o ≡ true → Contains names o) → length keys ≤ length after + length names
  few_asked keys after names list list_after has_names = omega (
    arith,
    length_map (λ (k : ReadyKey). k.op) keys,
    length_map (λ (k : ReadyKey). k.op) after,
    length_within_both (operations_of keys) (operations_of after) names (ready_distinct Q keys list) (λ o has.
        let key = from_map (λ (k : ReadyKey). k.op) keys o has in
        let is : IsReady Q o = subst (IsReady Q) key.2 ((list.has_all key.0).0 key.1).0 in
        elim (cases_Bool (is_among os o)) [ inl among ↦ inr (has_names o among) | inr out ↦ inl (still_listed after list_after o out is) ]),
  )
