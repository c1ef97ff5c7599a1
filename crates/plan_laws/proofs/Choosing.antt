-- From a ready list in which no operation is repeated there is a choice, where each of its tests can be decided.
use Rattle.std.proofs.Common.{◌≡◌, inl, inr, refl, sym, ◌∙◌, subst, false, List, [], ◌∷◌, ◌++◌, append-nil, append_assoc}
use Rattle.plan_basics.specs.declared.Attr.TheVariants.{Automatic}
use Rattle.plan_basics.specs.declared.keys.OpKey.{OpKey}
use Rattle.plan_records.specs.plan_model.specs.ready_list.proofs.Steps.{chosen_named, chosen_none, chosen_passed, chosen_skipped}
use Rattle.plan_records.specs.plan_model.specs.ready_list.specs.Choice.{IsChoice, is_among, operations_of}
use Rattle.plan_laws.proofs.Allowing.{allowed_told}
use Rattle.plan_laws.proofs.Entries.{told_has}
use Rattle.plan_laws.proofs.Readying.{once, one_entry, ready_list}
use Rattle.plan_laws.proofs.Decide.{told_attribute}
use Rattle.operation_graph.proofs.Telling.{Told}
use Rattle.plan_laws.specs.Derived.{SomeChoice}
use Rattle.plan_records.specs.plan_model.specs.Contents.{HasAttribute}
use Rattle.plan_records.specs.plan_model.specs.Ready.{IsOnAutomatic, named}
use Rattle.plan_records.specs.plan_model.specs.Starts.{IsAllowedToStart}

module _ (automatic : OpKey → Type 0) (allowed : List OpKey → OpKey → Type 0) (automatic_told : (o : OpKey) → Told (automatic o)) (may_told : (os : List OpKey) (o : OpKey) → Told (allowed os o))
    (ready : List OpKey) (fresh : (before after : List OpKey) (o : OpKey) → ready ≡ before ++ o ∷ after → is_among before o ≡ false) where
  abbrev Chosen : List OpKey → List OpKey → Type 0
  Chosen = IsChoice automatic allowed

  one_more : (done c : List OpKey) (o : OpKey) → is_among done o ≡ false → Chosen done c → (d : List OpKey) × Chosen (done ++ o ∷ []) d
  one_more done c o new x = elim (automatic_told o) [
    | inl on ↦ elim (may_told c o) [ inl may ↦ (c ++ o ∷ [], chosen_named automatic allowed done c x o new on may) | inr never ↦ (c, chosen_passed automatic allowed done c x o new never) ]
    | inr off ↦ (c, chosen_skipped automatic allowed done c x o new off)
  ]

  go_on : (done rest : List OpKey) → ready ≡ done ++ rest → (c : List OpKey) → Chosen done c → (d : List OpKey) × Chosen ready d
  go_on done [] split c x = (c, subst (λ zs. Chosen zs c) (sym (split ∙ append-nil done)) x)
  go_on done (o ∷ rest) split c x =
      let more = one_more done c o (fresh done rest o split) x in
      go_on (done ++ o ∷ []) rest (split ∙ sym (append_assoc done (o ∷ []) rest)) more.0 more.1

  some_choice_from : (c : List OpKey) × Chosen ready c
  some_choice_from = go_on [] ready refl [] (chosen_none automatic allowed)

pub some_choice : SomeChoice
some_choice P m valid =
    let keys = ready_list P valid in
    let c = some_choice_from (IsOnAutomatic P) (λ before o. IsAllowedToStart (named before P) o m)
    (λ o. told_has P o (λ op. HasAttribute P op.workstation Automatic) (λ op e. told_attribute P op.workstation Automatic))
    (λ os o. allowed_told (named os P) valid.acyclic o m)
    (operations_of keys.0)
    (once keys.0 keys.1.ascends (λ k l hk hl. one_entry P k l ((keys.1.has_all k).0 hk) ((keys.1.has_all l).0 hl))) in
    (c.0, record { ready = keys.0; is_ready_list = keys.1; choice = c.1 })
