-- Who holds what of special resources, as one operation after another gets another mark.
use Rattle.std.proofs.Common.{◌≡◌, ◌≢◌, inl, inr, refl, sym, ap, subst, ◌∙◌, true≢false, arith, ℕ, ◌+◌, ◌<◌, ◌≤◌, Bool, true, false, length, slice_get, Option, None, Some}
use Rattle.std.specs.FinMap.{entries, get}
use Rattle.std.proofs.lemmas.Bool.{cases_lt}
use Rattle.std.proofs.lemmas.Option.{none-some, same_Some, slice_get_within}
use Rattle.plan_basics.specs.Keys.{Name, operation_cmp, operation_cmp_total, operation_cmp-IsAntisymmetric}
use Rattle.plan_basics.specs.declared.keys.OpKey.{OpKey}
use Rattle.special_resources.specs.Holders.{Usage}
use Rattle.special_resources.specs.Holdings.{Held}
use Rattle.special_resources.specs.declared.Claim.{Claim}
use Rattle.status_rules.specs.Table.{marked_status}
use Rattle.plan_model.proofs.Entries.{entries_in_order}
use Rattle.plan_model.specs.Contents.{Contents, Operation, attribute_at}
use Rattle.plan_model.specs.Holdings.{Holds, holds_resource, takes}
use Rattle.plan_model.specs.Moves.{IsRemarked}
use Rattle.start_choice.specs.plan_status.proofs.Ascending.{one_place}
use Rattle.start_choice.specs.plan_status.proofs.LoadedRows.{row_found, row_of}
use Rattle.start_choice.specs.Choices.{AreHeldIn}
use Rattle.start_choice.proofs.NeedsTaken.{one_or_two}
use Rattle.derived_figures.specs.Between.{AreHeldBetween, HoldsJust, IsRemarkedPlan}
use Rattle.derived_figures.specs.Marked.{HaveRetaken}
use Rattle.derived_figures.proofs.Remarked.{attribute_same, row_after}

-- where nothing that o holds changes
still_held : (P : Contents) (o : OpKey) (held now : Held) → ((r : Name) → get now (r, o) ≡ get held (r, o)) → HoldsJust P o held → HoldsJust P o now
still_held P o held now same by r claim = (λ e. (by r claim).0 (sym (same r) ∙ e), λ h. same r ∙ (by r claim).1 h)

module _ (P Q : Contents) (alike : IsRemarkedPlan P Q) where
  -- ---- one operation

  holds_alike : (o : OpKey) → get Q.operations o ≡ get P.operations o → (r : Name) (usage : Usage) → Holds P o r usage → Holds Q o r usage
  holds_alike o same r usage (op, is, (needs, known, holds)) = (op, same ∙ is, (needs, ap takes (attribute_same P Q alike op.workstation) ∙ known, holds))

  holds_alike_back : (o : OpKey) → get Q.operations o ≡ get P.operations o → (r : Name) (usage : Usage) → Holds Q o r usage → Holds P o r usage
  holds_alike_back o same r usage (op, is, (needs, known, holds)) =
      (op, sym same ∙ is, (needs, ap takes (sym (attribute_same P Q alike op.workstation)) ∙ known, holds))

  -- one that is the same in both holds the same
  held_alike : (o : OpKey) → get Q.operations o ≡ get P.operations o → (held : Held) → HoldsJust P o held → HoldsJust Q o held
  held_alike o same held by r claim = (
    λ e. let h = (by r claim).0 e in (h.0, holds_alike o same r _ h.1),
    λ h. (by r claim).1 (h.0, holds_alike_back o same r _ h.1),
  )

  module _ (o : OpKey) (old new : Operation) (was : get P.operations o ≡ Some old) (is : get Q.operations o ≡ Some new) (remarked : IsRemarked old new) where
    its_needs : new.needs ≡ old.needs
    its_needs = ap (λ (op : Operation). op.needs) remarked.rest

    its_workstation : new.workstation ≡ old.workstation
    its_workstation = ap (λ (op : Operation). op.workstation) remarked.rest

    pub known_in_both : takes (attribute_at Q new.workstation) ≡ takes (attribute_at P old.workstation)
    known_in_both = ap takes (attribute_same P Q alike new.workstation ∙ ap (attribute_at P) its_workstation)

    known_before : (r : Name) (usage : Usage) → Holds P o r usage → takes (attribute_at P old.workstation) ≡ true
    known_before r usage h = subst (λ (op : Operation). takes (attribute_at P op.workstation) ≡ true) (same_Some h.0 old (sym h.1 ∙ was)) h.2.1

    needed_before : (r : Name) (usage : Usage) → Holds P o r usage → get new.needs r ≡ Some usage
    needed_before r usage h = ap (λ needs. get needs r) its_needs ∙ subst (λ (op : Operation). get op.needs r ≡ Some usage) (same_Some h.0 old (sym h.1 ∙ was)) h.2.0

    known_after : (r : Name) (usage : Usage) → Holds Q o r usage → takes (attribute_at P old.workstation) ≡ true
    known_after r usage h = sym known_in_both ∙ subst (λ (op : Operation). takes (attribute_at Q op.workstation) ≡ true) (same_Some h.0 new (sym h.1 ∙ is)) h.2.1

    needed_after : (r : Name) (usage : Usage) → Holds Q o r usage → get new.needs r ≡ Some usage
    needed_after r usage h = subst (λ (op : Operation). get op.needs r ≡ Some usage) (same_Some h.0 new (sym h.1 ∙ is)) h.2.0

    marked_after : (r : Name) (usage : Usage) → Holds Q o r usage → holds_resource usage.keep (marked_status new.mark) ≡ true
    marked_after r usage h = subst (λ (op : Operation). holds_resource usage.keep (marked_status op.mark) ≡ true) (same_Some h.0 new (sym h.1 ∙ is)) h.2.2

    -- where its workstation's operations take nothing, it holds nothing
    pub none_held : takes (attribute_at P old.workstation) ≡ false → (held : Held) → HoldsJust P o held → HoldsJust Q o held
    none_held none held by r claim = (
      λ e. let h = (by r claim).0 e in absurd (true≢false (sym (known_before r _ h.1) ∙ none)),
      λ h. absurd (true≢false (sym (known_after r _ h.1) ∙ none)),
    )

    module _ (known : takes (attribute_at P old.workstation) ≡ true) (held now : Held) (by : HoldsJust P o held) (retaken : HaveRetaken held o new.needs new.mark now) where
      abbrev between : Held
      between = retaken.0

      -- what it holds of what its new mark doesn't hold is freed
      freed_first : (r : Name) (claim : Claim) (usage : Usage) → get new.needs r ≡ Some usage → get between (r, o) ≡ Some claim → holds_resource usage.keep (marked_status new.mark) ≡ true
      freed_first r claim usage needed got = at (holds_resource usage.keep (marked_status new.mark)) refl
        where
          at : (b : Bool) → holds_resource usage.keep (marked_status new.mark) ≡ b → holds_resource usage.keep (marked_status new.mark) ≡ true
          at true e = e
          at false e = absurd (none-some claim (sym (retaken.1.freed r usage needed e) ∙ got))

      -- what is held in between was held before, as it is needed
      held_before : (r : Name) (claim : Claim) → get between (r, o) ≡ Some claim → (keep : Bool) × (get new.needs r ≡ Some (record { claim = claim; keep = keep }))
      held_before r claim got = at (get new.needs r) refl
        where
          by_old : get held (r, o) ≡ Some claim → (keep : Bool) × (get new.needs r ≡ Some (record { claim = claim; keep = keep }))
          by_old e = let h = (by r claim).0 e in (h.0, needed_before r _ h.1)

          at : (needed : Option Usage) → get new.needs r ≡ needed → (keep : Bool) × (get new.needs r ≡ Some (record { claim = claim; keep = keep }))
          at None e = by_old (sym (retaken.1.kept r (λ usage is'. absurd (none-some usage (sym e ∙ is')))) ∙ got)
          at (Some u) e = by_old (sym (retaken.1.kept r (λ usage is'. freed_first r claim usage is' got)) ∙ got)

      held_now : (r : Name) (claim : Claim) (x : Option Claim) → get between (r, o) ≡ x → get now (r, o) ≡ Some claim → (keep : Bool) × Holds Q o r (record { claim = claim; keep = keep })
      held_now r claim None e got =
          let t = (retaken.2.own r e claim).0 got in
          (t.0, (new, is, (t.1, known_in_both ∙ known, t.2)))
      held_now r claim (Some first) e got =
          let same : first ≡ claim = same_Some first claim (sym (retaken.2.kept r first e) ∙ got) in
          let there : get between (r, o) ≡ Some claim = e ∙ ap Some same in
          let needed = held_before r claim there in
          (needed.0, (new, is, (needed.1, known_in_both ∙ known, freed_first r claim _ needed.1 there)))

      taken_now : (r : Name) (claim : Claim) (x : Option Claim) → get between (r, o) ≡ x → (keep : Bool) × Holds Q o r (record { claim = claim; keep = keep }) → get now (r, o) ≡ Some claim
      taken_now r claim None e h = (retaken.2.own r e claim).1 (h.0, needed_after r _ h.1, marked_after r _ h.1)
      taken_now r claim (Some first) e h =
          let needed = held_before r first e in
          let same : ◌≡◌ {A = Usage} (record { claim = first; keep = needed.0 }) (record { claim = claim; keep = h.0 }) = same_Some _ _ (sym needed.1 ∙ needed_after r _ h.1) in
          retaken.2.kept r first e ∙ ap (λ (u : Usage). Some u.claim) same

      -- released and taken, it holds what its new mark holds
      pub held_anew : HoldsJust Q o now
      held_anew r claim = (held_now r claim (get between (r, o)) refl, taken_now r claim (get between (r, o)) refl)

  -- ---- one place after another

  abbrev same_key_there : (i j : ℕ) (o : OpKey) (x y : Operation) → slice_get (entries Q.operations) i ≡ Some (o, x) → slice_get (entries Q.operations) j ≡ Some (o, y) → i ≡ j
  same_key_there = one_place operation_cmp_total (entries Q.operations) (entries_in_order operation_cmp Q.operations)

  -- nothing is changed yet
  pub held_first : (held : Held) → AreHeldIn P held → AreHeldBetween P Q 0 held
  held_first held are = record { changed = λ i o op at lt. absurd (omega (arith, lt)); others = λ o all. are o }

  -- up to a place between which and this one nothing changes
  pub held_onward : (m n : ℕ) → m ≤ n → ((i : ℕ) (o : OpKey) (op : Operation) → slice_get (entries Q.operations) i ≡ Some (o, op) → m ≤ i → i < n → slice_get (entries P.operations) i ≡ Some (o, op))
      → (held : Held) → AreHeldBetween P Q m held → AreHeldBetween P Q n held
  held_onward m n le same held so_far = record {
    changed = λ i o op at lt. elim (cases_lt i m) [
      | inl less ↦ so_far.changed i o op at less
      | inr more ↦
          held_alike o (row_found Q i o op at ∙ sym (row_found P i o op (same i o op at more lt))) held
          (so_far.others o (λ j other there. let here = same_key_there i j o op other at there in omega (arith, here, more)))
    ];
    others = λ o all. so_far.others o (λ i op at. let far = all i op at in omega (arith, far, le));
  }

  -- past this place, where its operation holds what it does now
  pub held_past : (m : ℕ) (o : OpKey) (new : Operation) → slice_get (entries Q.operations) m ≡ Some (o, new) → (held now : Held)
      → ((p : OpKey) (r : Name) → p ≢ o → get now (r, p) ≡ get held (r, p)) → HoldsJust Q o now → AreHeldBetween P Q m held → AreHeldBetween P Q (m + 1) now
  held_past m o new here held now others by so_far = record {
    changed = λ i p op at lt. elim (one_or_two operation_cmp_total operation_cmp-IsAntisymmetric p o) [
      | inl same ↦ subst (λ z. HoldsJust Q z now) (sym same) by
      | inr differs ↦ elim (cases_lt i m) [
        | inl less ↦ still_held Q p held now (λ r. others p r differs) (so_far.changed i p op at less)
        | inr more ↦
            let last : i ≡ m = omega (arith, more, lt) in
            absurd (differs (ap (λ (z : OpKey × Operation). z.0) (same_Some (p, op) (o, new) (sym at ∙ ap (slice_get (entries Q.operations)) last ∙ here))))
      ]
    ];
    others = λ p all.
        let differs : p ≢ o = λ e. (let far = all m new (here ∙ ap (λ z. Some (z, new)) (sym e)) in omega (arith, far)) in
        still_held P p held now (λ r. others p r differs) (so_far.others p (λ i op at. let far = all i op at in omega (arith, far)));
  }

  -- past the last place
  pub held_last : (n : ℕ) → length (entries Q.operations) ≤ n → (held : Held) → AreHeldBetween P Q n held → AreHeldIn Q held
  held_last n past held so_far o = at (get Q.operations o) refl
    where
      nothing_before : get Q.operations o ≡ None → (old : Operation) → get P.operations o ≡ Some old → ⊥
      nothing_before none old was =
          let place = row_of P o old was in
          let new = row_after P Q alike place.0 o old place.1 in
          none-some new.0 (sym none ∙ row_found Q place.0 o new.0 new.1)

      at : (x : Option Operation) → get Q.operations o ≡ x → HoldsJust Q o held
      at (Some op) e = let place = row_of Q o op e in let within = slice_get_within (entries Q.operations) place.0 (o, op) place.1 in so_far.changed place.0 o op place.1 (omega (arith, within, past))
      at None e = λ r claim.
          let by = so_far.others o (λ i op there. absurd (none-some op (sym e ∙ row_found Q i o op there))) in (
            λ got. let h = (by r claim).0 got in absurd (nothing_before e h.1.0 h.1.1),
            λ h. absurd (none-some h.1.0 (sym e ∙ h.1.1)),
          )
