-- An occurrence that stays in an extended plan isn't over in it: of what stays the extension makes nothing complete.
use Rattle.std.proofs.Common.{◌≡◌, ◌≢◌, ◌↔◌, inl, inr, refl, sym, ◌∙◌, ap, true≢false, arith, ◌<◌, ℕ, Bool, true, false, ◌&&◌, List, Some, is_some}
use Rattle.std.proofs.lemmas.Bool.{cases_Bool, false_from_ne_true, or_left}
use Rattle.std.proofs.lemmas.Option.{same_Some}
use Rattle.std.specs.FinMap.{contains_key, get}
use Rattle.std.specs.FinSet as set
use Rattle.plan_basics.specs.Keys.{occurrence_cmp-IsAntisymmetric, operation_cmp_total}
use Rattle.plan_basics.specs.declared.Refusal.TheVariants as refusal
use Rattle.plan_basics.specs.declared.keys.OccKey.{OccKey}
use Rattle.plan_basics.specs.declared.keys.OpKey.{OpKey}
use Rattle.status_rules.specs.LeastSet.{by_all_before, by_given}
use Rattle.status_rules.specs.Table.{occurrence_status_place}
use Rattle.status_rules.specs.declared.Mark.TheVariants as mark
use Rattle.status_rules.specs.declared.OccStatus.{OccStatus}
use Rattle.status_rules.specs.declared.OccStatus.TheVariants as occurrence
use Rattle.status_rules.specs.declared.Status.{Status}
use Rattle.status_rules.specs.declared.Status.TheVariants as status
use Rattle.ready_list.specs.Choice.{is_among}
use Rattle.plan_drafts.specs.Drafts.{IsExtension}
use Rattle.plan_drafts.proofs.Tables.{is_found}
use Rattle.plan_laws.proofs.Classes.{satisfied_by_status}
use Rattle.plan_laws.proofs.ComingIn.{not_own, only_first}
use Rattle.plan_laws.proofs.Leaving.{left_valid, still, was, was_known}
use Rattle.plan_laws.proofs.Pairs.{pair_cmp-IsAntisymmetric, pair_cmp_total}
use Rattle.plan_laws.proofs.Standing.{one_status, satisfied_told}
use Rattle.plan_laws.proofs.Tables.{by_mark_of}
use Rattle.plan_records.specs.Acceptance.{MayBeAdded}
use Rattle.plan_records.specs.Changes.{IsOver, with_added, with_only}
use Rattle.plan_model.specs.Contents.{AddedParts, Contents, IsInPlan, IsPairOf, Operation}
use Rattle.plan_model.specs.Ready.{IsChosen, named}
use Rattle.plan_model.specs.Revise.{get-joined}
use Rattle.plan_model.specs.Status.{HasStatus, IsSatisfied, OccurrenceCase}
use Rattle.plan_model.specs.Valid.{IsAcyclic, IsValid}
use Rattle.plan_status.proofs.Naming.{named_if, row_after, was_satisfied}
use Rattle.plan_repeats.proofs.Twice.{chosen_ready}

module _ (P : Contents) (valid : IsValid P) (stays : OccKey → Bool) (tells : (c : OccKey) → (stays c ≡ true) ↔ ¬ IsOver P c) where
  -- what is left once what is over has left
  abbrev pub left : Contents
  left = with_only stays P

  pair_still : (p o : OpKey) → IsPairOf P.pairs p o → stays p.occurrence ≡ true → stays o.occurrence ≡ true → IsPairOf left.pairs p o
  pair_still p o h first second =
      set.contains-retain P.pairs pair_stays (p, o) (λ x e. ap pair_stays (sym (pair_cmp-IsAntisymmetric (p, o) x e)))
      ∙ (λ i. h i && (first i && second i))
    where
      pair_stays : OpKey × OpKey → Bool
      pair_stays x = stays x.0.occurrence && stays x.1.occurrence

  -- what leaves is satisfied
  satisfied_if_over : (p : OpKey) → IsInPlan P p → IsOver P p.occurrence → IsSatisfied P p
  satisfied_if_over p known (inl complete) = (satisfied_by_status P p).1 (inl (complete.0 p refl known))
  satisfied_if_over p known (inr deleted) = (satisfied_by_status P p).1 (inr (deleted.0 p refl known))

  satisfied_if_gone : (p : OpKey) → IsInPlan P p → stays p.occurrence ≡ false → IsSatisfied P p
  satisfied_if_gone p known f = elim (satisfied_told P valid.acyclic p) [
    | inl s ↦ s
    | inr never ↦ absurd (true≢false (sym ((tells p.occurrence).1 (λ over. never (satisfied_if_over p known over))) ∙ f))
  ]

  -- so what is satisfied in what is left was so before
  satisfied_before : {o : OpKey} → IsSatisfied left o → IsSatisfied P o
  satisfied_before {o} (by_given h) = by_given (h.0, (was P stays o h.0 h.1).1, h.2)
  satisfied_before {o} (by_all_before h before) =
      let w = was P stays o h.0 h.1 in
      by_all_before (h.0, w.1, h.2) (λ p live. elim (cases_Bool (stays p.occurrence)) [
        | inl t ↦ satisfied_before (before p (pair_still p o live.0 t w.0, (live.1.0, still P stays p live.1.0 t live.1.1, live.1.2)))
        | inr f ↦ satisfied_if_gone p (live.1.0, live.1.1, tt) f
      ])

  module _ (s : AddedParts) (extension : IsExtension s) (new : MayBeAdded left s refusal.Duplicate) where
    -- and with what is added
    abbrev pub grown : Contents
    grown = with_added left s

    old_row : (o : OpKey) (op : Operation) → get left.operations o ≡ Some op → get grown.operations o ≡ Some op
    old_row o op is =
        get-joined operation_cmp_total left.operations s.operations o
        ∙ only_first (get s.operations o) (get left.operations o) op (λ h.
        let one = is_found (get s.operations o) h in
        not_own left s (left_valid P stays valid) new o (ap is_some is) (extension.occurrences.each_operation o one.0 one.1).1) is

    satisfied_in_left : {o : OpKey} → IsSatisfied grown o → (op : Operation) → get left.operations o ≡ Some op → IsSatisfied left o
    satisfied_in_left {o} (by_given h) op is = by_given (h.0, is ∙ ap Some (same_Some op h.0 (sym (old_row o op is) ∙ h.1)), h.2)
    satisfied_in_left {o} (by_all_before h before) op is =
        by_all_before (h.0, is ∙ ap Some (same_Some op h.0 (sym (old_row o op is) ∙ h.1)), h.2) (λ p live.
        satisfied_in_left (before p (set.contains-union pair_cmp_total left.pairs s.pairs (p, o) ∙ or_left (set.contains left.pairs (p, o)) (set.contains s.pairs (p, o)) live.0, (live.1.0, old_row p live.1.0 live.1.1, live.1.2))) live.1.0 live.1.1)

    module _ (acyclic : IsAcyclic grown.pairs) (m : ℕ) (chosen : List OpKey) (choice : IsChosen grown m chosen) where
      -- and with those named that are chosen
      abbrev pub after : Contents
      after = named chosen grown

      -- what is named is started
      pub not_named : (o : OpKey) (op : Operation) → get grown.operations o ≡ Some op → (s : Status) → s ≢ status.Started → HasStatus after o s → is_among chosen o ≡ false
      not_named o op is s apart h = false_from_ne_true (is_among chosen o) (λ e.
          apart (one_status after acyclic o s status.Started h (by_mark_of after o (named_if (is_among chosen o) op) mark.Named status.Started (row_after grown chosen o op is) (ap (λ b. (named_if b op).mark) e) refl)))

      module _ (o : OpKey) (op : Operation) (is : get P.operations o ≡ Some op) (stay : stays o.occurrence ≡ true) where
        grown_row : get grown.operations o ≡ Some op
        grown_row = old_row o op (still P stays o op stay is)

        after_row : (s : Status) → s ≢ status.Started → HasStatus after o s → get after.operations o ≡ Some op
        after_row s apart h = row_after grown chosen o op grown_row ∙ ap (λ b. Some (named_if b op)) (not_named o op grown_row s apart h)

        deleted_before : HasStatus after o status.Deleted → HasStatus P o status.Deleted
        deleted_before h = (h.0, is ∙ sym (after_row status.Deleted (λ e. cc) h) ∙ h.1, h.2)

        complete_before : HasStatus after o status.Complete → HasStatus P o status.Complete
        complete_before h =
            let now : IsSatisfied after o = (satisfied_by_status after o).1 (inl h) in
            let before : IsSatisfied P o = satisfied_before (satisfied_in_left (was_satisfied grown chosen (chosen_ready grown m chosen choice) now) op (still P stays o op stay is)) in
            elim ((satisfied_by_status P o).0 before) [
              | inl complete ↦ complete
              | inr deleted ↦ absurd (let e = one_status after acyclic o status.Complete status.Deleted h (deleted.0, after_row status.Complete (λ e. cc) h ∙ sym is ∙ deleted.1, deleted.2) in cc)
            ]

        -- an operation that stays is in the plan after it
        pub still_in_plan : IsInPlan after o
        still_in_plan = (named_if (is_among chosen o) op, row_after grown chosen o op grown_row, tt)

      module _ (c : OccKey) (stay : stays c ≡ true) (o : OpKey) (of : o.occurrence ≡ c) (known : IsInPlan P o) where
        -- where each operation is complete, no other status comes first
        none_first : ((q : OpKey) → q.occurrence ≡ c → IsInPlan P q → HasStatus P q status.Complete) → (t : OccStatus) → occurrence_status_place t < 3 → ¬ OccurrenceCase P c t
        none_first each occurrence.Deleted less h = let e = one_status P valid.acyclic o status.Complete status.Deleted (each o of known) (h o of known) in cc
        none_first each occurrence.Error less h = let e = one_status P valid.acyclic h.0 status.Complete status.Error (each h.0 h.1 (h.2.0, h.2.1, tt)) h.2 in cc
        none_first each occurrence.Undecided less h = let e = one_status P valid.acyclic h.0 status.Complete status.Undecided (each h.0 h.1 (h.2.0, h.2.1, tt)) h.2 in cc
        none_first each occurrence.Complete less h = omega (arith, less)
        none_first each occurrence.Started less h = omega (arith, less)
        none_first each occurrence.Waiting less h = omega (arith, less)

        over_before : IsOver after c → IsOver P c
        over_before (inl complete) =
            let each : (q : OpKey) → q.occurrence ≡ c → IsInPlan P q → HasStatus P q status.Complete =
            λ q e h. complete_before q h.0 h.1 (ap stays e ∙ stay) (complete.0 q e (still_in_plan q h.0 h.1 (ap stays e ∙ stay))) in
            inl (each, none_first each)
        over_before (inr deleted) =
            inr (λ q e h. deleted_before q h.0 h.1 (ap stays e ∙ stay) (deleted.0 q e (still_in_plan q h.0 h.1 (ap stays e ∙ stay))), λ t less h. omega (arith, less))

      -- what stayed isn't over
      pub not_over : (c : OccKey) → contains_key left.occurrences c ≡ true → ¬ IsOver after c
      not_over c h over =
          let w = was_known occurrence_cmp-IsAntisymmetric P.occurrences stays c h in
          let one = valid.occurrences.not_empty c w.1 in
          let row = is_found (get P.operations one.0) one.2 in
          (tells c).0 w.0 (over_before c w.0 one.0 one.1 (row.0, row.1, tt) over)
