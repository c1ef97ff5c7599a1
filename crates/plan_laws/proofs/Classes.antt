-- What the class of an operation's status says of the operation.
use Rattle.std.proofs.Common.{◌≡◌, ◌⊎◌, inl, inr, refl, sym, ap, subst, ◌∙◌, true, true≢false, Bool, Decides, MatchOption, Some}
use Rattle.std.specs.FinMap.{get}
use Rattle.plan_basics.specs.declared.keys.OpKey.{OpKey}
use Rattle.status_rules.specs.Classes.{is_ready, is_satisfied, is_under_way, is_waiting_or_ready}
use Rattle.status_rules.specs.LeastSet.{by_given}
use Rattle.status_rules.specs.Table.{marked_status}
use Rattle.status_rules.specs.declared.Mark.{Mark}
use Rattle.status_rules.specs.declared.Mark.TheVariants as mark
use Rattle.status_rules.specs.declared.Status.{Status}
use Rattle.status_rules.specs.declared.Status.TheVariants as status
use Rattle.plan_records.specs.plan_model.specs.Contents.{Contents, Operation}
use Rattle.plan_records.specs.plan_model.specs.Status.{HasStatus, IsReady, IsSatisfied, IsUnderWay, IsWaitingOrReady, UnmarkedStatus}
use Rattle.plan_laws.proofs.Decide.{invert}
use Rattle.std.proofs.lemmas.Option.{same_Some}
use Rattle.plan_laws.proofs.Standing.{one_status}
use Rattle.plan_laws.proofs.Tables.{by_mark_of}
use Rattle.plan_laws.specs.Derived.{ClassesOfStatus, SatisfiedByStatus}

module _ (P : Contents) (o : OpKey) where
  pub ready_by : (s : Status) → HasStatus P o s → is_ready s ≡ true → IsReady P o
  ready_by status.Arriving h e = inl h
  ready_by status.ReadyAfterNonreporting h e = inr (inl h)
  ready_by status.Ready h e = inr (inr h)
  ready_by s h e = absurd (cc)

  pub waits_by : (s : Status) → HasStatus P o s → is_waiting_or_ready s ≡ true → IsWaitingOrReady P o
  waits_by status.Waiting h e = inl h
  waits_by status.Arriving h e = inr (inl h)
  waits_by status.ReadyAfterNonreporting h e = inr (inr (inl h))
  waits_by status.Ready h e = inr (inr (inr h))
  waits_by s h e = absurd (cc)

  pub under_way_by : (s : Status) → HasStatus P o s → is_under_way s ≡ true → IsUnderWay P o
  under_way_by status.Started h e = inl h
  under_way_by status.Interrupted h e = inr (inl h)
  under_way_by status.Undecided h e = inr (inr h)
  under_way_by s h e = absurd (cc)

  -- the operation has this status alone
  module _ (s : Status) (alone : (t : Status) → HasStatus P o t → t ≡ s) where
    pub passes : (test : Status → Bool) (t : Status) → test t ≡ true → HasStatus P o t → test s ≡ true
    passes test t e h = subst (λ z. test z ≡ true) (alone t h) e

    pub ready_told : IsReady P o → is_ready s ≡ true
    ready_told (inl h) = passes is_ready status.Arriving refl h
    ready_told (inr (inl h)) = passes is_ready status.ReadyAfterNonreporting refl h
    ready_told (inr (inr h)) = passes is_ready status.Ready refl h

    pub waits_told : IsWaitingOrReady P o → is_waiting_or_ready s ≡ true
    waits_told (inl h) = passes is_waiting_or_ready status.Waiting refl h
    waits_told (inr (inl h)) = passes is_waiting_or_ready status.Arriving refl h
    waits_told (inr (inr (inl h))) = passes is_waiting_or_ready status.ReadyAfterNonreporting refl h
    waits_told (inr (inr (inr h))) = passes is_waiting_or_ready status.Ready refl h

    pub under_way_told : IsUnderWay P o → is_under_way s ≡ true
    under_way_told (inl h) = passes is_under_way status.Started refl h
    under_way_told (inr (inl h)) = passes is_under_way status.Interrupted refl h
    under_way_told (inr (inr h)) = passes is_under_way status.Undecided refl h

  -- ---- satisfied: complete or deleted

  -- what the mark of an operation that has the status says of it
  abbrev Says : Mark → Status → Type 0
  Says m s = MatchOption (marked_status m) (UnmarkedStatus P o s) (λ told. s ≡ told)

  module _ (op : Operation) (is : get P.operations o ≡ Some op) where
    -- what is satisfied bears one of these marks
    its_mark : IsSatisfied P o → (op.mark ≡ mark.Done) ⊎ (op.mark ≡ mark.Deleted) ⊎ (op.mark ≡ mark.Unmarked)
    its_mark h =
        let c = invert P h in
        subst (λ (x : Operation). (x.mark ≡ mark.Done) ⊎ (x.mark ≡ mark.Deleted) ⊎ (x.mark ≡ mark.Unmarked)) (same_Some c.0 op (sym c.1 ∙ is))
        (elim c.2 [ inl done ↦ inl done | inr (inl deleted) ↦ inr (inl deleted) | inr (inr u) ↦ inr (inr u.0) ])

    satisfied_by : (m : Mark) → op.mark ≡ m → (s : Status) → Says m s → is_satisfied s ≡ true → IsSatisfied P o
    satisfied_by mark.Done e s h t = by_given (op, is, inl e)
    satisfied_by mark.Deleted e s h t = by_given (op, is, inr e)
    satisfied_by mark.Unmarked e status.Complete h t = h
    satisfied_by mark.Unmarked e status.Deleted h t = absurd h
    satisfied_by mark.Unmarked e s h t = absurd (cc)
    satisfied_by m e s h t = absurd (true≢false (sym t ∙ ap is_satisfied h))

    satisfied_told : (m : Mark) → op.mark ≡ m → (s : Status) → Says m s → IsSatisfied P o → is_satisfied s ≡ true
    satisfied_told mark.Done e s h k = ap is_satisfied h
    satisfied_told mark.Deleted e s h k = ap is_satisfied h
    satisfied_told mark.Unmarked e status.Complete h k = refl
    satisfied_told mark.Unmarked e status.Arriving h k = absurd (h.0 k)
    satisfied_told mark.Unmarked e status.ReadyAfterNonreporting h k = absurd (h.0 k)
    satisfied_told mark.Unmarked e status.Ready h k = absurd (h.0 k)
    satisfied_told mark.Unmarked e status.Waiting h k = absurd (h.0 k)
    satisfied_told mark.Unmarked e s h k = absurd h
    satisfied_told m e s h k = elim (its_mark k) [ inl done ↦ absurd (cc) | inr (inl deleted) ↦ absurd (cc) | inr (inr unmarked) ↦ absurd (cc) ]

  -- the class of its status decides whether it is satisfied
  pub satisfied_decides : (s : Status) → HasStatus P o s → Decides (is_satisfied s) (IsSatisfied P o)
  satisfied_decides s h = (satisfied_by h.0 h.1 h.0.mark refl s h.2, satisfied_told h.0 h.1 h.0.mark refl s h.2)

  status_of_satisfied : IsSatisfied P o → HasStatus P o status.Complete ⊎ HasStatus P o status.Deleted
  status_of_satisfied h =
      let c = invert P h in
      elim c.2 [
        | inl done ↦ inl (by_mark_of P o c.0 mark.Done status.Complete c.1 done refl)
        | inr (inl deleted) ↦ inr (by_mark_of P o c.0 mark.Deleted status.Deleted c.1 deleted refl)
        | inr (inr u) ↦ inl (by_mark_of P o c.0 mark.Unmarked status.Complete c.1 u.0 h)
      ]

pub satisfied_by_status : SatisfiedByStatus
satisfied_by_status P o = (
  status_of_satisfied P o,
  λ h. elim h [ inl complete ↦ (satisfied_decides P o status.Complete complete).0 refl | inr deleted ↦ (satisfied_decides P o status.Deleted deleted).0 refl ],
)

pub classes_of_status : ClassesOfStatus
classes_of_status P valid o s h =
    let alone : (t : Status) → HasStatus P o t → t ≡ s = λ t k. one_status P valid.acyclic o t s k h in
    let satisfied = satisfied_decides P o s h in
    record {
      ready = (ready_told P o s alone, ready_by P o s h);
      waiting_or_ready = (waits_told P o s alone, waits_by P o s h);
      under_way = (under_way_told P o s alone, under_way_by P o s h);
      satisfied = (satisfied.1, satisfied.0);
    }
