-- A plan stays sound where one operation's mark changes as reports and choices change it.
use Rattle.std.proofs.Common.{◌≡◌, ◌≢◌, ◌⊎◌, inl, inr, refl, sym, ◌∙◌, ap, subst, true≢false, true, false, Some}
use Rattle.std.proofs.lemmas.Bool.{cond-false, false_from_ne_true}
use Rattle.std.specs.Ordering.{is_eq}
use Rattle.std.specs.Cmp.{tied_itself}
use Rattle.std.specs.FinMap.{get}
use Rattle.status_rules.specs.declared.Mark.TheVariants as mark
use Rattle.plan_basics.specs.Keys.{Name, operation_cmp_total}
use Rattle.plan_basics.specs.Names.{IsName}
use Rattle.plan_basics.specs.declared.Attr.{Attr}
use Rattle.plan_basics.specs.declared.keys.OpKey.{OpKey}
use Rattle.plan_laws.proofs.Entries.{same_operation}
use Rattle.plan_records.specs.plan_model.proofs.Looks.{same_key}
use Rattle.std.proofs.lemmas.Option.{same_Some}
use Rattle.plan_laws.proofs.Revising.{now_at, now_elsewhere, valid_revised, was, with_state}
use Rattle.plan_records.specs.plan_model.specs.Holdings.{Holds}
use Rattle.plan_records.specs.plan_model.specs.Contents.{Contents, Has, HasAttribute, IsLive, LivePredecessor, Operation, attribute_at}
use Rattle.plan_records.specs.plan_model.specs.declared.Stock.{Stock}
use Rattle.plan_records.specs.plan_model.specs.Ready.{with_mark}
use Rattle.plan_records.specs.plan_model.specs.Status.{AllPredecessorsSatisfied, IsSatisfied}
use Rattle.plan_records.specs.plan_model.specs.Valid.{IsOperation, IsSound, IsValid, MayBear}
use Rattle.plan_records.specs.Changes.{is_at, marked, revised}
use Rattle.special_resources.proofs.Amounts.{one_more}
use Rattle.special_resources.specs.Holders.{FitsBeside, LeavesEnough, Usage}
use Rattle.status_rules.specs.LeastSet.{by_all_before, by_given}
use Rattle.status_rules.specs.declared.Mark.{Mark}

-- of r there is what o uses, beside all others that hold it
abbrev pub IsThereFor : Contents → OpKey → Name → Usage → Type 0
IsThereFor P o r x = (stock : Stock) × (get P.resources r ≡ Some stock) × FitsBeside stock.quantity (Holds P) o r x

-- what a change f of the operation o has to meet
pub record MayChange (P : Contents) (o : OpKey) (op : Operation) (f : Operation → Operation) : Type 0 where
  pub is : get P.operations o ≡ Some op
  pub keeps_operation : IsOperation o op → IsOperation o (f op)
  pub keeps_workstation : (x : Operation) → (f x).workstation ≡ x.workstation
  pub keeps_needs : (x : Operation) → (f x).needs ≡ x.needs
  pub was_not_deleted : op.mark ≢ mark.Deleted
  pub is_not_deleted : (f op).mark ≢ mark.Deleted
  pub in_order : (f op).mark ≢ mark.Unmarked → AllPredecessorsSatisfied P o
  pub stays_satisfied : IsSatisfied P o → (f op).mark ≡ mark.Done
  pub free : (f op).held ≡ true → (f op).mark ≡ mark.Unmarked
  pub bears : (a : Attr) → HasAttribute P op.workstation a → MayBear a (f op).mark
  pub there : (r : Name) (x : Usage) → Holds (revised (is_at o) f P) o r x → IsThereFor P o r x

module _ (P : Contents) (o : OpKey) (op : Operation) (f : Operation → Operation) (sound : IsSound P) (may : MayChange P o op f) where
  abbrev after : Contents
  after = revised (is_at o) f P

  found_at_o : get after.operations o ≡ Some (f op)
  found_at_o = now_at (is_at o) f P o op (ap is_eq (tied_itself operation_cmp_total o)) may.is

  not_at : (q : OpKey) → q ≢ o → is_at o q ≡ false
  not_at q apart = false_from_ne_true (is_at o q) (λ t. apart (same_key q o t))

  found_elsewhere : (q : OpKey) (x : Operation) → q ≢ o → get P.operations q ≡ Some x → get after.operations q ≡ Some x
  found_elsewhere q x apart e = now_elsewhere (is_at o) f P q x (not_at q apart) e

  -- what is found afterwards: the operation itself, or another as it was
  abbrev Found : OpKey → Operation → Type 0
  Found q x = ((q ≡ o) × (x ≡ f op)) ⊎ ((q ≢ o) × (get P.operations q ≡ Some x))

  was_elsewhere : (q : OpKey) (x : Operation) → q ≢ o → get after.operations q ≡ Some x → get P.operations q ≡ Some x
  was_elsewhere q x apart e =
      let w = was (is_at o) f P q x e in
      w.1 ∙ ap Some (sym (cond-false (is_at o q) (f w.0) w.0 (not_at q apart)) ∙ w.2)

  look : (q : OpKey) (x : Operation) → get after.operations q ≡ Some x → Found q x
  look q x e = elim (same_operation q o) [
    | inl same ↦ inl (same, same_Some x (f op) (sym e ∙ ap (λ z. get after.operations z) same ∙ found_at_o))
    | inr apart ↦ inr (apart, was_elsewhere q x apart e)
  ]

  was_live : (p : OpKey) → IsLive after p → IsLive P p
  was_live p (x, e, live) = elim (look p x e) [
    | inl same ↦ (op, ap (λ z. get P.operations z) same.0 ∙ may.is, may.was_not_deleted)
    | inr other ↦ (x, other.1, live)
  ]

  done_at : (q : OpKey) → q ≡ o → (f op).mark ≡ mark.Done → IsSatisfied after q
  done_at q e d = by_given (f op, ap (λ z. get after.operations z) e ∙ found_at_o, inl d)

  pub still_satisfied : {q : OpKey} → IsSatisfied P q → IsSatisfied after q
  still_satisfied {q} (by_given h) = elim (same_operation q o) [
    | inl same ↦ done_at q same (may.stays_satisfied (subst (IsSatisfied P) same (by_given h)))
    | inr apart ↦ by_given (h.0, found_elsewhere q h.0 apart h.1, h.2)
  ]
  still_satisfied {q} (by_all_before h before) =
      let rest : (p : OpKey) → LivePredecessor after p q → IsSatisfied after p = λ p live. still_satisfied (before p (live.0, was_live p live.1)) in
      elim (same_operation q o) [
        | inl same ↦ done_at q same (may.stays_satisfied (subst (IsSatisfied P) same (by_all_before h before)))
        | inr apart ↦ by_all_before (h.0, found_elsewhere q h.0 apart h.1, h.2) rest
      ]

  all_still : (q : OpKey) → AllPredecessorsSatisfied P q → AllPredecessorsSatisfied after q
  all_still q all p live = still_satisfied (all p (live.0, was_live p live.1))

  is_found : (q : OpKey) → Has P q (λ x. Unit {0}) → Has after q (λ x. Unit {0})
  is_found q (x, e, u) = elim (same_operation q o) [
    | inl same ↦ (f op, ap (λ z. get after.operations z) same ∙ found_at_o, tt)
    | inr apart ↦ (x, found_elsewhere q x apart e, tt)
  ]

  held_before : (q : OpKey) (r : Name) (x : Usage) → q ≢ o → Holds after q r x → Holds P q r x
  held_before q r x apart h = (h.0, was_elsewhere q h.0 apart h.1, h.2)

  still_valid : IsValid after
  still_valid = valid_revised (is_at o) f P may.keeps_workstation may.keeps_needs
      (λ q x e t v. let same = same_key q o t in
      let x_is : op ≡ x = same_Some op x (sym may.is ∙ sym (ap (λ z. get P.operations z) same) ∙ e) in
      subst (λ z. IsOperation z (f x)) (sym same) (subst (λ z. IsOperation o (f z)) x_is (may.keeps_operation (subst (IsOperation o) (sym x_is) (subst (λ z. IsOperation z x) same v)))))
      sound.valid

  pub change_is_sound : IsSound after
  change_is_sound = record {
    valid = still_valid;
    in_order = λ q h. elim (look q h.0 h.1) [
      | inl same ↦ subst (AllPredecessorsSatisfied after) (sym same.0) (all_still o (may.in_order (subst (λ z. z.mark ≢ mark.Unmarked) same.1 h.2.0)))
      | inr other ↦ all_still q (sound.in_order q (h.0, other.1, h.2))
    ];
    compatible = λ a b r x y apart ha hb. elim (same_operation a o) [
      | inl a_is ↦ ((may.there r x (subst (λ z. Holds after z r x) a_is ha)).2.0 b y (λ e. apart (a_is ∙ sym e)) (held_before b r y (λ e. apart (a_is ∙ sym e)) hb)).0
      | inr a_not ↦ elim (same_operation b o) [
        | inl b_is ↦ ((may.there r y (subst (λ z. Holds after z r y) b_is hb)).2.0 a x a_not (held_before a r x a_not ha)).1
        | inr b_not ↦ sound.compatible a b r x y apart (held_before a r x a_not ha) (held_before b r y b_not hb)
      ]
    ];
    within = λ r stock known.
        one_more same_operation r stock.quantity (Holds P) (Holds after) o (λ q x apart h. held_before q r x apart h)
        (λ x h. let t = may.there r x h in subst (λ z. LeavesEnough z.quantity (Holds P) o r x) (same_Some t.0 stock (sym t.1 ∙ known)) t.2.1)
        (sound.within r stock known);
    held = λ q x e h. elim (look q x e) [
      | inl same ↦ inl (ap (λ z. z.mark) same.1 ∙ may.free (ap (λ z. z.held) (sym same.1) ∙ h))
      | inr other ↦ sound.held q x other.1 h
    ];
    marks = λ q x a e w. elim (look q x e) [
      | inl same ↦ subst (λ z. MayBear a z.mark) (sym same.1) (may.bears a (ap (attribute_at P) (sym (may.keeps_workstation op)) ∙ ap (λ z. attribute_at P z.workstation) (sym same.1) ∙ w))
      | inr other ↦ sound.marks q x a other.1 w
    ];
    deleted = λ a b e ha x hb. elim (look a ha.0 ha.1) [
      | inl a_is ↦ absurd (may.is_not_deleted (ap (λ z. z.mark) (sym a_is.1) ∙ ha.2))
      | inr a_not ↦ elim (look b x hb) [
        | inl b_is ↦ absurd (may.was_not_deleted (sound.deleted a o (e ∙ ap (λ z. z.occurrence) b_is.0) (ha.0, a_not.1, ha.2) op may.is))
        | inr b_not ↦ sound.deleted a b e (ha.0, a_not.1, ha.2) x b_not.1
      ]
    ];
  }

-- what a new mark M of o has to meet
pub record MayBeMarked (P : Contents) (o : OpKey) (op : Operation) (M : Mark) : Type 0 where
  pub is : get P.operations o ≡ Some op
  pub was_not_deleted : op.mark ≢ mark.Deleted
  pub is_not_deleted : M ≢ mark.Deleted
  pub in_order : AllPredecessorsSatisfied P o
  pub stays_satisfied : IsSatisfied P o → M ≡ mark.Done
  pub free : op.held ≡ false
  pub bears : (a : Attr) → HasAttribute P op.workstation a → MayBear a M
  pub legal : (code : Name) → M ≡ mark.Error code → IsName 4 code
  pub there : (r : Name) (x : Usage) → Holds (marked o M P) o r x → IsThereFor P o r x

pub still_sound : (P : Contents) (o : OpKey) (op : Operation) (M : Mark) → IsSound P → MayBeMarked P o op M → IsSound (marked o M P)
still_sound P o op M sound may = change_is_sound P o op (with_mark M) sound (record {
  is = may.is;
  keeps_operation = λ v. with_state v M op.held op.nop may.legal;
  keeps_workstation = λ x. refl;
  keeps_needs = λ x. refl;
  was_not_deleted = may.was_not_deleted;
  is_not_deleted = may.is_not_deleted;
  in_order = λ apart. may.in_order;
  stays_satisfied = may.stays_satisfied;
  free = λ h. absurd (true≢false (sym h ∙ may.free));
  bears = may.bears;
  there = may.there;
})
