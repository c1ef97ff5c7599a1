-- There is one ready list, and one choice from it.
use Rattle.std.proofs.Common.{◌≡◌, refl, sym, ◌∙◌, ap, ap₂, subst, Bool, true, false, cond, List, [], ◌∷◌, ◌++◌, append-nil, append_assoc, filter}
use Rattle.std.proofs.lemmas.List.Elements.{filter-append}
use Rattle.plan_basics.specs.declared.keys.OpKey.{OpKey}
use Rattle.plan_laws.proofs.Sorted.{sorted_unique}
use Rattle.plan_laws.specs.Derived.{OneReadyList}
use Rattle.plan_records.specs.plan_model.specs.Ready.{IsOnAutomatic, OneChoice, named}
use Rattle.plan_records.specs.plan_model.specs.Starts.{IsAllowedToStart}
use Rattle.plan_records.specs.plan_model.specs.ready_list.specs.Choice.{IsChoice, among, is_among, operations_of}
use Rattle.plan_records.specs.plan_model.specs.ready_list.specs.Order.{ready_cmp_total}

pub one_ready_list : OneReadyList
one_ready_list P xs ys x y =
    sorted_unique ready_cmp_total xs ys x.ascends y.ascends
    (λ k h. (y.has_all k).1 ((x.has_all k).0 h))
    (λ k h. (x.has_all k).1 ((y.has_all k).0 h))

kept : {A : Type 0} (p : A → Bool) (x : A) (xs : List A) → p x ≡ true → filter p (x ∷ xs) ≡ x ∷ filter p xs
kept p x xs e = ap (λ b. cond b (x ∷ filter p xs) (filter p xs)) e

one_element : {A : Type 0} (p q : A → Bool) (x : A) → p x ≡ q x → filter p (x ∷ []) ≡ filter q (x ∷ [])
one_element p q x e = ap (λ b. cond b (x ∷ []) []) e

module _ (automatic : OpKey → Type 0) (allowed : List OpKey → OpKey → Type 0) (ready : List OpKey) where
  -- what one takes with the same members before it, the other takes too
  both_take : (a b : List OpKey) → IsChoice automatic allowed ready a → IsChoice automatic allowed ready b → (before after : List OpKey) (o : OpKey) → ready ≡ before ++ o ∷ after → among a before ≡ among b before → is_among a o ≡ true → is_among b o ≡ false → ⊥
  both_take a b x c before after o split same taken left =
      c.others before after o split (x.on_automatic o taken) left
      (subst (λ os. allowed os o) same
      (x.members (among a before) (among a after) o
      (x.in_order ∙ ap (among a) split ∙ filter-append (is_among a) before (o ∷ after) ∙ ap (λ zs. among a before ++ zs) (kept (is_among a) o after taken))))

  module _ (a b : List OpKey) (x : IsChoice automatic allowed ready a) (y : IsChoice automatic allowed ready b) where
    same_answer : (before after : List OpKey) (o : OpKey) → ready ≡ before ++ o ∷ after → among a before ≡ among b before → (p q : Bool) → is_among a o ≡ p → is_among b o ≡ q → p ≡ q
    same_answer before after o split same true true e f = refl
    same_answer before after o split same false false e f = refl
    same_answer before after o split same true false e f = absurd (both_take a b x y before after o split same e f)
    same_answer before after o split same false true e f = absurd (both_take b a y x before after o split (sym same) f e)

    same_up_to : (before after : List OpKey) → ready ≡ before ++ after → among a before ≡ among b before → among a ready ≡ among b ready
    same_up_to before [] split same = ap (among a) (split ∙ append-nil before) ∙ same ∙ ap (among b) (sym (split ∙ append-nil before))
    same_up_to before (o ∷ after) split same =
        same_up_to (before ++ o ∷ []) after (split ∙ sym (append_assoc before (o ∷ []) after))
        (filter-append (is_among a) before (o ∷ [])
        ∙ ap₂ (λ xs ys. xs ++ ys) same (one_element (is_among a) (is_among b) o (same_answer before after o split same (is_among a o) (is_among b o) refl refl))
        ∙ sym (filter-append (is_among b) before (o ∷ [])))

    -- from one ready list there is one choice at most
    pub one_choice_from : a ≡ b
    one_choice_from = x.in_order ∙ same_up_to [] ready refl refl ∙ sym y.in_order

pub one_choice : OneChoice
one_choice P m a b x y =
    let keys : x.ready ≡ y.ready = one_ready_list P x.ready y.ready x.is_ready_list y.is_ready_list in
    let allowed : List OpKey → OpKey → Type 0 = λ before o. IsAllowedToStart (named before P) o m in
    one_choice_from (IsOnAutomatic P) allowed (operations_of y.ready) a b (subst (λ ks. IsChoice (IsOnAutomatic P) allowed (operations_of ks) a) keys x.choice) y.choice
