-- The others that hold special resources, as they are found: holder by holder, and reason by reason.
use Rattle.std.proofs.Common.{◌≡◌, ◌≢◌, ◌↔◌, inl, inr, refl, sym, ap, ap₂, subst, ◌∙◌, arith, ℕ, ◌+◌, ◌<◌, false, true≢false, List, [], ◌∷◌, ◌++◌, All, drop, get_or, length, map, take, Contains, Option, Some, None}
use Rattle.std.specs.Cmp.{eq_by_cmp_equiv}
use Rattle.std.specs.FinMap.{get}
use Rattle.std.specs.List.{AllPairs}
use Rattle.std.specs.Option.{option_to_list}
use Rattle.std.specs.Prelude.{IsNone, IsSome}
use Rattle.std.specs.Ordering.{eq_by_cmp, ordering_then}
use Rattle.std.specs.declared.cmp.Ordering.TheVariants.{Less}
use Rattle.std.proofs.lemmas.List.{drop_more, take-append-drop}
use Rattle.std.proofs.lemmas.List.Elements.{Contains-append_cases, Contains-append_left, Contains-append_right, Contains-get_or, Contains-push_cases}
use Rattle.std.proofs.lemmas.Option.{none-some, same_Some}
use Rattle.plan_basics.specs.Keys.{Name, name_cmp, operation_cmp, operation_cmp_total}
use Rattle.plan_basics.specs.declared.keys.OpKey.{OpKey}
use Rattle.special_resources.specs.Holdings.{AreInOrder, Held, holding_cmp, holding_of}
use Rattle.special_resources.specs.declared.holders.Holder.{Holder}
use Rattle.plan_core.specs.start_choice.specs.Choices.{AreHeldIn}
use Rattle.plan_drafts.proofs.Lists.{Differ, contains_cases, contains_head, contains_none, differ_from_pairs, differ_unmap}
use Rattle.plan_model.specs.Contents.{Contents, IsInPlan}
use Rattle.plan_model.specs.Holdings.{Holds}
use Rattle.plan_model.specs.Status.{HasStatus}
use Rattle.plan_reasons.specs.Order.{ComesBefore}
use Rattle.plan_reasons.specs.Parts.{AreOthersAmong, AreOthersOf, IsToldOf}
use Rattle.plan_reasons.specs.Reasons.{IsOtherHolder, lacking_by}
use Rattle.plan_reasons.specs.Whys.{AreOtherHolders}
use Rattle.plan_reasons.specs.declared.reasons.OtherHolder.{OtherHolder}
use Rattle.plan_reasons.specs.declared.reasons.Reason.{Reason}
use Rattle.plan_reasons.specs.declared.reasons.Reason.TheVariants as reason
use Rattle.plan_reasons.proofs.Collecting.{pairs_append}
use Rattle.plan_reasons.proofs.Needing.{differ_before, differ_sorted}

-- keys that aren't tied differ
pub others_apart : (a b : OpKey) → eq_by_cmp operation_cmp a b ≡ false → a ≢ b
others_apart a b apart same = true≢false (sym ((eq_by_cmp_equiv operation_cmp_total).refl b) ∙ ap (λ k. eq_by_cmp operation_cmp k b) (sym same) ∙ apart)

-- what is looked for by the key of an operation of the plan is found
pub is_known : (P : Contents) (o : OpKey) → IsInPlan P o → {A : Type 0} (found : Option A) → (IsNone found → get P.operations o ≡ None) → IsSome found
is_known P o here None absent = absurd (none-some here.0 (sym (absent refl) ∙ here.1))
is_known P o here (Some x) absent = refl

-- ---- what stands before an element in order

stand_before : {X : Type 0} (R : X → X → Type 0) (xs : List X) → Differ R xs → (i : ℕ) (d : X) → i < length xs → (x : X) → Contains (take i xs) x → R x (get_or xs i d)
stand_before R xs in_order i d lt x has =
    let parts : xs ≡ take i xs ++ get_or xs i d ∷ drop (i + 1) xs = sym (take-append-drop i xs) ∙ ap (λ ys. take i xs ++ ys) (drop_more xs i d lt) in
    differ_before R (take i xs) (drop (i + 1) xs) (get_or xs i d) (subst (Differ R) parts in_order) x has

pub held_before : (holders : List Holder) → AreInOrder holders → (i : ℕ) (d : Holder) → i < length holders → (k : Holder) → Contains (take i holders) k → holding_cmp (holding_of k) (holding_of (get_or holders i d)) ≡ Less
held_before holders in_order i d lt k has =
    stand_before (λ (a b : Holder). holding_cmp (holding_of a) (holding_of b) ≡ Less) holders
    (differ_unmap holding_of (λ a b. holding_cmp a b ≡ Less) holders (differ_sorted holding_cmp (map holding_of holders) in_order)) i d lt k has

pub reason_before : (reasons : List Reason) → AllPairs ComesBefore reasons → (i : ℕ) (d : Reason) → i < length reasons → (s : Reason) → Contains (take i reasons) s → ComesBefore s (get_or reasons i d)
reason_before reasons in_order i d lt s has = stand_before ComesBefore reasons (differ_from_pairs ComesBefore reasons in_order) i d lt s has

-- the one comes before the other
abbrev Earlier : OtherHolder → OtherHolder → Type 0
Earlier x y = holding_cmp (holding_of x.holder) (holding_of y.holder) ≡ Less

-- ---- holder by holder

module _ (P : Contents) (o : OpKey) where
  pub none_among : AreOthersAmong P o [] []
  none_among = record {
    in_order = λ i j d lt within. absurd (omega (arith, within));
    sound = λ x has. absurd (contains_none x has);
    complete = λ x has apart status. absurd (contains_none x.holder has);
  }

  module _ (holders : List Holder) (found : List OtherHolder) (a : AreOthersAmong P o holders found) (h : Holder) (later : (k : Holder) → Contains holders k → holding_cmp (holding_of k) (holding_of h) ≡ Less) where
    still : (x : OtherHolder) → Contains found x → Contains (holders ++ h ∷ []) x.holder × (x.holder.operation ≢ o) × HasStatus P x.holder.operation x.status
    still x has = let s = a.sound x has in (Contains-append_left holders (h ∷ []) x.holder s.0, s.1, s.2)

    pub one_holder_more : (told : Option OtherHolder) → IsToldOf P o h told → AreOthersAmong P o (holders ++ h ∷ []) (found ++ option_to_list told)
    one_holder_more None own = record {
      in_order = pairs_append Earlier found [] a.in_order (λ i j d lt within. absurd (omega (arith, within))) (λ x y in_found in_none. absurd (contains_none y in_none));
      sound = λ x has. elim (Contains-append_cases found [] x has) [
        | inl old ↦ still x old
        | inr new ↦ absurd (contains_none x new)
      ];
      complete = λ x has apart status. elim (Contains-push_cases holders h x.holder has) [
        | inl old ↦ Contains-append_left found [] x (a.complete x old apart status)
        | inr same ↦ absurd (apart (ap (λ (k : Holder). k.operation) (sym same) ∙ own))
      ];
    }
    one_holder_more (Some told) (apart, is, its) = record {
      in_order = pairs_append Earlier found (told ∷ []) a.in_order (λ i j d lt within. absurd (omega (arith, lt, within))) across;
      sound = λ x has. elim (Contains-push_cases found told x has) [
        | inl old ↦ still x old
        | inr same ↦ subst (λ (z : OtherHolder). Contains (holders ++ h ∷ []) z.holder × (z.holder.operation ≢ o) × HasStatus P z.holder.operation z.status) same new
      ];
      complete = λ x has other status. elim (Contains-push_cases holders h x.holder has) [
        | inl old ↦ Contains-append_left found (told ∷ []) x (a.complete x old other status)
        | inr same ↦ Contains-append_right found (told ∷ []) x (subst (Contains (told ∷ [])) (one_told x same status) (contains_head told []))
      ];
    }
      where
        new : Contains (holders ++ h ∷ []) told.holder × (told.holder.operation ≢ o) × HasStatus P told.holder.operation told.status
        new = (
          subst (Contains (holders ++ h ∷ [])) (sym is) (Contains-append_right holders (h ∷ []) h (contains_head h [])),
          (λ e. apart (ap (λ (k : Holder). k.operation) (sym is) ∙ e)),
          subst (λ (k : Holder). HasStatus P k.operation told.status) (sym is) its.status,
        )

        one_told : (x : OtherHolder) → h ≡ x.holder → HasStatus P x.holder.operation x.status → told ≡ x
        one_told x same status =
            let holder : told.holder ≡ x.holder = is ∙ same in
            let one : told.status ≡ x.status = sym (its.alone x.status (subst (λ (k : Holder). HasStatus P k.operation x.status) (sym same) status)) in
            λ i. record { holder = holder i; status = one i }

        across : (x y : OtherHolder) → Contains found x → Contains (told ∷ []) y → Earlier x y
        across x y in_found in_new =
            let same : told ≡ y = elim (Contains-push_cases [] told y in_new) [ inl never ↦ absurd (contains_none y never) | inr one ↦ one ] in
            subst (λ (z : OtherHolder). Earlier x z) same
            (subst (λ (k : Holder). holding_cmp (holding_of x.holder) (holding_of k) ≡ Less) (sym is) (later x.holder (a.sound x in_found).0))

-- ---- all holders of a special resource

module _ (P : Contents) (held : Held) (known : AreHeldIn P held) (r : Name) (items : List Holder) (members : (h : Holder) → Contains items h ↔ ((h.resource ≡ r) × (get held (holding_of h) ≡ Some h.claim))) where
  pub all_in_plan : All (λ (h : Holder). IsInPlan P h.operation) items
  all_in_plan = λ i d lt.
      let h = get_or items i d in
      let holds = ((known h.operation h.resource h.claim).0 ((members h).0 (Contains-get_or items i d lt)).1).1 in
      (holds.0, holds.1, tt)

module _ (P : Contents) (o : OpKey) (held : Held) (known : AreHeldIn P held) (r : Name) (items : List Holder) (members : (h : Holder) → Contains items h ↔ ((h.resource ≡ r) × (get held (holding_of h) ≡ Some h.claim)))
    (found : List OtherHolder) (a : AreOthersAmong P o items found) where
  holds_it : (x : OtherHolder) → Contains found x → (x.holder.resource ≡ r) × IsOtherHolder P o x
  holds_it x has =
      let s = a.sound x has in
      let its = (members x.holder).0 s.0 in
      let (keep, holds) = (known x.holder.operation x.holder.resource x.holder.claim).0 its.1 in
      (its.0, record { usage = record { claim = x.holder.claim; keep = keep }; holds = (s.1, holds); claim = refl; status = s.2 })

  is_listed : (x : OtherHolder) → x.holder.resource ≡ r → IsOtherHolder P o x → Contains found x
  is_listed x its other =
      let h = x.holder in
      let holds = subst (λ c. Holds P h.operation h.resource (record { claim = c; keep = other.usage.keep })) (sym other.claim) other.holds.1 in
      a.complete x ((members h).1 (its, (known h.operation h.resource h.claim).1 (other.usage.keep, holds))) other.holds.0 other.status

  pub all_others_found : AreOthersOf P o r found
  all_others_found = record { in_order = a.in_order; exactly = λ x. (holds_it x, λ h. is_listed x h.0 h.1) }

-- ---- reason by reason

-- special resources that lack by two reasons are in the order of these
lacking_apart : (s t : Reason) (p q : Name) → lacking_by s ≡ Some p → lacking_by t ≡ Some q → ComesBefore s t → name_cmp p q ≡ Less
lacking_apart (reason.TooLittleLeft x) (reason.TooLittleLeft y) p q is its less = ap₂ name_cmp (sym (same_Some x.resource p is)) (sym (same_Some y.resource q its)) ∙ less
lacking_apart (reason.TooLittleLeft x) t p q is its less = absurd (none-some q its)
lacking_apart s t p q is its less = absurd (none-some p is)

module _ (P : Contents) (o : OpKey) where
  pub by_no_reason : AreOtherHolders P o [] []
  by_no_reason = record {
    in_order = λ i j d lt within. absurd (omega (arith, within));
    exactly = λ x. (λ has. absurd (contains_none x has), λ h. absurd (contains_none h.0.0 h.0.1));
  }

  -- what lacks by the only reason
  sole : (t s : Reason) (r : Name) → Contains (t ∷ []) s → lacking_by s ≡ Some r → lacking_by t ≡ Some r
  sole t s r has is = elim (contains_cases t [] s has) [ inl same ↦ ap lacking_by same ∙ is | inr never ↦ absurd (contains_none s never) ]

  pub by_lacking : (t : Reason) (r : Name) → lacking_by t ≡ Some r → (found : List OtherHolder) → AreOthersOf P o r found → AreOtherHolders P o (t ∷ []) found
  by_lacking t r lacks found a = record {
    in_order = a.in_order;
    exactly = λ x. (
      λ has. let h = (a.exactly x).0 has in ((t, contains_head t [], lacks ∙ ap Some (sym h.0)), h.1),
      λ h. (a.exactly x).1 (sym (same_Some r x.holder.resource (sym lacks ∙ sole t h.0.0 x.holder.resource h.0.1 h.0.2)), h.1),
    );
  }

  pub by_none : (t : Reason) → lacking_by t ≡ None → (found : List OtherHolder) → found ≡ [] → AreOtherHolders P o (t ∷ []) found
  by_none t none found empty = subst (AreOtherHolders P o (t ∷ [])) (sym empty) (record {
    in_order = λ i j d lt within. absurd (omega (arith, within));
    exactly = λ x. (λ has. absurd (contains_none x has), λ h. absurd (none-some x.holder.resource (sym none ∙ sole t h.0.0 x.holder.resource h.0.1 h.0.2)));
  })

  module _ (rs : List Reason) (found : List OtherHolder) (a : AreOtherHolders P o rs found) (r : Reason) (earlier : (s : Reason) → Contains rs s → ComesBefore s r) (more : List OtherHolder) (b : AreOtherHolders P o (r ∷ []) more) where
    across : (x y : OtherHolder) → Contains found x → Contains more y → Earlier x y
    across x y in_found in_more =
        let first = ((a.exactly x).0 in_found).0 in
        let second = ((b.exactly y).0 in_more).0 in
        let less = lacking_apart first.0 r x.holder.resource y.holder.resource first.2 (sole r second.0 y.holder.resource second.1 second.2) (earlier first.0 first.1) in
        ap (λ z. ordering_then z (operation_cmp x.holder.operation y.holder.operation)) less

    pub one_reason_more : AreOtherHolders P o (rs ++ r ∷ []) (found ++ more)
    one_reason_more = record {
      in_order = pairs_append Earlier found more a.in_order b.in_order across;
      exactly = λ x. (
        λ has. elim (Contains-append_cases found more x has) [
          | inl old ↦ let h = (a.exactly x).0 old in ((h.0.0, Contains-append_left rs (r ∷ []) h.0.0 h.0.1, h.0.2), h.1)
          | inr new ↦ let h = (b.exactly x).0 new in ((h.0.0, Contains-append_right rs (r ∷ []) h.0.0 h.0.1, h.0.2), h.1)
        ],
        λ h. elim (Contains-append_cases rs (r ∷ []) h.0.0 h.0.1) [
          | inl old ↦ Contains-append_left found more x ((a.exactly x).1 ((h.0.0, old, h.0.2), h.1))
          | inr new ↦ Contains-append_right found more x ((b.exactly x).1 ((h.0.0, new, h.0.2), h.1))
        ],
      );
    }
