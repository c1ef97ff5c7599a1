-- The reasons that special resources aren't available.
use Rattle.std.proofs.Common.{◌≡◌, inl, inr, refl, sym, ap, subst, ◌∙◌, ℕ, ◌+◌, ◌<◌, Bool, true, false, true≢false, cond, List, [], ◌∷◌, ◌++◌, drop, get_or, length, map, take, Contains, Option, Some, None}
use Rattle.std.specs.FinMap.{get}
use Rattle.std.specs.List.{filter_map}
use Rattle.std.specs.List.Sorted.{IsStrictlySortedBy}
use Rattle.std.specs.declared.cmp.Ordering.{Ordering}
use Rattle.std.specs.declared.cmp.Ordering.TheVariants.{Less}
use Rattle.std.proofs.lemmas.List.Elements.{All-contains, All-from_recursion, Contains-append_right}
use Rattle.std.proofs.lemmas.List.{drop_more, take-append-drop}
use Rattle.std.proofs.lemmas.Map.Keys.{sorted_head, sorted_tail}
use Rattle.std.proofs.lemmas.Bool.{false_from_ne_true}
use Rattle.std.proofs.lemmas.Option.{none-some, same_Some}
use Rattle.plan_basics.specs.Keys.{Name, name_cmp}
use Rattle.plan_basics.specs.declared.keys.OpKey.{OpKey}
use Rattle.special_resources.specs.Holdings.{usage_of}
use Rattle.special_resources.specs.Needs.{AreInNameOrder, Usages, usages_of}
use Rattle.special_resources.specs.declared.Need.{Need}
use Rattle.special_resources.proofs.MoreNeeds.{need_by_usage, usage_by_need}
use Rattle.plan_drafts.proofs.Lists.{Differ, contains_cases, contains_head, contains_none, differ_filter, differ_unmap, from_filter, in_filter, pairs_from_differ}
use Rattle.plan_model.specs.Contents.{Contents, Operation}
use Rattle.plan_model.specs.declared.Stock.{Stock}
use Rattle.plan_reasons.specs.Order.{ComesBefore, reason_place}
use Rattle.plan_reasons.specs.Parts.{AreOfKind}
use Rattle.plan_reasons.specs.Places.{is_available, unavailable_of}
use Rattle.plan_reasons.specs.Reasons.{IsReasonOf, needs_start}
use Rattle.plan_reasons.specs.declared.reasons.Reason.{Reason}
use Rattle.plan_reasons.specs.declared.reasons.Reason.TheVariants as reason
use Rattle.plan_reasons.proofs.KindPlaces.{only_unavailable}

-- of keys in order, each earlier one is below each later one
pub differ_sorted : {K : Type 0} (R : K → K → Ordering) (ks : List K) → IsStrictlySortedBy R ks → Differ (λ a b. R a b ≡ Less) ks
differ_sorted R [] h = tt
differ_sorted R (k ∷ ks) h = (All-from_recursion (λ y. R k y ≡ Less) ks (sorted_head R k ks h), differ_sorted R ks (sorted_tail R k ks h))

-- what stands before an element is so beside it
pub differ_before : {X : Type 0} (R : X → X → Type 0) (xs ys : List X) (x : X) → Differ R (xs ++ x ∷ ys) → (n : X) → Contains xs n → R n x
differ_before R [] ys x h n has = absurd (contains_none n has)
differ_before R (y ∷ xs) ys x h n has = elim (contains_cases y xs n has) [
  | inl same ↦ subst (λ z. R z x) same (All-contains (R y) (xs ++ x ∷ ys) x h.0 (Contains-append_right xs (x ∷ ys) x (contains_head x ys)))
  | inr later ↦ differ_before R xs ys x h.1 n later
]

-- a need comes by name after those before it
pub named_before : (needs : List Need) → AreInNameOrder needs → (i : ℕ) (d : Need) → i < length needs → (n : Need) → Contains (take i needs) n → name_cmp n.name (get_or needs i d).name ≡ Less
named_before needs in_order i d lt n has =
    let parts : needs ≡ take i needs ++ get_or needs i d ∷ drop (i + 1) needs = sym (take-append-drop i needs) ∙ ap (λ ys. take i needs ++ ys) (drop_more needs i d lt) in
    differ_before (λ a b. name_cmp a.name b.name ≡ Less) (take i needs) (drop (i + 1) needs) (get_or needs i d)
    (subst (Differ (λ a b. name_cmp a.name b.name ≡ Less)) parts (differ_unmap (λ (x : Need). x.name) (λ a b. name_cmp a b ≡ Less) needs (differ_sorted name_cmp (map (λ (x : Need). x.name) needs) in_order))) n has

-- what is told of one need
told_off : (t : Bool) (name : Name) (r : Reason) → cond t None (Some (reason.Unavailable name)) ≡ Some r → (t ≡ false) × (reason.Unavailable name ≡ r)
told_off true name r e = absurd (none-some r e)
told_off false name r e = (refl, same_Some (reason.Unavailable name) r e)

off : (x : Option Stock) → ¬ ((stock : Stock) × (x ≡ Some stock) × (stock.available ≡ true)) → is_available x ≡ false
off None h = refl
off (Some stock) h = false_from_ne_true stock.available (λ on. h (stock, refl, on))

not_on : (x : Option Stock) → is_available x ≡ false → ¬ ((stock : Stock) × (x ≡ Some stock) × (stock.available ≡ true))
not_on x h (stock, e, on) = true≢false (sym on ∙ sym (ap is_available e) ∙ h)

module _ (P : Contents) (o : OpKey) (op : Operation) (m : ℕ) (start : needs_start P op ≡ true) (needs : List Need) (in_order : AreInNameOrder needs) (are : op.needs ≡ usages_of needs) where
  abbrev tell : Need → Option Reason
  tell = unavailable_of P.resources

  by_name : Differ (λ a b. name_cmp a.name b.name ≡ Less) needs
  by_name = differ_unmap (λ (n : Need). n.name) (λ a b. name_cmp a b ≡ Less) needs (differ_sorted name_cmp (map (λ (n : Need). n.name) needs) in_order)

  ordered : (a b : Need) (r s : Reason) → tell a ≡ Some r → tell b ≡ Some s → name_cmp a.name b.name ≡ Less → ComesBefore r s
  ordered a b r s e k less =
      subst (λ z. ComesBefore z s) (told_off (is_available (get P.resources a.name)) a.name r e).1
      (subst (ComesBefore (reason.Unavailable a.name)) (told_off (is_available (get P.resources b.name)) b.name s k).1 less)

  sound : (r : Reason) → Contains (filter_map tell needs) r → IsReasonOf P o op m r × (reason_place r ≡ 8)
  sound r has =
      let (need, there, e) = from_filter tell needs r has in
      let t = told_off (is_available (get P.resources need.name)) need.name r e in
      subst (λ z. IsReasonOf P o op m z × (reason_place z ≡ 8)) t.1
      ((start, (usage_of need, ap (λ (u : Usages). get u need.name) are ∙ usage_by_need needs in_order need there), not_on (get P.resources need.name) t.0), refl)

  complete : (name : Name) → IsReasonOf P o op m (reason.Unavailable name) → Contains (filter_map tell needs) (reason.Unavailable name)
  complete name h =
      let used = h.1 in
      let (need, there, same, u) = need_by_usage needs in_order name used.0 (sym (ap (λ (x : Usages). get x name) are) ∙ used.1) in
      let t : is_available (get P.resources need.name) ≡ false = ap (λ z. is_available (get P.resources z)) same ∙ off (get P.resources name) h.2 in
      in_filter tell needs need (reason.Unavailable name) there (ap (λ b. cond b None (Some (reason.Unavailable need.name))) t ∙ ap (λ z. Some (reason.Unavailable z)) same)

  -- those that aren't available, need by need
  pub unavailable_found : AreOfKind P o op m 8 (filter_map tell needs)
  unavailable_found = record {
    in_order = pairs_from_differ ComesBefore (filter_map tell needs) (differ_filter tell (λ a b. name_cmp a.name b.name ≡ Less) ComesBefore ordered needs by_name);
    exactly = λ r. (sound r, λ h. only_unavailable (λ z. IsReasonOf P o op m z → Contains (filter_map tell needs) z) complete r h.1 h.0);
  }
