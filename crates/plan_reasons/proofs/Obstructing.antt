-- The reasons that other operations hold special resources.
use Rattle.std.proofs.Common.{◌≡◌, ◌≢◌, ◌⊎◌, inl, inr, refl, sym, ap, ap₂, subst, ◌∙◌, arith, ℕ, Bool, true, false, true≢false, cond, not, ◌&&◌, List, [], ◌∷◌, ◌++◌, map, Contains, Option, Some, None}
use Rattle.std.specs.Cmp.{Equal-is, eq_by_cmp_equiv}
use Rattle.std.specs.FinMap.{get}
use Rattle.std.specs.List.{AllPairs, filter_map}
use Rattle.std.specs.Ordering.{eq_by_cmp, ordering_then}
use Rattle.std.specs.declared.cmp.Ordering.TheVariants.{Less}
use Rattle.std.proofs.lemmas.List.Elements.{Contains-append_cases, Contains-append_left, Contains-append_right, Contains-push_cases}
use Rattle.std.proofs.lemmas.Option.{none-some, same_Some}
use Rattle.plan_basics.specs.Keys.{name_cmp, operation_cmp, operation_cmp-IsAntisymmetric, operation_cmp_total}
use Rattle.plan_basics.specs.declared.keys.OpKey.{OpKey}
use Rattle.special_resources.specs.Holders.{Usage}
use Rattle.special_resources.specs.Holdings.{AreInOrder, Held, holding_cmp, holding_of, usage_of}
use Rattle.special_resources.specs.Needs.{AreInNameOrder, Usages, usages_of}
use Rattle.special_resources.specs.declared.Mode.{Mode}
use Rattle.special_resources.specs.declared.Mode.TheVariants as mode
use Rattle.special_resources.specs.declared.Need.{Need}
use Rattle.special_resources.specs.declared.holders.Holder.{Holder}
use Rattle.special_resources.proofs.MoreNeeds.{need_by_usage, usage_by_need}
use Rattle.plan_core.specs.start_choice.specs.Choices.{AreHeldIn}
use Rattle.plan_drafts.proofs.Lists.{contains_none, differ_filter, differ_unmap, from_filter, in_filter, pairs_from_differ}
use Rattle.plan_model.specs.Contents.{Contents, Operation}
use Rattle.plan_reasons.specs.Order.{ComesBefore, reason_place}
use Rattle.plan_reasons.specs.Parts.{AreOfKind}
use Rattle.plan_reasons.specs.Places.{held_by, is_in_way, is_shared, obstacle_of}
use Rattle.plan_reasons.specs.Reasons.{IsObstacle, IsReasonOf, needs_start}
use Rattle.plan_reasons.specs.declared.reasons.Obstacle.{Obstacle}
use Rattle.plan_reasons.specs.declared.reasons.Reason.{Reason}
use Rattle.plan_reasons.specs.declared.reasons.Reason.TheVariants as reason
use Rattle.plan_reasons.proofs.Collecting.{pairs_append}
use Rattle.plan_reasons.proofs.KindPlaces.{only_held_by}
use Rattle.plan_reasons.proofs.Needing.{differ_sorted}

-- ---- who is in the way

both_off : (a b : Bool) → not a && not b ≡ true → (a ≡ false) × (b ≡ false)
both_off false false e = (refl, refl)
both_off false true e = absurd (true≢false (sym e))
both_off true b e = absurd (true≢false (sym e))

shared_told : (m : Mode) → is_shared m ≡ true → m ≡ mode.Shared
shared_told mode.Shared e = refl
shared_told m e = absurd (true≢false (sym e))

pub both_shared : (a b : Mode) → (is_shared a && is_shared b ≡ false) ⊎ ((a ≡ mode.Shared) × (b ≡ mode.Shared))
both_shared mode.Shared mode.Shared = inr (refl, refl)
both_shared mode.Shared b = inl refl
both_shared a b = inl refl

module _ (o : OpKey) (m : Mode) (h : Holder) where
  -- it is another, and not both share the resource
  in_way : is_in_way o m h ≡ true → (h.operation ≢ o) × ¬ ((m ≡ mode.Shared) × (h.claim.mode ≡ mode.Shared))
  in_way e =
      let parts = both_off (eq_by_cmp operation_cmp h.operation o) (is_shared m && is_shared h.claim.mode) e in (
        λ same. true≢false (sym ((eq_by_cmp_equiv operation_cmp_total).refl o) ∙ ap (λ k. eq_by_cmp operation_cmp k o) (sym same) ∙ parts.0),
        λ both. let on : is_shared m && is_shared h.claim.mode ≡ true = λ i. is_shared (both.0 i) && is_shared (both.1 i) in true≢false (sym on ∙ parts.1),
      )

  by_way : h.operation ≢ o → ¬ ((m ≡ mode.Shared) × (h.claim.mode ≡ mode.Shared)) → is_in_way o m h ≡ true
  by_way apart alone = elim (both_shared m h.claim.mode) [
    | inl off ↦ at (eq_by_cmp operation_cmp h.operation o) refl off
    | inr both ↦ absurd (alone both)
  ]
    where
      at : (b : Bool) → eq_by_cmp operation_cmp h.operation o ≡ b → is_shared m && is_shared h.claim.mode ≡ false → is_in_way o m h ≡ true
      at false e off = λ i. not (e i) && not (off i)
      at true e off = absurd (apart (operation_cmp-IsAntisymmetric h.operation o ((Equal-is (operation_cmp h.operation o)).0 e)))

  -- what is told of a holder
  told_way : (b : Bool) (r : Reason) → cond b (Some (held_by h)) None ≡ Some r → (b ≡ true) × (held_by h ≡ r)
  told_way true r e = (refl, same_Some (held_by h) r e)
  told_way false r e = absurd (none-some r e)

-- ---- need by need

-- the holder holds the resource of the need, and is in the way
pub record IsInWay (o : OpKey) (held : Held) (need : Need) (h : Holder) : Type 0 where
  pub resource : h.resource ≡ need.name
  pub holds : get held (holding_of h) ≡ Some h.claim
  pub way : is_in_way o need.mode h ≡ true

-- the reasons that holders are of these needs' resources, in order
pub record IsObstructed (o : OpKey) (held : Held) (needs : List Need) (found : List Reason) : Type 0 where
  pub in_order : AllPairs ComesBefore found
  pub sound : (r : Reason) → Contains found r → (need : Need) × (h : Holder) × Contains needs need × IsInWay o held need h × (held_by h ≡ r)
  pub complete : (need : Need) (h : Holder) → Contains needs need → IsInWay o held need h → Contains found (held_by h)

module _ (o : OpKey) (held : Held) where
  pub none_obstructed : IsObstructed o held [] []
  none_obstructed = record {
    in_order = λ i j d lt within. absurd (omega (arith, within));
    sound = λ r has. absurd (contains_none r has);
    complete = λ need h has way. absurd (contains_none need has);
  }

  module _ (needs : List Need) (found : List Reason) (a : IsObstructed o held needs found) (need : Need) (holders : List Holder)
      (members : (h : Holder) → (Contains holders h → (h.resource ≡ need.name) × (get held (holding_of h) ≡ Some h.claim)) × ((h.resource ≡ need.name) × (get held (holding_of h) ≡ Some h.claim) → Contains holders h))
      (ascends : AreInOrder holders) (later : (n : Need) → Contains needs n → name_cmp n.name need.name ≡ Less) where
    abbrev tell : Holder → Option Reason
    tell = obstacle_of o need.mode

    its_way : (h : Holder) (r : Reason) → Contains holders h → tell h ≡ Some r → IsInWay o held need h × (held_by h ≡ r)
    its_way h r has e =
        let t = told_way o need.mode h (is_in_way o need.mode h) r e in
        let its = (members h).0 has in
        (record { resource = its.0; holds = its.1; way = t.0 }, t.1)

    ordered : (h k : Holder) (r s : Reason) → tell h ≡ Some r → tell k ≡ Some s → holding_cmp (holding_of h) (holding_of k) ≡ Less → ComesBefore r s
    ordered h k r s e f less =
        subst (λ z. ComesBefore z s) (told_way o need.mode h (is_in_way o need.mode h) r e).1 (subst (ComesBefore (held_by h)) (told_way o need.mode k (is_in_way o need.mode k) s f).1 less)

    new_in_order : AllPairs ComesBefore (filter_map tell holders)
    new_in_order =
        pairs_from_differ ComesBefore (filter_map tell holders)
        (differ_filter tell (λ x y. holding_cmp (holding_of x) (holding_of y) ≡ Less) ComesBefore ordered holders (differ_unmap holding_of (λ x y. holding_cmp x y ≡ Less) holders (differ_sorted holding_cmp (map holding_of holders) ascends)))

    across : (r s : Reason) → Contains found r → Contains (filter_map tell holders) s → ComesBefore r s
    across r s in_found in_new =
        let (n, h, there, way, is) = a.sound r in_found in
        let (k, among, e) = from_filter tell holders s in_new in
        let new = its_way k s among e in
        let less : name_cmp h.resource k.resource ≡ Less = ap₂ name_cmp way.resource new.0.resource ∙ later n there in
        subst (λ z. ComesBefore z s) is (subst (ComesBefore (held_by h)) new.1 (ap (λ z. ordering_then z (operation_cmp h.operation k.operation)) less))

    pub one_need_more : IsObstructed o held (needs ++ need ∷ []) (found ++ filter_map tell holders)
    one_need_more = record {
      in_order = pairs_append ComesBefore found (filter_map tell holders) a.in_order new_in_order across;
      sound = λ r has. elim (Contains-append_cases found (filter_map tell holders) r has) [
        | inl old ↦ let (n, h, there, way, is) = a.sound r old in (n, h, Contains-append_left needs (need ∷ []) n there, way, is)
        | inr new ↦ let (h, among, e) = from_filter tell holders r new in let w = its_way h r among e in (need, h, pushed, w.0, w.1)
      ];
      complete = λ n h has way. elim (Contains-push_cases needs need n has) [
        | inl old ↦ Contains-append_left found (filter_map tell holders) (held_by h) (a.complete n h old way)
        | inr same ↦ Contains-append_right found (filter_map tell holders) (held_by h) (now n h same way)
      ];
    }
      where
        pushed : Contains (needs ++ need ∷ []) need
        pushed = Contains-append_right needs (need ∷ []) need (0, omega arith, refl)

        now : (n : Need) (h : Holder) → need ≡ n → IsInWay o held n h → Contains (filter_map tell holders) (held_by h)
        now n h same way =
            let w : IsInWay o held need h = subst (λ z. IsInWay o held z h) (sym same) way in
            in_filter tell holders h (held_by h) ((members h).1 (w.resource, w.holds)) (ap (λ b. cond b (Some (held_by h)) None) w.way)

-- ---- all needs

module _ (P : Contents) (o : OpKey) (op : Operation) (m : ℕ) (start : needs_start P op ≡ true) (held : Held) (holders : AreHeldIn P held) (needs : List Need) (in_order : AreInNameOrder needs) (are : op.needs ≡ usages_of needs)
    (found : List Reason) (a : IsObstructed o held needs found) where
  obstacle : (need : Need) (h : Holder) → Contains needs need → IsInWay o held need h → IsObstacle P o op (record { resource = h.resource; holder = h.operation; mode = h.claim.mode })
  obstacle need h there way =
      let (keep, holds) = (holders h.operation h.resource h.claim).0 way.holds in
      let apart = in_way o need.mode h way.way in
      record {
        usage = usage_of need;
        needs = ap (λ (u : Usages). get u h.resource) are ∙ ap (get (usages_of needs)) way.resource ∙ usage_by_need needs in_order need there;
        another = apart.0;
        held = record { claim = h.claim; keep = keep };
        holds = holds;
        mode = refl;
        in_the_way = apart.1;
      }

  sound : (r : Reason) → Contains found r → IsReasonOf P o op m r × (reason_place r ≡ 9)
  sound r has =
      let (need, h, there, way, is) = a.sound r has in
      subst (λ z. IsReasonOf P o op m z × (reason_place z ≡ 9)) is ((start, obstacle need h there way), refl)

  complete : (x : Obstacle) → IsReasonOf P o op m (reason.HeldBy x) → Contains found (reason.HeldBy x)
  complete x h =
      let k = h.1 in
      let (need, there, same, u) = need_by_usage needs in_order x.resource k.usage (sym (ap (λ (z : Usages). get z x.resource) are) ∙ k.needs) in
      let holder : Holder = record { resource = x.resource; operation = x.holder; claim = k.held.claim } in
      let is_mode : need.mode ≡ k.usage.claim.mode = ap (λ (z : Usage). z.claim.mode) u in
      subst (λ z. Contains found (reason.HeldBy (record { resource = x.resource; holder = x.holder; mode = z }))) (sym k.mode)
      (a.complete need holder there (record {
        resource = sym same;
        holds = (holders x.holder x.resource k.held.claim).1 (k.held.keep, k.holds);
        way = by_way o need.mode holder k.another (λ both. k.in_the_way (sym is_mode ∙ both.0, both.1));
      }))

  pub obstacles_found : AreOfKind P o op m 9 found
  obstacles_found = record { in_order = a.in_order; exactly = λ r. (sound r, λ h. only_held_by (λ z. IsReasonOf P o op m z → Contains found z) complete r h.1 h.0) }
