-- The reasons that others leave too little of special resources.
use Rattle.std.proofs.Common.{◌≡◌, ◌≢◌, ◌↔◌, inl, inr, refl, sym, ap, subst, ◌∙◌, arith, ℕ, ◌-◌, ◌<◌, ◌≤◌, Bool, true, false, cond, List, [], ◌∷◌, ◌++◌, Contains, Option, Some, None, MatchOption, get_or}
use Rattle.std.specs.FinMap.{get}
use Rattle.std.specs.List.{AllPairs}
use Rattle.std.specs.Option.{option_to_list}
use Rattle.std.specs.Ordering.{eq_by_cmp}
use Rattle.std.specs.declared.cmp.Ordering.TheVariants.{Less}
use Rattle.std.proofs.lemmas.List.Elements.{Contains-append_cases, Contains-append_left, Contains-append_right, Contains-get_or, Contains-push_cases}
use Rattle.std.proofs.lemmas.Option.{none-some, same_Some}
use Rattle.plan_basics.proofs.Members.{contains_cases, contains_head, contains_later, contains_none, tied_is}
use Rattle.plan_basics.specs.Keys.{Name, name_cmp, operation_cmp, operation_cmp-IsAntisymmetric}
use Rattle.plan_basics.specs.declared.keys.OpKey.{OpKey}
use Rattle.special_resources.specs.Holders.{HoldsAmount, OtherHolds, Usage, amount_held}
use Rattle.special_resources.specs.Holdings.{AreInOrder, Held, HoldsIn, holding_of, usage_of}
use Rattle.special_resources.specs.Needs.{AreInNameOrder, Usages, usages_of}
use Rattle.special_resources.specs.declared.Need.{Need}
use Rattle.special_resources.specs.declared.holders.Holder.{Holder}
use Rattle.special_resources.proofs.Amounts.{AreAllHolders, all_others, amount_others, holding_apart, others, others_once, same_operation, some_of_all, taken_from}
use Rattle.special_resources.proofs.MoreNeeds.{need_by_usage, usage_by_need}
use Rattle.plan_core.specs.start_choice.specs.Choices.{AreHeldIn}
use Rattle.plan_model.specs.Contents.{Contents, Operation, Resources}
use Rattle.plan_model.specs.Holdings.{Holds}
use Rattle.plan_model.specs.declared.Stock.{Stock}
use Rattle.plan_reasons.specs.Order.{ComesBefore, reason_place}
use Rattle.plan_reasons.specs.Parts.{AreOfKind, IsShort}
use Rattle.plan_reasons.specs.Reasons.{AreAllOthers, IsReasonOf, IsScarce, needs_start}
use Rattle.plan_reasons.specs.declared.reasons.Reason.{Reason}
use Rattle.plan_reasons.specs.declared.reasons.Reason.TheVariants as reason
use Rattle.plan_reasons.specs.declared.reasons.Scarcity.{Scarcity}
use Rattle.plan_reasons.proofs.Collecting.{pairs_append}
use Rattle.plan_reasons.proofs.KindPlaces.{only_too_little}

-- ---- all others that hold a resource

-- as all holders, of others
as_all : (holds : OpKey → Name → Usage → Type 0) (o : OpKey) (r : Name) (hs : List (OpKey × ℕ)) → AreAllOthers holds o r hs → AreAllHolders same_operation (OtherHolds holds o) r hs
as_all holds o r hs a = record { are = a.are; all = a.all }

-- they hold one amount, however they are listed
one_amount : (holds : OpKey → Name → Usage → Type 0) (o : OpKey) (r : Name) (hs gs : List (OpKey × ℕ)) → AreAllOthers holds o r hs → AreAllOthers holds o r gs → amount_held hs ≡ amount_held gs
one_amount holds o r hs gs a b =
    let fewer = some_of_all same_operation (OtherHolds holds o) r hs (as_all holds o r hs a) gs b.are in
    let more = some_of_all same_operation (OtherHolds holds o) r gs (as_all holds o r gs b) hs a.are in
    omega (arith, fewer, more)

-- the others among holders of a resource are all others that hold it
module _ (held : Held) (o : OpKey) (r : Name) where
  others_has : (items : List Holder) (h : Holder) → Contains items h → h.operation ≢ o → Contains (others held o r items) (h.operation, h.claim.amount)
  others_has [] h has apart = absurd (contains_none h has)
  others_has (x ∷ items) h has apart = by_test (eq_by_cmp operation_cmp x.operation o) refl (λ later. others_has items h later apart)
    where
      by_test : (t : Bool) → eq_by_cmp operation_cmp x.operation o ≡ t → (Contains items h → Contains (others held o r items) (h.operation, h.claim.amount))
          → Contains (cond t (others held o r items) ((x.operation, x.claim.amount) ∷ others held o r items)) (h.operation, h.claim.amount)
      by_test true own rest = elim (contains_cases x items h has) [
        | inl same ↦ absurd (apart (ap (λ (z : Holder). z.operation) (sym same) ∙ tied_is operation_cmp-IsAntisymmetric x.operation o own))
        | inr later ↦ rest later
      ]
      by_test false other rest = elim (contains_cases x items h has) [
        | inl same ↦ subst (λ (z : Holder). Contains ((x.operation, x.claim.amount) ∷ others held o r items) (z.operation, z.claim.amount)) same (contains_head (x.operation, x.claim.amount) (others held o r items))
        | inr later ↦ contains_later (x.operation, x.claim.amount) (others held o r items) (h.operation, h.claim.amount) (rest later)
      ]

  module _ (items : List Holder) (sorted : AreInOrder items) (members : (h : Holder) → Contains items h ↔ ((h.resource ≡ r) × (get held (holding_of h) ≡ Some h.claim))) where
    pub all_others_are : AreAllOthers (HoldsIn held) o r (others held o r items)
    all_others_are = record {
      are = record {
        once = others_once held o r items (holding_apart items sorted r (λ h has. ((members h).0 has).0));
        hold = all_others held o r (λ h. HoldsAmount (OtherHolds (HoldsIn held) o) h.0 r h.1) items (λ k d lt apart.
            let h = get_or items k d in
            let it = (members h).0 (Contains-get_or items k d lt) in
            (record { claim = h.claim; keep = false }, (apart, subst (λ z. get held (z, h.operation) ≡ Some h.claim) it.0 it.1), refl));
      };
      all = λ other usage holds. others_has items (record { resource = r; operation = other; claim = usage.claim }) ((members (record { resource = r; operation = other; claim = usage.claim })).1 (refl, holds.1)) holds.0;
    }

-- ---- one need

module _ (resources : Resources) (held : Held) (o : OpKey) (need : Need) where
  -- it lacks in one way
  one_short : (x y : Scarcity) → IsShort resources held o need x → IsShort resources held o need y → x ≡ y
  one_short x y a b =
      let stock : a.stock ≡ b.stock = same_Some a.stock b.stock (sym a.there ∙ b.there) in
      let amount = one_amount (HoldsIn held) o need.name a.others b.others a.are b.are in
      let left : x.left ≡ y.left = a.left ∙ (λ i. (stock i).quantity - amount i) ∙ sym b.left in
      let resource : x.resource ≡ y.resource = a.resource ∙ sym b.resource in
      let needed : x.needed ≡ y.needed = a.needed ∙ sym b.needed in
      λ i. record { resource = resource i; left = left i; needed = needed i }

  module _ (stock : Stock) (there : get resources need.name ≡ Some stock) (items : List Holder) (sorted : AreInOrder items)
      (members : (h : Holder) → Contains items h ↔ ((h.resource ≡ need.name) × (get held (holding_of h) ≡ Some h.claim))) (left : ℕ) (is : left ≡ stock.quantity - taken_from o items) where
    -- what these holders leave is what all others leave
    left_so : left ≡ stock.quantity - amount_held (others held o need.name items)
    left_so = is ∙ ap (λ n. stock.quantity - n) (sym (amount_others held o need.name items))

    pub short_by : left < need.amount → IsShort resources held o need (record { resource = need.name; left = left; needed = need.amount })
    short_by lacks = record {
      resource = refl;
      stock = stock;
      there = there;
      others = others held o need.name items;
      are = all_others_are held o need.name items sorted members;
      left = left_so;
      needed = refl;
      lacks = lacks;
    }

    pub not_short : need.amount ≤ left → (x : Scarcity) → ¬ IsShort resources held o need x
    not_short fits x a =
        let same : a.stock ≡ stock = same_Some a.stock stock (sym a.there ∙ there) in
        let amount = one_amount (HoldsIn held) o need.name a.others (others held o need.name items) a.are (all_others_are held o need.name items sorted members) in
        let its : x.left ≡ left = a.left ∙ (λ i. (same i).quantity - amount i) ∙ sym left_so in
        let lacks = a.lacks in
        omega (arith, fits, its, a.needed, lacks)

  pub none_there : get resources need.name ≡ None → (x : Scarcity) → ¬ IsShort resources held o need x
  none_there none x a = none-some a.stock (sym none ∙ a.there)

-- ---- need by need

-- what is told of one need
abbrev pub IsTold : Resources → Held → OpKey → Need → Option Reason → Type 0
IsTold resources held o need found = MatchOption found ((x : Scarcity) → ¬ IsShort resources held o need x) (λ r. (x : Scarcity) × IsShort resources held o need x × (r ≡ reason.TooLittleLeft x))

-- the reasons that others leave too little of these needs' resources, in order
pub record AreScarce (resources : Resources) (held : Held) (o : OpKey) (needs : List Need) (found : List Reason) : Type 0 where
  pub in_order : AllPairs ComesBefore found
  pub sound : (r : Reason) → Contains found r → (need : Need) × (x : Scarcity) × Contains needs need × IsShort resources held o need x × (r ≡ reason.TooLittleLeft x)
  pub complete : (need : Need) (x : Scarcity) → Contains needs need → IsShort resources held o need x → Contains found (reason.TooLittleLeft x)

module _ (resources : Resources) (held : Held) (o : OpKey) where
  pub none_scarce : AreScarce resources held o [] []
  none_scarce = record {
    in_order = λ i j d lt within. absurd (omega (arith, within));
    sound = λ r has. absurd (contains_none r has);
    complete = λ need x has short. absurd (contains_none need has);
  }

  module _ (needs : List Need) (found : List Reason) (a : AreScarce resources held o needs found) (need : Need) (later : (n : Need) → Contains needs n → name_cmp n.name need.name ≡ Less) where
    pub one_need_more : (more : Option Reason) → IsTold resources held o need more → AreScarce resources held o (needs ++ need ∷ []) (found ++ option_to_list more)
    one_need_more None not = record {
      in_order = pairs_append ComesBefore found [] a.in_order (λ i j d lt within. absurd (omega (arith, within))) (λ r s in_found in_none. absurd (contains_none s in_none));
      sound = λ r has. elim (Contains-append_cases found [] r has) [
        | inl old ↦ let (n, x, there, short, is) = a.sound r old in (n, x, Contains-append_left needs (need ∷ []) n there, short, is)
        | inr new ↦ absurd (contains_none r new)
      ];
      complete = λ n x has short. elim (Contains-push_cases needs need n has) [
        | inl old ↦ Contains-append_left found [] (reason.TooLittleLeft x) (a.complete n x old short)
        | inr same ↦ absurd (not x (subst (λ z. IsShort resources held o z x) (sym same) short))
      ];
    }
    one_need_more (Some told) (its, short, is) = record {
      in_order = pairs_append ComesBefore found (told ∷ []) a.in_order (λ i j d lt within. absurd (omega (arith, lt, within))) across;
      sound = λ r has. elim (Contains-push_cases found told r has) [
        | inl old ↦ let (n, x, there, s, e) = a.sound r old in (n, x, Contains-append_left needs (need ∷ []) n there, s, e)
        | inr same ↦ (need, its, Contains-append_right needs (need ∷ []) need (0, omega arith, refl), short, sym same ∙ is)
      ];
      complete = λ n x has s. elim (Contains-push_cases needs need n has) [
        | inl old ↦ Contains-append_left found (told ∷ []) (reason.TooLittleLeft x) (a.complete n x old s)
        | inr same ↦
            let one : its ≡ x = one_short resources held o need its x short (subst (λ z. IsShort resources held o z x) (sym same) s) in
            Contains-append_right found (told ∷ []) (reason.TooLittleLeft x) (0, omega arith, is ∙ ap (λ z. reason.TooLittleLeft z) one)
      ];
    }
      where
        across : (r s : Reason) → Contains found r → Contains (told ∷ []) s → ComesBefore r s
        across r s in_found in_new =
            let (n, x, there, other, e) = a.sound r in_found in
            let same : s ≡ reason.TooLittleLeft its = elim (Contains-push_cases [] told s in_new) [ inl never ↦ absurd (contains_none s never) | inr one ↦ sym one ∙ is ] in
            let less : name_cmp x.resource its.resource ≡ Less = (λ i. name_cmp (other.resource i) (short.resource i)) ∙ later n there in
            subst (λ z. ComesBefore z s) (sym e) (subst (ComesBefore (reason.TooLittleLeft x)) (sym same) less)

-- ---- all needs

module _ (P : Contents) (held : Held) (holders : AreHeldIn P held) (o : OpKey) (r : Name) where
  -- who holds what is known
  known : (k : OpKey) (usage : Usage) → OtherHolds (Holds P) o k r usage → OtherHolds (HoldsIn held) o k r usage
  known k usage (apart, holds) = (apart, (holders k r usage.claim).1 (usage.keep, holds))

  told : (k : OpKey) (usage : Usage) → OtherHolds (HoldsIn held) o k r usage → (y : Usage) × OtherHolds (Holds P) o k r y × (y.claim ≡ usage.claim)
  told k usage (apart, holds) = let (keep, is) = (holders k r usage.claim).0 holds in (record { claim = usage.claim; keep = keep }, (apart, is), refl)

  pub others_so : (hs : List (OpKey × ℕ)) → AreAllOthers (HoldsIn held) o r hs → AreAllOthers (Holds P) o r hs
  others_so hs a = record {
    are = record { once = a.are.once; hold = λ i d lt. let h = a.are.hold i d lt in let it = told _ h.0 h.1 in (it.0, it.1, ap (λ c. c.amount) it.2 ∙ h.2) };
    all = λ k usage holds. a.all k usage (known k usage holds);
  }

  pub others_known : (hs : List (OpKey × ℕ)) → AreAllOthers (Holds P) o r hs → AreAllOthers (HoldsIn held) o r hs
  others_known hs a = record {
    are = record { once = a.are.once; hold = λ i d lt. let h = a.are.hold i d lt in (h.0, known _ h.0 h.1, h.2) };
    all = λ k usage holds. let it = told k usage holds in subst (λ c. Contains hs (k, c.amount)) it.2 (a.all k it.0 it.1);
  }

module _ (P : Contents) (o : OpKey) (op : Operation) (m : ℕ) (start : needs_start P op ≡ true) (held : Held) (holders : AreHeldIn P held) (needs : List Need) (in_order : AreInNameOrder needs) (are : op.needs ≡ usages_of needs)
    (found : List Reason) (a : AreScarce P.resources held o needs found) where
  scarce : (need : Need) (x : Scarcity) → Contains needs need → IsShort P.resources held o need x → IsScarce P o op x
  scarce need x there short = record {
    usage = usage_of need;
    needs = ap (λ (u : Usages). get u x.resource) are ∙ ap (get (usages_of needs)) short.resource ∙ usage_by_need needs in_order need there;
    stock = short.stock;
    there = ap (get P.resources) short.resource ∙ short.there;
    others = short.others;
    are = subst (λ z. AreAllOthers (Holds P) o z short.others) (sym short.resource) (others_so P held holders o need.name short.others short.are);
    left = short.left;
    needed = short.needed;
    lacks = short.lacks;
  }

  sound : (r : Reason) → Contains found r → IsReasonOf P o op m r × (reason_place r ≡ 10)
  sound r has =
      let (need, x, there, short, is) = a.sound r has in
      subst (λ z. IsReasonOf P o op m z × (reason_place z ≡ 10)) (sym is) ((start, scarce need x there short), refl)

  complete : (x : Scarcity) → IsReasonOf P o op m (reason.TooLittleLeft x) → Contains found (reason.TooLittleLeft x)
  complete x h =
      let k = h.1 in
      let (need, there, same, u) = need_by_usage needs in_order x.resource k.usage (sym (ap (λ (z : Usages). get z x.resource) are) ∙ k.needs) in
      a.complete need x there (record {
        resource = sym same;
        stock = k.stock;
        there = ap (get P.resources) same ∙ k.there;
        others = k.others;
        are = others_known P held holders o need.name k.others (subst (λ z. AreAllOthers (Holds P) o z k.others) (sym same) k.are);
        left = k.left;
        needed = k.needed ∙ ap (λ (z : Usage). z.claim.amount) (sym u);
        lacks = k.lacks;
      })

  pub scarce_found : AreOfKind P o op m 10 found
  scarce_found = record { in_order = a.in_order; exactly = λ r. (sound r, λ h. only_too_little (λ z. IsReasonOf P o op m z → Contains found z) complete r h.1 h.0) }
