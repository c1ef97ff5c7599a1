-- Those that hold a special resource, out of the holders in order.
use Rattle.std.proofs.Common.{◌≡◌, ◌↔◌, ◌∙◌, refl, sym, ap, ap₂, subst, ℕ, ◌<◌, Bool, List, [], ◌∷◌, map, get_or, length, Some, Contains}
use Rattle.std.proofs.lemmas.Cmp.{tied_itself}
use Rattle.std.specs.FinMap.{get}
use Rattle.std.specs.List.{AllByRecursion, AllZip}
use Rattle.std.specs.List.Sorted.{IsStrictlySortedBy}
use Rattle.std.specs.Ordering.{ordering_then}
use Rattle.std.specs.declared.cmp.Ordering.TheVariants.{Equal, Less}
use Rattle.plan_basics.specs.Keys.{Name, name_cmp, name_cmp_total, operation_cmp}
use Rattle.plan_basics.specs.declared.keys.OpKey.{OpKey}
use Rattle.plan_model.specs.Contents.{Contents, IsInPlan}
use Rattle.plan_model.specs.Holdings.{Holds}
use Rattle.plan_model.specs.Status.{HasStatus}
use Rattle.plan_reasons.specs.plan_core.specs.start_choice.specs.Choices.{AreHeldIn}
use Rattle.plan_reasons.specs.plan_drafts.proofs.Lists.{contains_head, contains_later, from_map, in_map}
use Rattle.special_resources.specs.Holdings.{AreInOrder, Held, holding_cmp, holding_of}
use Rattle.special_resources.specs.declared.holders.Holder.{Holder}
use Rattle.plan_shows.specs.Resources.{AreHolderViews, IsHolder, IsShown}
use Rattle.plan_shows.specs.declared.resources.HolderView.{HolderView}
use Rattle.plan_shows.proofs.Beside.{zip_back}

-- ---- holders of one resource go by their operations
by_operation : (a b : Holder) → a.resource ≡ b.resource → holding_cmp (holding_of a) (holding_of b) ≡ Less → operation_cmp a.operation b.operation ≡ Less
by_operation a b same less =
    let tied : name_cmp a.resource b.resource ≡ Equal = ap (λ n. name_cmp n b.resource) same ∙ tied_itself name_cmp_total b.resource in
    sym (ap (λ z. ordering_then z (operation_cmp a.operation b.operation)) tied) ∙ less

module _ (r : Name) where
  above : (a : Holder) (hs : List Holder) → a.resource ≡ r → ((h : Holder) → Contains hs h → h.resource ≡ r) → AllByRecursion (λ k. holding_cmp (holding_of a) k ≡ Less) (map holding_of hs)
      → AllByRecursion (λ o. operation_cmp a.operation o ≡ Less) (map (λ (h : Holder). h.operation) hs)
  above a [] own each up = tt
  above a (h ∷ hs) own each up = (by_operation a h (own ∙ sym (each h (contains_head h hs))) up.0, above a hs own (λ x has. each x (contains_later h hs x has)) up.1)

  by_operations : (hs : List Holder) → ((h : Holder) → Contains hs h → h.resource ≡ r) → AreInOrder hs → IsStrictlySortedBy operation_cmp (map (λ (h : Holder). h.operation) hs)
  unfolding IsStrictlySortedBy
  by_operations [] each up = tt
  by_operations (h ∷ hs) each up = (above h hs (each h (contains_head h hs)) (λ x has. each x (contains_later h hs x has)) up.0, by_operations hs (λ x has. each x (contains_later h hs x has)) up.1)

-- what is shown has the holders' operations
module _ (P : Contents) (quantity : ℕ) where
  same_operations : (hs : List Holder) (vs : List HolderView) → AllZip (IsShown P quantity) hs vs → map (λ (v : HolderView). v.op) vs ≡ map (λ (h : Holder). h.operation) hs
  same_operations [] [] h = refl
  same_operations [] (v ∷ vs) h = absurd h
  same_operations (x ∷ hs) [] h = absurd h
  same_operations (x ∷ hs) (v ∷ vs) h = ap₂ (λ o os. o ∷ os) h.0.op (same_operations hs vs h.1)

  module _ (r : Name) (held : Held) (are : AreHeldIn P held) (hs : List Holder) (members : (h : Holder) → Contains hs h ↔ ((h.resource ≡ r) × (get held (holding_of h) ≡ Some h.claim))) where
    -- a holder holds the resource
    pub it_holds : (h : Holder) → Contains hs h → (keep : Bool) × Holds P h.operation r (record { claim = h.claim; keep = keep })
    it_holds h has =
        let m = (members h).0 has in
        (are h.operation r h.claim).0 (ap (λ n. get held (n, h.operation)) (sym m.0) ∙ m.1)

    among_holders : (o : OpKey) → IsHolder P r o → Contains (map (λ (h : Holder). h.operation) hs) o
    among_holders o (usage, holds) =
        let h : Holder = record { resource = r; operation = o; claim = usage.claim } in
        in_map (λ (h : Holder). h.operation) hs h ((members h).1 (refl, (are o r usage.claim).1 (usage.keep, holds)))

    from_holders : (o : OpKey) → Contains (map (λ (h : Holder). h.operation) hs) o → IsHolder P r o
    from_holders o has =
        let x = from_map (λ (h : Holder). h.operation) hs o has in
        let holds = it_holds x.0 x.1 in
        subst (IsHolder P r) x.2 (record { claim = x.0.claim; keep = holds.0 }, holds.1)

    pub holders_shown : AreInOrder hs → (vs : List HolderView) → AllZip (IsShown P quantity) hs vs → AreHolderViews P r quantity vs
    holders_shown up vs shown =
        let same = same_operations hs vs shown in
        record {
          in_order = subst (IsStrictlySortedBy operation_cmp) (sym same) (by_operations r hs (λ h has. ((members h).0 has).0) up);
          every = λ o. ((λ has. from_holders o (subst (λ os. Contains os o) same has)), (λ is. subst (λ os. Contains os o) (sym same) (among_holders o is)));
          each = λ v has.
              let x = zip_back (IsShown P quantity) hs vs shown v has in
              let holds = it_holds x.0 x.1 in
              let shown_so = x.2 in
              record {
                usage = record { claim = x.0.claim; keep = holds.0 };
                holds = subst (λ o. Holds P o r (record { claim = x.0.claim; keep = holds.0 })) (sym shown_so.op) holds.1;
                status = subst (λ o. HasStatus P o v.status) (sym shown_so.op) shown_so.status;
                mode = shown_so.mode;
                amount = shown_so.amount;
              };
        }

    -- a holder is an operation of the plan
    pub is_there : (i : ℕ) (h : Holder) → i < length hs → h ≡ get_or hs i h → IsInPlan P h.operation
    is_there i h within at = let holds = it_holds h (i, within, sym at) in (holds.1.0, holds.1.1, tt)
