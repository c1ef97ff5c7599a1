-- Whether an operation is allowed to start can be decided.
use Rattle.std.proofs.Common.{◌∙◌, ◌≡◌, ◌≢◌, ◌⊎◌, inl, inr, refl, sym, ap, subst, arith, ℕ, ◌+◌, ◌≤◌, true, false, List, Some}
use Rattle.std.proofs.lemmas.Bool.{cases_lt}
use Rattle.std.specs.FinMap.{get, keys, nat_cmp-IsAntisymmetric}
use Rattle.std.specs.Cmp.{nat_cmp_total}
use Rattle.plan_basics.specs.declared.Attr.TheVariants as attribute
use Rattle.plan_basics.specs.declared.Refusal.{Refusal}
use Rattle.plan_basics.specs.declared.Refusal.TheVariants as refusal
use Rattle.plan_basics.specs.declared.keys.OpKey.{OpKey}
use Rattle.plan_basics.specs.Intervals.{IsOpenAt, OpenInterval}
use Rattle.plan_basics.specs.Keys.{Name, name_cmp-IsAntisymmetric, name_cmp_total, operation_cmp, operation_cmp-IsAntisymmetric, operation_cmp_total}
use Rattle.special_resources.proofs.Amounts.{AreAllHolders, all_holders, some_of_all}
use Rattle.special_resources.specs.Holders.{FitsBeside, LeavesEnough, OtherHolds, SharesWithHolders, Usage, amount_held}
use Rattle.special_resources.specs.declared.Mode.{Mode}
use Rattle.special_resources.specs.declared.Mode.TheVariants as mode
use Rattle.status_rules.specs.Table.{marked_status}
use Rattle.status_rules.specs.declared.Status.TheVariants as status
use Rattle.plan_records.specs.plan_model.specs.workstations.specs.Workstations.{HasCapacity, HasRoom, Workstation, capacity_of}
use Rattle.plan_records.specs.plan_model.specs.workstations.specs.declared.Capacity.{Capacity}
use Rattle.plan_laws.proofs.Entries.{same_operation, told_at, told_each_at, told_entries, told_entry, told_has, told_operations}
use Rattle.std.proofs.lemmas.Option.{same_Some}
use Rattle.plan_laws.proofs.Numbers.{told_refusals}
use Rattle.plan_laws.proofs.Readying.{ready_told}
use Rattle.plan_laws.proofs.Standing.{status_told}
use Rattle.plan_laws.proofs.Decide.{told_attribute}
use Rattle.operation_graph.proofs.Telling.{Told, told_alike, told_and, told_if_then, told_none, told_or, told_true}
use Rattle.plan_records.specs.plan_drafts.proofs.Lists.{pairs_from_differ}
use Rattle.plan_records.specs.plan_drafts.proofs.Tables.{sorted_apart}
use Rattle.plan_records.specs.plan_model.proofs.Entries.{entries_in_order}
use Rattle.plan_records.specs.plan_model.proofs.Members.{in_keys}
use Rattle.plan_records.specs.plan_model.specs.declared.Stock.{Stock}
use Rattle.plan_records.specs.plan_model.specs.Holdings.{Holds, given_out, holds_resource, takes}
use Rattle.plan_records.specs.plan_model.specs.Contents.{Contents, HasAttribute, Operation, attribute_at}
use Rattle.plan_records.specs.plan_model.specs.Starts.{FitsAt, IsAllowedToStart, MayStart}
use Rattle.plan_records.specs.plan_model.specs.Status.{HasStatus, IsReady}
use Rattle.plan_records.specs.plan_model.specs.Valid.{IsAcyclic}

pub told_le : (a b : ℕ) → Told (a ≤ b)
told_le a b = elim (cases_lt b a) [ inl less ↦ inr (λ h. omega (arith, less, h)) | inr le ↦ inl le ]

told_shared : (m : Mode) → Told (m ≡ mode.Shared)
told_shared mode.Shared = inl refl
told_shared m = inr (λ e. cc)

-- ---- room on a workstation

open_told : (x : OpenInterval) (m : ℕ) → Told (IsOpenAt x m)
open_told x m = told_and (told_le x.from m) (λ _. told_le _ x.end)

module _ (w : Workstation) (m : ℕ) where
  some_capacity : Told ((capacity : Capacity) × HasCapacity w m capacity)
  some_capacity = told_alike {A = (from : ℕ) × ((x : OpenInterval) × (get w.intervals from ≡ Some x) × IsOpenAt x m)}
      (λ h. (capacity_of h.1.0, (h.0, h.1.0, h.1.1, h.1.2, refl)))
      (λ h. (h.1.0, (h.1.1, h.1.2, h.1.3)))
      (told_entry w.intervals nat_cmp-IsAntisymmetric (λ from x. IsOpenAt x m) (λ from x. open_told x m))

  each_capacity : (Q : Capacity → Type 0) → ((c : Capacity) → Told (Q c)) → Told ((capacity : Capacity) → HasCapacity w m capacity → Q capacity)
  each_capacity Q each = told_alike {A = (from : ℕ) (x : OpenInterval) → get w.intervals from ≡ Some x → IsOpenAt x m → Q (capacity_of x)}
      (λ h capacity has. subst Q (sym has.4) (h has.0 has.1 has.2 has.3))
      (λ h from x e now. h (capacity_of x) (from, x, e, now, refl))
      (told_entries w.intervals nat_cmp_total nat_cmp-IsAntisymmetric (λ from x. IsOpenAt x m → Q (capacity_of x)) (λ from x. told_if_then (open_told x m) (λ _. each (capacity_of x))))

  room_told : (taken : Capacity) (r1 r2 : ℕ) (line : Refusal) → Told (HasRoom w m taken r1 r2 line)
  room_told taken r1 r2 refusal.Closed = some_capacity
  room_told taken r1 r2 refusal.NoServer = each_capacity (λ c. taken.servers + 1 ≤ c.servers) (λ c. told_le _ _)
  room_told taken r1 r2 refusal.NoFixed = each_capacity (λ c. (taken.r1 + r1 ≤ c.r1) × (taken.r2 + r2 ≤ c.r2)) (λ c. told_and (told_le _ _) (λ _. told_le _ _))
  room_told taken r1 r2 line = inl tt

module _ (P : Contents) where
  fits_told : (op : Operation) (m : ℕ) (line : Refusal) → Told (FitsAt P op m line)
  fits_told op m line = told_at P.workstations op.workstation (λ ws. HasRoom ws m (given_out P op.workstation) op.r1 op.r2 line) (λ ws e. room_told ws m (given_out P op.workstation) op.r1 op.r2 line)

  -- ---- special resources

  -- what one other operation takes of a resource is shared, if it takes any
  abbrev OtherShares : OpKey → Name → Usage → OpKey → Operation → Usage → Type 0
  OtherShares o r usage other op held = other ≢ o → takes (attribute_at P op.workstation) ≡ true → holds_resource held.keep (marked_status op.mark) ≡ true → (usage.claim.mode ≡ mode.Shared) × (held.claim.mode ≡ mode.Shared)

  other_told : (o : OpKey) (r : Name) (usage : Usage) (other : OpKey) (op : Operation) (held : Usage) → Told (OtherShares o r usage other op held)
  other_told o r usage other op held =
      told_if_then (told_none (same_operation other o)) (λ _.
      told_if_then (told_true (takes (attribute_at P op.workstation)) true) (λ _.
      told_if_then (told_true (holds_resource held.keep (marked_status op.mark)) true) (λ _.
      told_and (told_shared usage.claim.mode) (λ _. told_shared held.claim.mode))))

  shares_told : (o : OpKey) (r : Name) (usage : Usage) → Told (SharesWithHolders (Holds P) o r usage)
  shares_told o r usage = told_alike {A = (other : OpKey) (op : Operation) → get P.operations other ≡ Some op → (held : Usage) → get op.needs r ≡ Some held → OtherShares o r usage other op held}
      (λ h other held apart holds. h other holds.0 holds.1 held holds.2.0 apart holds.2.1 holds.2.2)
      (λ h other op e held n apart t k. h other held apart (op, e, (n, t, k)))
      (told_operations P (λ other. (op : Operation) → get P.operations other ≡ Some op → (held : Usage) → get op.needs r ≡ Some held → OtherShares o r usage other op held)
      (λ other. told_each_at P.operations other (λ op. (held : Usage) → get op.needs r ≡ Some held → OtherShares o r usage other op held) (λ op e.
      told_each_at op.needs r (λ held. OtherShares o r usage other op held) (λ held n. other_told o r usage other op held)))
      (λ other not op e. absurd (not (op, e, tt))))

  -- how another operation holds the resource, if it does
  other_holds : (o : OpKey) (r : Name) (k : OpKey) → Told ((held : Usage) × OtherHolds (Holds P) o k r held)
  other_holds o r k = told_alike {A = (k ≢ o) × ((op : Operation) × (get P.operations k ≡ Some op) × ((held : Usage) × (get op.needs r ≡ Some held) × ((takes (attribute_at P op.workstation) ≡ true) × (holds_resource held.keep (marked_status op.mark) ≡ true))))}
      (λ h. (h.1.2.0, (h.0, (h.1.0, h.1.1, (h.1.2.1, h.1.2.2.0, h.1.2.2.1)))))
      (λ h. (h.1.0, (h.1.1.0, h.1.1.1, (h.0, h.1.1.2.0, (h.1.1.2.1, h.1.1.2.2)))))
      (told_and (told_none (same_operation k o)) (λ _.
      told_at P.operations k (λ op. (held : Usage) × (get op.needs r ≡ Some held) × ((takes (attribute_at P op.workstation) ≡ true) × (holds_resource held.keep (marked_status op.mark) ≡ true))) (λ op e.
      told_at op.needs r (λ held. (takes (attribute_at P op.workstation) ≡ true) × (holds_resource held.keep (marked_status op.mark) ≡ true)) (λ held n.
      told_and (told_true (takes (attribute_at P op.workstation)) true) (λ _. told_true (holds_resource held.keep (marked_status op.mark)) true)))))

  -- it holds it in one way
  one_holding : (o : OpKey) (r : Name) (k : OpKey) (x y : Usage) → OtherHolds (Holds P) o k r x → OtherHolds (Holds P) o k r y → x ≡ y
  one_holding o r k x y h g = same_Some x y (sym h.1.2.0 ∙ ap (λ (z : Operation). get z.needs r) (same_Some h.1.0 g.1.0 (sym h.1.1 ∙ g.1.1)) ∙ g.1.2.0)

  -- all others that hold it
  pub others : (o : OpKey) (r : Name) → (hs : List (OpKey × ℕ)) × AreAllHolders same_operation (OtherHolds (Holds P) o) r hs
  others o r = all_holders same_operation (OtherHolds (Holds P) o) r find (one_holding o r) (keys P.operations) (pairs_from_differ (λ a b. a ≢ b) (keys P.operations) (sorted_apart operation_cmp_total operation_cmp-IsAntisymmetric (keys P.operations) (entries_in_order operation_cmp P.operations)))
      (λ k u h. in_keys operation_cmp-IsAntisymmetric P.operations k h.1.0 h.1.1)
    where
      find : (k : OpKey) → ((u : Usage) × OtherHolds (Holds P) o k r u) ⊎ ((u : Usage) → ¬ OtherHolds (Holds P) o k r u)
      find k = elim (other_holds o r k) [ inl holds ↦ inl holds | inr none ↦ inr (λ u h. none (u, h)) ]

  leaves_told : (quantity : ℕ) (o : OpKey) (r : Name) (usage : Usage) → Told (LeavesEnough quantity (Holds P) o r usage)
  leaves_told quantity o r usage =
      let all = others o r in
      told_alike {A = amount_held all.0 + usage.claim.amount ≤ quantity}
      (λ fits hs are. let most = some_of_all same_operation (OtherHolds (Holds P) o) r all.0 all.1 hs are in omega (arith, fits, most))
      (λ leaves. leaves all.0 all.1.are)
      (told_le (amount_held all.0 + usage.claim.amount) quantity)

  abbrev IsThere : OpKey → Name → Usage → Type 0
  IsThere o r usage = (stock : Stock) × (get P.resources r ≡ Some stock) × (stock.available ≡ true) × FitsBeside stock.quantity (Holds P) o r usage

  needs_told : (o : OpKey) (op : Operation) → Told ((r : Name) (usage : Usage) → get op.needs r ≡ Some usage → IsThere o r usage)
  needs_told o op = told_entries op.needs name_cmp_total name_cmp-IsAntisymmetric (IsThere o)
      (λ r usage. told_alike {A = (stock : Stock) × (get P.resources r ≡ Some stock) × ((stock.available ≡ true) × FitsBeside stock.quantity (Holds P) o r usage)}
      (λ h. (h.0, h.1, h.2.0, h.2.1))
      (λ h. (h.0, h.1, (h.2, h.3)))
      (told_at P.resources r (λ stock. (stock.available ≡ true) × FitsBeside stock.quantity (Holds P) o r usage) (λ stock e.
      told_and (told_true stock.available true) (λ _. told_and (shares_told o r usage) (λ _. leaves_told stock.quantity o r usage)))))

  -- ---- all that an operation needs to start

  module _ (acyclic : IsAcyclic P.pairs) where
    may_begin_told : (o : OpKey) (op : Operation) → Told (IsReady P o ⊎ (HasStatus P o status.Interrupted × HasAttribute P op.workstation attribute.StartAndCompletion))
    may_begin_told o op = told_or (ready_told P acyclic o) (told_and (status_told P acyclic o status.Interrupted) (λ _. told_attribute P op.workstation attribute.StartAndCompletion))

    pub may_start_told : (o : OpKey) (op : Operation) (m : ℕ) (line : Refusal) → Told (MayStart P o op m line)
    may_start_told o op m refusal.WrongStatus = may_begin_told o op
    may_start_told o op m refusal.Held = told_true op.held false
    may_start_told o op m refusal.TooEarly = told_le op.not_before m
    may_start_told o op m refusal.Closed = fits_told op m refusal.Closed
    may_start_told o op m refusal.NoServer = fits_told op m refusal.NoServer
    may_start_told o op m refusal.NoFixed = fits_told op m refusal.NoFixed
    may_start_told o op m refusal.ResourceBusy = needs_told o op
    may_start_told o op m line = inl tt

    pub allowed_told : (o : OpKey) (m : ℕ) → Told (IsAllowedToStart P o m)
    allowed_told o m = told_has P o (λ op. (line : Refusal) → MayStart P o op m line) (λ op e. told_refusals (MayStart P o op m) (may_start_told o op m))
