-- How much of one special resource its holders hold together.
use Rattle.std.proofs.Common.{◌≡◌, ◌≢◌, ◌↔◌, refl, sym, ap, ◌∙◌, arith, ℕ, ◌+◌, ◌<◌, ◌≤◌, List, [], ◌∷◌, All, Contains, length, map, take, get_or, Some}
use Rattle.std.specs.FinMap.{get}
use Rattle.std.specs.List.{AllPairs, sum_by}
use Rattle.std.proofs.Math.ListN.{get_or-map}
use Rattle.std.proofs.lemmas.List.{length-map, take_all}
use Rattle.std.proofs.lemmas.List.Elements.{All-map, Contains-get_or}
use Rattle.std.proofs.lemmas.List.Sums.{sum_by-cons, sum_by-take-le, sum_by_more}
use Rattle.plan_basics.proofs.Members.{contains_mapped}
use Rattle.plan_basics.specs.Keys.{Name}
use Rattle.plan_basics.specs.declared.keys.OpKey.{OpKey}
use Rattle.special_resources.proofs.Amounts.{AreAllHolders, holding_apart, same_operation, some_of_all}
use Rattle.special_resources.specs.Holders.{HoldNoMoreThan, HoldsAmount, amount_held}
use Rattle.special_resources.specs.Holdings.{AreInOrder, Held, holding_of}
use Rattle.special_resources.specs.declared.Mode.TheVariants.{Shared}
use Rattle.special_resources.specs.declared.holders.Holder.{Holder}
use Rattle.plan_rows.specs.start_choice.specs.Choices.{AreHeldIn}
use Rattle.plan_model.specs.Contents.{Contents}
use Rattle.plan_model.specs.Holdings.{Holds}
use Rattle.plan_opening.proofs.OneResource.{holder, told}

-- who holds, and how much
abbrev held_amount : Holder → OpKey × ℕ
held_amount h = (h.operation, h.claim.amount)

-- how much they hold
abbrev pub held_of : List Holder → ℕ
held_of items = sum_by (λ h. h.claim.amount) items

-- of the first of them, and one more
pub held_more : (items : List Holder) (i : ℕ) (d : Holder) → i < length items → held_of (take (i + 1) items) ≡ held_of (take i items) + (get_or items i d).claim.amount
held_more = sum_by_more (λ h. h.claim.amount)

pub held_most : (items : List Holder) (i : ℕ) → held_of (take i items) ≤ held_of items
held_most = sum_by-take-le (λ h. h.claim.amount)

pub held_all : (items : List Holder) (i : ℕ) → length items ≤ i → held_of (take i items) ≡ held_of items
held_all items i past = ap held_of (take_all i items past)

amounts : (items : List Holder) → amount_held (map held_amount items) ≡ held_of items
amounts [] = refl
amounts (h ∷ items) =
    sum_by-cons (λ (x : OpKey × ℕ). x.1) (held_amount h) (map held_amount items)
    ∙ ap (λ n. h.claim.amount + n) (amounts items)
    ∙ sym (sum_by-cons (λ (x : Holder). x.claim.amount) h items)

module _ (P : Contents) (held : Held) (are : AreHeldIn P held) (r : Name) (items : List Holder) (sorted : AreInOrder items)
    (members : (h : Holder) → Contains items h ↔ ((h.resource ≡ r) × (get held (holding_of h) ≡ Some h.claim))) where
  once : AllPairs (λ a b. a.0 ≢ b.0) (map held_amount items)
  once i j d lt within same =
      let x : Holder = record { resource = r; operation = d.0; claim = record { mode = Shared; amount = d.1 } } in
      holding_apart items sorted r (λ h has. ((members h).0 has).0) i j x lt (omega (arith, within, length-map items held_amount))
      (ap (λ (z : OpKey × ℕ). z.0) (sym (get_or-map held_amount items i x)) ∙ same ∙ ap (λ (z : OpKey × ℕ). z.0) (get_or-map held_amount items j x))

  hold : All (λ h. HoldsAmount (Holds P) h.0 r h.1) (map held_amount items)
  hold = All-map (λ h. HoldsAmount (Holds P) h.0 r h.1) held_amount items (λ k d lt.
      let h = get_or items k d in
      let it = told P held are r items members h (Contains-get_or items k d lt) in
      (record { claim = h.claim; keep = it.1.0 }, it.1.1, refl))

  -- these are all that hold it
  all : AreAllHolders same_operation (Holds P) r (map held_amount items)
  all = record {
    are = record { once = once; hold = hold };
    all = λ o usage holds. contains_mapped held_amount items (record { resource = r; operation = o; claim = usage.claim }) (holder P held are r items members o usage holds);
  }

  -- they hold no more than the quantity where their amounts are no more together
  pub within_by : (quantity : ℕ) → held_of items ≤ quantity → HoldNoMoreThan quantity (Holds P) r
  within_by quantity few some are_some = omega (arith, few, amounts items, some_of_all same_operation (Holds P) r (map held_amount items) all some are_some)

  pub by_within : (quantity : ℕ) → HoldNoMoreThan quantity (Holds P) r → held_of items ≤ quantity
  by_within quantity within = omega (arith, within (map held_amount items) all.are, amounts items)
