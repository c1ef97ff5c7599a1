-- What is told of a need of more than there is of its resource.
use Rattle.std.proofs.Common.{◌≡◌, sym, ap, subst, ◌∙◌, arith, ℕ, ◌<◌, ◌≤◌, get_or, length, Option, Some, None, option_map}
use Rattle.std.specs.BTreeMap.{BTreeMap}
use Rattle.std.specs.Prelude.{MatchOption}
use Rattle.std.proofs.lemmas.List.{length-map}
use Rattle.std.proofs.lemmas.Option.{get_or_from_slice_get, none-some, same_Some, slice_get-get_or, slice_get_within}
use Rattle.plan_basics.specs.Keys.{Name}
use Rattle.plan_basics.specs.declared.keys.OpKey.{OpKey}
use Rattle.special_resources.specs.declared.Need.{Need}
use Rattle.plan_model.specs.declared.Stock.{Stock}
use Rattle.plan_drafts.specs.Records.{key_of}
use Rattle.plan_items.specs.declared.Item.{Item}
use Rattle.plan_drafts.specs.declared.RowKey.{RowKey}
use Rattle.plan_drafts.specs.declared.RowKey.TheVariants as key
use Rattle.record_faults.specs.declared.faults.Fault.{Fault}
use Rattle.record_faults.specs.declared.faults.Fault.TheVariants as fault
use Rattle.record_faults.specs.Sayings.{Sayings, given, place_in, IsGiven, IsFirst, IsIndex, IsNowhere}
use Rattle.record_faults.specs.Faults.{need_said, resource_said, IsBeyondStock, IsAnswer}
use Rattle.record_faults.proofs.Telling.{one_first}

-- what is read at a place
pub read_at : (said : Sayings) (i : ℕ) (d : Option Item) → i < length said → get_or said i None ≡ get_or said i d
read_at said i d lt = get_or_from_slice_get said i (get_or said i d) None (slice_get-get_or said i d lt)

-- what an index shows of a key
pub nowhere_by : (said : Sayings) (index : BTreeMap RowKey ℕ) → IsIndex (given said) index → (k : RowKey) → place_in index k ≡ None → IsNowhere (given said) k
nowhere_by said index is k e = subst (λ o. MatchOption o (IsNowhere (given said) k) (IsFirst (given said) k)) e (is k)

pub first_by : (said : Sayings) (index : BTreeMap RowKey ℕ) → IsIndex (given said) index → (k : RowKey) (first : ℕ) → place_in index k ≡ Some first → IsFirst (given said) k first
first_by said index is k first e = subst (λ o. MatchOption o (IsNowhere (given said) k) (IsFirst (given said) k)) e (is k)

-- a place that an index has for a key is one of the sayings
pub first_within : (said : Sayings) (index : BTreeMap RowKey ℕ) → IsIndex (given said) index → (k : RowKey) (first : ℕ) → place_in index k ≡ Some first → first < length said
first_within said index is k first e =
    let within = slice_get_within (given said) first _ (first_by said index is k first e).here in
    omega (arith, within, length-map said (λ o. option_map key_of o))

module _ (said : Sayings) (place : ℕ) where
  pub no_need : need_said (get_or said place None) ≡ None → IsAnswer (IsBeyondStock said place) None
  no_need e (fault.BeyondStock other) h = none-some h.0 (sym e ∙ h.2)
  no_need e _ h = h

  module _ (y : OpKey × Need) (here : need_said (get_or said place None) ≡ Some y) where
    same_need : (x : OpKey × Need) → need_said (get_or said place None) ≡ Some x → x ≡ y
    same_need x e = same_Some x y (sym e ∙ here)

    pub no_resource : IsNowhere (given said) (key.Resource y.1.name) → IsAnswer (IsBeyondStock said place) None
    no_resource nowhere (fault.BeyondStock other) h = nowhere other (subst (λ (x : OpKey × Need). IsGiven (given said) (key.Resource x.1.name) other) (same_need h.0 h.2) h.3.here)
    no_resource nowhere _ h = h

    module _ (first : ℕ) (is : IsFirst (given said) (key.Resource y.1.name) first) where
      the_first : (x : OpKey × Need) (other : ℕ) → need_said (get_or said place None) ≡ Some x → IsFirst (given said) (key.Resource x.1.name) other → other ≡ first
      the_first x other e at = one_first said place (key.Resource y.1.name) other first (subst (λ (z : OpKey × Need). IsFirst (given said) (key.Resource z.1.name) other) (same_need x e) at) is

      pub says_none : resource_said (get_or said first None) ≡ None → IsAnswer (IsBeyondStock said place) None
      says_none e (fault.BeyondStock other) h = none-some h.1 (sym e ∙ subst (λ i. resource_said (get_or said i None) ≡ Some h.1) (the_first h.0 other h.2 h.3) h.4)
      says_none e _ h = h

      module _ (z : Name × Stock) (there : resource_said (get_or said first None) ≡ Some z) where
        pub within_stock : y.1.amount ≤ z.1.quantity → IsAnswer (IsBeyondStock said place) None
        within_stock le (fault.BeyondStock other) h =
            let one = same_need h.0 h.2 in
            let two : h.1 ≡ z = same_Some h.1 z (sym (subst (λ i. resource_said (get_or said i None) ≡ Some h.1) (the_first h.0 other h.2 h.3) h.4) ∙ there) in
            let more = h.5 in
            let amounts = ap (λ (x : OpKey × Need). x.1.amount) one in
            let quantities = ap (λ (x : Name × Stock). x.1.quantity) two in
            omega (arith, le, more, amounts, quantities)
        within_stock le _ h = h

        pub beyond : z.1.quantity < y.1.amount → IsAnswer (IsBeyondStock said place) (Some (fault.BeyondStock first))
        beyond more = ((y, z, here, is, there, more), one)
          where
            one : (g : Fault) → IsBeyondStock said place g → g ≡ fault.BeyondStock first
            one (fault.BeyondStock other) h = ap (λ i. fault.BeyondStock i) (the_first h.0 other h.2 h.3)
            one _ h = absurd h
