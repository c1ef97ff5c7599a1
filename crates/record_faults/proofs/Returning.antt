-- Records of which none has a fault, and that denote no plan: a path of their dependencies returns.
use Rattle.std.proofs.Common.{◌≡◌, ◌↔◌, inl, inr, sym, subst, ◌∙◌, arith, ℕ, List, [], All, Contains, Option, Some, None, MatchOption}
use Rattle.std.proofs.lemmas.List.Elements.{All-contains}
use Rattle.plan_basics.specs.declared.keys.OpKey.{OpKey}
use Rattle.plan_items.specs.Items.{Fields}
use Rattle.record_faults.specs.declared.faults.Fault.{Fault}
use Rattle.record_faults.specs.declared.faults.Fault.TheVariants as fault
use Rattle.record_faults.specs.declared.readings.Reading.{Reading}
use Rattle.record_faults.specs.Readings.{IsReadingOf}
use Rattle.record_faults.specs.Sayings.{PlacedKeys, IsIndex, Sayings, AreSayings, given}
use Rattle.record_faults.specs.declared.circles.Circle.{Circle}
use Rattle.record_faults.specs.Circles.{IsCircle, NoCircle}
use Rattle.record_faults.specs.Faults.{IsFaultAt, IsFault, IsReturning, IsCircleOf, NoCircleIn, DenoteSome}
use Rattle.record_faults.specs.declared.faults.RecordFault.{RecordFault}
use Rattle.record_faults.proofs.Denoted.{say_denoted}
use Rattle.record_faults.proofs.Finding.{one_saying}
use Rattle.record_faults.proofs.Whole.{whole}

module _ (records : List Fields) (r : Reading) (is : IsReadingOf records r) (keys : PlacedKeys) (same : keys ≡ r.keys.items) where
  pub known_index : IsIndex keys r.index
  known_index = subst (λ ks. IsIndex ks r.index) (sym (same ∙ is.keys)) is.index

  -- what closes a path is the fault
  pub returns_there : (place : ℕ) (first : OpKey) (way : List OpKey) → IsCircle keys place first way → IsReturning r.said.items place fault.Returns
  returns_there place first way circle = (first, way, subst (λ ks. IsCircle ks place first way) (same ∙ is.keys) circle)

  -- and there is such a path
  pub some_returns : ((place : ℕ) (f : Fault) → ¬ IsFaultAt records r.said.items place f) → ¬ DenoteSome records → ¬ NoCircle keys
  some_returns faultless no_plan none = no_plan ((say_denoted records r.said.items is.said).0 (whole records r.said.items is.said faultless (subst NoCircle (same ∙ is.keys) none)))

-- no record has that fault by itself
not_at : (records : List Fields) (said : Sayings) (place : ℕ) → ¬ IsFaultAt records said place fault.Returns
not_at records said place (inl (inl h)) = h
not_at records said place (inl (inr (inl h))) = h
not_at records said place (inl (inr (inr (inl h)))) = h
not_at records said place (inl (inr (inr (inr (inl h))))) = h
not_at records said place (inl (inr (inr (inr (inr (inl h)))))) = h
not_at records said place (inl (inr (inr (inr (inr (inr (inl h))))))) = h
not_at records said place (inl (inr (inr (inr (inr (inr (inr (inl h)))))))) = h
not_at records said place (inl (inr (inr (inr (inr (inr (inr (inr h)))))))) = h
not_at records said place (inr (inl h)) = h
not_at records said place (inr (inr h)) = h

-- where the faults of records tell that a path returns, one does
pub circle_there : (records : List Fields) (faults : List RecordFault) → All (λ (f : RecordFault). IsFault records f.place f.fault) faults → ((faults ≡ []) ↔ DenoteSome records) → (f : RecordFault) → Contains faults f → f.fault ≡ fault.Returns → ¬ NoCircleIn records
circle_there records faults sound none f there returns no_circle =
    let is : IsFault records f.place fault.Returns = subst (λ z. IsFault records f.place z) returns (All-contains (λ (g : RecordFault). IsFault records g.place g.fault) faults f sound there) in
    elim is.2 [
      | inl h ↦ not_at records is.0 f.place h
      | inr all ↦
          let same = one_saying records no_circle.0 is.0 no_circle.1 is.1 in
          let some = (say_denoted records is.0 is.1).0 (whole records is.0 is.1 all.0 (subst (λ z. NoCircle (given z)) same no_circle.2)) in
          let nowhere : Contains [] f = subst (λ (fs : List RecordFault). Contains fs f) (none.1 some) there in
          omega (arith, nowhere.1)
    ]

-- what is found by the keys that records give is found of the records
pub circle_found : (records : List Fields) (said : Sayings) (keys : PlacedKeys) (found : Option Circle) → AreSayings records said → keys ≡ given said → MatchOption found (NoCircle keys) (λ (c : Circle). IsCircle keys c.place c.first c.way.items) → MatchOption found (NoCircleIn records) (λ (c : Circle). IsCircleOf records c.place c.first c.way.items)
circle_found records said keys None are same none = (said, are, subst NoCircle same none)
circle_found records said keys (Some c) are same is = (said, are, subst (λ ks. IsCircle ks c.place c.first c.way.items) same is)
