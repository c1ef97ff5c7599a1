-- What is told of the records of what is added is what is wrong with them.
use Rattle.std.proofs.Common.{◌≡◌, ◌↔◌, inl, inr, refl, sym, subst, ℕ, List, ◌++◌, length, All, Contains}
use Rattle.std.proofs.lemmas.Option.{slice_get_within}
use Rattle.std.proofs.lemmas.List.Elements.{All-contains, Contains-append_left, Contains-append_right, Contains-append_cases}
use Rattle.plan_basics.proofs.Members.{at_place, place_of}
use Rattle.plan_items.specs.Items.{Fields}
use Rattle.record_faults.specs.declared.faults.Fault.{Fault}
use Rattle.record_faults.specs.declared.faults.Fault.TheVariants as fault
use Rattle.record_faults.specs.declared.faults.RecordFault.{RecordFault}
use Rattle.record_faults.specs.Faults.{IsFault, IsFaultAt, IsFaultOfRecord, IsReturning}
use Rattle.record_faults.specs.Sayings.{Sayings, AreSayings}
use Rattle.record_faults.proofs.Finding.{one_saying}
use Rattle.text_faults.specs.declared.additions.faults.AddedText.{AddedText}
use Rattle.text_faults.specs.declared.additions.faults.AddedFault.{AddedFault}
use Rattle.text_faults.specs.declared.additions.faults.AddedFault.TheVariants as of_added
use Rattle.text_faults.specs.declared.additions.faults.PlacedFault.{PlacedFault}
use Rattle.text_faults.specs.AddedFaults.{IsJudged, IsAdditionFault, IsFaultHere, IsFaultOfAdded, AreToldBelow, IsToldAt, IsAdditionFaultAt}
use Rattle.text_faults.proofs.AdditionFaultLaws.{beside_within}

-- a path that returns isn't judged
never_returning : (added : AddedText) (said : Sayings) (place : ℕ) (f : Fault) → IsReturning said place f → ¬ IsJudged added said place f
never_returning added said place fault.Returns h j = j
never_returning added said place _ h j = h

-- what is beside is a fault
beside_here : (added : AddedText) (records : List Fields) (said : Sayings) (place : ℕ) (k : AddedFault) → IsAdditionFault added said place k → IsFaultHere added records said place k
beside_here added records said place (of_added.OfRecord f) h = absurd h
beside_here added records said place of_added.NotAdded h = h
beside_here added records said place (of_added.AnotherOccurrence n) h = h
beside_here added records said place of_added.Elsewhere h = h

module _ (added : AddedText) (records : List Fields) (said : Sayings) (are : AreSayings records said) where
  -- a fault of the records is one here
  pub fault_here : (place : ℕ) (k : AddedFault) → IsFaultOfAdded added records place k ↔ IsFaultHere added records said place k
  fault_here place k = (λ h. subst (λ z. IsFaultHere added records z place k) (one_saying records h.0 said h.1 are) h.2, λ h. (said, are, h))

  -- a plan's fault that is judged is one of the record
  judged_at : (g : RecordFault) → IsFault records g.place g.fault → IsJudged added said g.place g.fault → IsFaultAt records said g.place g.fault
  judged_at g h j = elim h.2 [
    | inl at ↦ subst (λ z. IsFaultAt records z g.place g.fault) (one_saying records h.0 said h.1 are) at
    | inr all ↦ absurd (never_returning added said g.place g.fault (subst (λ z. IsReturning z g.place g.fault) (one_saying records h.0 said h.1 are) all.1) j)
  ]

  module _
      (found : List RecordFault) (sound : All (λ (f : RecordFault). IsFault records f.place f.fault) found) (complete : (f : RecordFault) → IsFaultOfRecord records f.place f.fault → Contains found f)
      (judged beside : List PlacedFault) (told : AreToldBelow (IsToldAt added said found) (length found) judged) (others : AreToldBelow (IsAdditionFaultAt added said) (length said) beside) where
    from_judged : (f : PlacedFault) → Contains judged f → IsFaultHere added records said f.place f.fault
    from_judged f has =
        let h = (told f).0 has in
        let r = h.2 in
        let g = r.0 in
        let t = r.2 in
        let is = All-contains (λ (z : RecordFault). IsFault records z.place z.fault) found g sound (at_place found h.0 g r.1) in
        let at = judged_at g is t.2 in
        subst (λ p. IsFaultHere added records said p f.fault) (sym t.0) (subst (λ z. IsFaultHere added records said g.place z) (sym t.1) (at, t.2))

    from_beside : (f : PlacedFault) → Contains beside f → IsFaultHere added records said f.place f.fault
    from_beside f has =
        let h = (others f).0 has in
        let r = h.2 in
        beside_here added records said f.place f.fault (subst (λ i. IsAdditionFault added said i f.fault) (sym r.0) r.1)

    to_beside : (f : PlacedFault) → IsAdditionFault added said f.place f.fault → Contains (judged ++ beside) f
    to_beside f h = Contains-append_right judged beside f ((others f).1 (f.place, beside_within added said f.place f.fault h, (refl, h)))

    to_judged : (f : PlacedFault) (g : Fault) → f.fault ≡ of_added.OfRecord g → IsFaultAt records said f.place g → IsJudged added said f.place g → Contains (judged ++ beside) f
    to_judged f g is at j =
        let r : RecordFault = record { place = f.place; fault = g } in
        let there = place_of found r (complete r (said, are, at)) in
        Contains-append_left judged beside f ((told f).1 (there.0, slice_get_within found there.0 r there.1, (r, there.1, (refl, is, j))))

    to_all : (f : PlacedFault) (k : AddedFault) → f.fault ≡ k → IsFaultHere added records said f.place k → Contains (judged ++ beside) f
    to_all f (of_added.OfRecord g) is h = to_judged f g is h.0 h.1
    to_all f of_added.NotAdded is h = to_beside f (subst (IsAdditionFault added said f.place) (sym is) h)
    to_all f (of_added.AnotherOccurrence n) is h = to_beside f (subst (IsAdditionFault added said f.place) (sym is) h)
    to_all f of_added.Elsewhere is h = to_beside f (subst (IsAdditionFault added said f.place) (sym is) h)

    pub all_here : (f : PlacedFault) → Contains (judged ++ beside) f ↔ IsFaultHere added records said f.place f.fault
    all_here f = (
      λ has. elim (Contains-append_cases judged beside f has) [ inl first ↦ from_judged f first | inr later ↦ from_beside f later ],
      λ h. to_all f f.fault refl h,
    )
