-- Paths that return, as they are told of records and of a text.
use Rattle.std.proofs.Common.{◌≡◌, ◌↔◌, ◌⊎◌, inl, inr, sym, ap, subst, ◌∙◌, ℕ, List, [], ◌∷◌, ◌++◌, Contains, Option, Some, None, MatchOption}
use Rattle.std.proofs.lemmas.List.Elements.{Contains-append_cases, Contains-append_left, Contains-append_right}
use Rattle.std.proofs.lemmas.Option.{same_Some}
use Rattle.plan_basics.proofs.Members.{contains_cases, contains_head, contains_none}
use Rattle.plan_drafts.specs.plan_model.specs.Contents.{Contents}
use Rattle.plan_import.specs.TextRecords.{AreRecordsOf}
use Rattle.plan_items.specs.Items.{Fields}
use Rattle.record_faults.specs.Sayings.{Sayings, AreSayings}
use Rattle.record_faults.specs.declared.circles.Circle.{Circle}
use Rattle.record_faults.specs.declared.faults.Fault.TheVariants as fault
use Rattle.record_faults.specs.declared.faults.RecordFault.{RecordFault}
use Rattle.extension_faults.specs.Whole.{ClosesBeside, ClosesIn, ClosesInText, IsReturnTold, NoneReturnsBeside, NoneReturnsIn, NoneReturnsInText}

-- what is found by what the records say is found of them
pub found_in : (P : Contents) (records : List Fields) (said read : Sayings) (found : Option Circle) → AreSayings records said → read ≡ said → MatchOption found (NoneReturnsBeside P read) (λ (c : Circle). ClosesBeside P read c.place c.first c.way.items)
    → MatchOption found (NoneReturnsIn P records) (λ (c : Circle). ClosesIn P records c.place c.first c.way.items)
found_in P records said read None are same none = (said, are, subst (NoneReturnsBeside P) same none)
found_in P records said read (Some c) are same is = (said, are, subst (λ z. ClosesBeside P z c.place c.first c.way.items) same is)

-- and so of a text
pub found_in_text : (P : Contents) (text : List ℕ) (records : List Fields) (found : Option Circle) → AreRecordsOf text records → MatchOption found (NoneReturnsIn P records) (λ (c : Circle). ClosesIn P records c.place c.first c.way.items)
    → MatchOption found (NoneReturnsInText P text) (λ (c : Circle). ClosesInText P text c.place c.first c.way.items)
found_in_text P text records None read none = (records, read, none)
found_in_text P text records (Some c) read is = (records, read, is)

-- the fault of the record that closes the path is told, and nothing else
pub one_return : (circle : Option Circle) (c : Circle) → circle ≡ Some c → (faults : List RecordFault) → faults ≡ record { place = c.place; fault = fault.Returns } ∷ [] → (f : RecordFault) → Contains faults f ↔ IsReturnTold circle f
one_return circle c is faults same f = (
  λ has. elim (contains_cases r [] f (subst (λ xs. Contains xs f) same has)) [
    | inl e ↦ (c, is, sym (ap (λ (x : RecordFault). x.place) e), sym (ap (λ (x : RecordFault). x.fault) e))
    | inr none ↦ absurd (contains_none f none)
  ],
  λ h.
      let one : h.0 ≡ c = same_Some h.0 c (sym h.1 ∙ is) in
      let place : r.place ≡ f.place = sym (h.2 ∙ ap (λ (x : Circle). x.place) one) in
      let what : r.fault ≡ f.fault = sym h.3 in
      let e : r ≡ f = λ i. record { place = place i; fault = what i } in
      subst (λ xs. Contains xs f) (sym same) (subst (Contains (r ∷ [])) e (contains_head r [])),
)
  where
    r : RecordFault
    r = record { place = c.place; fault = fault.Returns }

-- what is told after other faults
pub both_told : {X : Type 0} (old more new : List RecordFault) (f : RecordFault) → new ≡ old ++ more → (Contains more f ↔ X) → Contains new f ↔ (Contains old f ⊎ X)
both_told old more new f same is = (
  λ has. elim (Contains-append_cases old more f (subst (λ xs. Contains xs f) same has)) [ inl before ↦ inl before | inr later ↦ inr (is.0 later) ],
  elim [
    | inl before ↦ subst (λ xs. Contains xs f) (sym same) (Contains-append_left old more f before)
    | inr x ↦ subst (λ xs. Contains xs f) (sym same) (Contains-append_right old more f (is.1 x))
  ],
)
