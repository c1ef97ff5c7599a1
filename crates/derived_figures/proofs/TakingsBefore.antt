-- What is given out and held, where the operation at a place had another marking before.
use Rattle.std.proofs.Common.{◌≡◌, sym, ap, ◌∙◌, ℕ, ◌+◌, true, false, List, set, slice_get, Some}
use Rattle.std.specs.FinMap.{entries}
use Rattle.plan_basics.specs.declared.keys.OpKey.{OpKey}
use Rattle.special_resources.specs.Holdings.{Held}
use Rattle.plan_model.specs.Contents.{Contents, Operation, attribute_at}
use Rattle.plan_model.specs.Holdings.{takes}
use Rattle.plan_model.specs.Valid.{IsValid}
use Rattle.plan_model.specs.Markings.{marking_of, with_marking}
use Rattle.plan_model.specs.Moves.{IsRemarked}
use Rattle.plan_model.specs.declared.moves.Marking.{Marking}
use Rattle.workstations.specs.Workstations.{Workstation}
use Rattle.workstations.specs.declared.Capacity.{Capacity}
use Rattle.start_choice.specs.Takings.{IsAtMost, most_given_out}
use Rattle.derived_figures.specs.TakingsBefore.{IsBeforeAt}
use Rattle.derived_figures.specs.Between.{AreGivenBetween, AreHeldBetween}
use Rattle.derived_figures.specs.Marked.{HaveRetaken, with_taking}
use Rattle.derived_figures.proofs.HeldBetween.{known_in_both}
use Rattle.derived_figures.proofs.OnePlace.{found_after, found_before, given_moves, given_stays, held_moves, held_stays, remarked}
use Rattle.derived_figures.proofs.Remarked.{station_before}

-- with the marking that an operation had it is what it was
put_back : (old new : Operation) (m : Marking) → IsRemarked old new → marking_of old ≡ m → with_marking m new ≡ old
put_back old new m remarked marking = ap (λ z. with_marking z new) (sym marking) ∙ ap (with_marking (marking_of old)) remarked.rest

module _ (P Q : Contents) (i : ℕ) (m : Marking) (given : List Capacity) (held : Held) (from : IsBeforeAt P Q i m given held)
    (after : OpKey × Operation) (is : slice_get (entries Q.operations) i ≡ Some after) where
  abbrev before : OpKey × Operation
  before = (from.marked.key, from.marked.operation)

  abbrev old : Operation
  old = from.marked.operation

  abbrev new : Operation
  new = after.1

  was_remarked : IsRemarked old new
  was_remarked = remarked P Q from.remarked i before after from.marked.row is

  old_again : with_marking m new ≡ old
  old_again = put_back old new m was_remarked from.marked.marking

  its_workstation : new.workstation ≡ old.workstation
  its_workstation = ap (λ (op : Operation). op.workstation) was_remarked.rest

  known_alike : takes (attribute_at Q new.workstation) ≡ takes (attribute_at P old.workstation)
  known_alike =
      known_in_both P Q from.remarked after.0 old new (found_before P Q from.remarked i before after from.marked.row is)
      (found_after P Q from.remarked i before after from.marked.row is) was_remarked

  -- where its workstation's operations take nothing
  module _ (none : takes (attribute_at Q new.workstation) ≡ false) where
    pub given_still : AreGivenBetween P Q (i + 1) given
    given_still = given_stays P Q from.remarked i before after from.marked.row is (sym known_alike ∙ none) given from.are_given

    pub held_still : AreHeldBetween P Q (i + 1) held
    held_still = held_stays P Q from.remarked i before after from.marked.row is (sym known_alike ∙ none) held from.are_held

  -- where they take what their marks say
  module _ (known : takes (attribute_at Q new.workstation) ≡ true) where
    pub given_anew_there : IsValid Q → (place : ℕ) (ws : Workstation) → slice_get (entries Q.workstations) place ≡ Some (new.workstation, ws) → (taken : Capacity) → slice_get given place ≡ Some taken
        → (anew : Capacity) → ((rest : Capacity) → IsAtMost most_given_out rest → taken ≡ with_taking rest (with_marking m new) → anew ≡ with_taking rest new) → AreGivenBetween P Q (i + 1) (set given place anew)
    given_anew_there valid place ws at taken there anew told =
        let station = station_before P Q from.remarked place new.workstation ws at in
        given_moves P Q from.remarked i before after from.marked.row is (sym known_alike ∙ known) from.valid valid given from.are_given place station.0
        (station.1 ∙ ap (λ w. Some (w, station.0)) its_workstation) taken there anew
        (λ rest small e. told rest small (e ∙ ap (with_taking rest) (sym old_again)))

    pub held_anew_there : (now : Held) → HaveRetaken held after.0 new.needs new.mark now → AreHeldBetween P Q (i + 1) now
    held_anew_there now retaken = held_moves P Q from.remarked i before after from.marked.row is (sym known_alike ∙ known) held now from.are_held retaken
