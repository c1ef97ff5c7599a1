-- What is given out and held, once the operation at one more place has its other mark.
use Rattle.std.proofs.Common.{◌≡◌, refl, sym, subst, ◌∙◌, arith, ℕ, ◌+◌, ◌<◌, true, false, List, length, set, slice_get, Some}
use Rattle.std.specs.FinMap.{entries, get}
use Rattle.std.proofs.lemmas.Option.{same_Some, slice_get_within}
use Rattle.plan_basics.specs.Keys.{name_cmp, operation_cmp, operation_cmp_total}
use Rattle.plan_basics.specs.declared.keys.OpKey.{OpKey}
use Rattle.special_resources.specs.Holdings.{Held}
use Rattle.plan_model.proofs.Entries.{entries_in_order}
use Rattle.plan_model.specs.Contents.{Contents, Operation, attribute_at}
use Rattle.plan_model.specs.Holdings.{takes}
use Rattle.plan_model.specs.Valid.{IsValid}
use Rattle.plan_model.specs.Moves.{IsRemarked}
use Rattle.start_choice.specs.plan_status.proofs.Ascending.{one_place}
use Rattle.start_choice.specs.plan_status.proofs.LoadedRows.{row_found}
use Rattle.workstations.specs.Workstations.{Workstation}
use Rattle.workstations.specs.declared.Capacity.{Capacity}
use Rattle.start_choice.specs.Takings.{IsAtMost, most_given_out}
use Rattle.start_choice.proofs.GivenPlaces.{AreAt, changed_at, same_at}
use Rattle.derived_figures.specs.Between.{AreGivenBetween, AreHeldBetween, HoldsJust, IsRemarkedPlan, given_between}
use Rattle.derived_figures.specs.Marked.{HaveRetaken, with_taking}
use Rattle.derived_figures.proofs.GivenBetween.{besides_at_most, given_besides, given_elsewhere, given_nowhere, taking_after, taking_before}
use Rattle.derived_figures.proofs.HeldBetween.{held_anew, held_past, none_held}

module _ (P Q : Contents) (alike : IsRemarkedPlan P Q) (m : ℕ) (before after : OpKey × Operation)
    (was : slice_get (entries P.operations) m ≡ Some before) (is : slice_get (entries Q.operations) m ≡ Some after) where
  abbrev o : OpKey
  o = after.0

  abbrev old : Operation
  old = before.1

  abbrev new : Operation
  new = after.1

  -- it is the same operation in both
  same_before : ◌≡◌ {A = OpKey × Operation} (o, (alike.rows m o new is).before) before
  same_before = same_Some (o, (alike.rows m o new is).before) before (sym (alike.rows m o new is).row ∙ was)

  pub remarked : IsRemarked old new
  remarked = subst (λ (row : OpKey × Operation). IsRemarked row.1 new) same_before (alike.rows m o new is).remarked

  was_its : slice_get (entries P.operations) m ≡ Some (o, old)
  was_its = subst (λ (row : OpKey × Operation). slice_get (entries P.operations) m ≡ Some (o, row.1)) same_before (alike.rows m o new is).row

  pub found_before : get P.operations o ≡ Some old
  found_before = row_found P m o old was_its

  pub found_after : get Q.operations o ≡ Some new
  found_after = row_found Q m o new is

  holding_before : (held : Held) → AreHeldBetween P Q m held → HoldsJust P o held
  holding_before held so_far = so_far.others o (λ i op at.
      let here : i ≡ m = one_place operation_cmp_total (entries Q.operations) (entries_in_order operation_cmp Q.operations) i m o op new at is in omega (arith, here))

  -- where its workstation's operations take nothing
  module _ (none : takes (attribute_at P old.workstation) ≡ false) where
    pub given_stays : (given : List Capacity) → AreGivenBetween P Q m given → AreGivenBetween P Q (m + 1) given
    given_stays given are =
        same_at (entries P.workstations) given (given_between P Q m) (given_between P Q (m + 1)) (given_nowhere P Q alike m o old new was_its is remarked none) are

    pub held_stays : (held : Held) → AreHeldBetween P Q m held → AreHeldBetween P Q (m + 1) held
    held_stays held so_far =
        held_past P Q alike m o new is held held (λ p r differs. refl)
        (none_held P Q alike o old new found_before found_after remarked none held (holding_before held so_far)) so_far

  -- where they take what their marks say
  module _ (known : takes (attribute_at P old.workstation) ≡ true) where
    pub given_moves : IsValid P → IsValid Q → (given : List Capacity) → AreGivenBetween P Q m given
        → (place : ℕ) (ws : Workstation) → slice_get (entries P.workstations) place ≡ Some (old.workstation, ws) → (taken : Capacity) → slice_get given place ≡ Some taken
        → (anew : Capacity) → ((rest : Capacity) → IsAtMost most_given_out rest → taken ≡ with_taking rest old → anew ≡ with_taking rest new) → AreGivenBetween P Q (m + 1) (set given place anew)
    given_moves valid_before valid_after given are place ws at taken there anew told =
        let rest = given_besides P Q alike m old.workstation in
        let within : m < length (entries P.operations) = slice_get_within (entries P.operations) m before was in
        let now : anew ≡ given_between P Q (m + 1) old.workstation =
        told rest (besides_at_most P Q alike m valid_before valid_after within old.workstation)
        (are.each place old.workstation ws taken at there ∙ taking_before P Q alike m o old new was_its is remarked known)
        ∙ sym (taking_after P Q alike m o old new was_its is remarked known) in
        subst (λ c. AreAt (entries P.workstations) (set given place c) (given_between P Q (m + 1))) (sym now)
        (changed_at (entries P.workstations) (entries_in_order name_cmp P.workstations) place old.workstation ws at given (given_between P Q m) (given_between P Q (m + 1))
        (given_elsewhere P Q alike m o old new was_its is remarked) are)

    pub held_moves : (held now : Held) → AreHeldBetween P Q m held → HaveRetaken held o new.needs new.mark now → AreHeldBetween P Q (m + 1) now
    held_moves held now so_far retaken =
        held_past P Q alike m o new is held now (λ p r differs. retaken.2.others p r differs ∙ retaken.1.others p r differs)
        (held_anew P Q alike o old new found_before found_after remarked known held now (holding_before held so_far) retaken) so_far
