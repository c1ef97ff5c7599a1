-- What workstations have given out, as one row of loaded contents after another is gone through.
use Rattle.std.specs.FinMap.{entries}
use Rattle.std.proofs.Common.{◌≡◌, sym, ap, subst, ◌∙◌, arith, ℕ, ◌+◌, true, false, List, set, slice_get, take, Some}
use Rattle.plan_basics.specs.Keys.{Name, name_cmp}
use Rattle.plan_basics.specs.declared.keys.OpKey.{OpKey}
use Rattle.plan_model.proofs.Entries.{entries_in_order}
use Rattle.plan_model.specs.Holdings.{given_out}
use Rattle.plan_model.specs.Contents.{Contents, Operation}
use Rattle.plan_model.specs.Valid.{IsValid}
use Rattle.workstations.specs.Workstations.{Workstation}
use Rattle.workstations.specs.declared.Capacity.{Capacity}
use Rattle.start_choice.specs.Choices.{AreGivenOut}
use Rattle.start_choice.specs.Takings.{IsAtMost, most_given_out, takes_server, with_one_more}
use Rattle.start_choice.proofs.GivenPlaces.{AreAt, more_at, same_at}
use Rattle.start_choice.proofs.GivenSums.{at_another, at_its_own, at_none, first_at_most, given_all, given_among, given_at_most, row_gives, row_gives_none}

-- what the first rows' operations take
abbrev pub given_before : Contents → ℕ → Name → Capacity
given_before c i = given_among c (take i (entries c.operations))

module _ (c : Contents) (h : IsValid c) where
  abbrev P : Contents
  P = c

  abbrev rows : List (OpKey × Operation)
  rows = (entries c.operations)

  pub before_at_most : (i : ℕ) (w : Name) → IsAtMost most_given_out (given_before c i w)
  before_at_most i w =
      first_at_most P rows i w most_given_out (subst (IsAtMost most_given_out) (given_all P w)
      (given_at_most P h.limits.operations w (λ o op is. let fixed = (h.occurrences.each_operation o op is).0.fixed in (omega (arith, fixed.0), omega (arith, fixed.1)))))

  module _ (i : ℕ) (o : OpKey) (op : Operation) (row : slice_get (entries c.operations) i ≡ Some (o, op)) (given : List Capacity) (so_far : AreAt (entries c.workstations) given (given_before c i)) where
    -- the operation takes nothing
    pub row_passed : takes_server c op ≡ false → AreAt (entries c.workstations) given (given_before c (i + 1))
    row_passed none = same_at (entries c.workstations) given (given_before c i) (given_before c (i + 1)) (λ w. row_gives_none P rows i o op row w (at_none P op none w)) so_far

    -- it takes of its workstation
    pub row_counted : takes_server c op ≡ true → (place : ℕ) (ws : Workstation) → slice_get (entries c.workstations) place ≡ Some (op.workstation, ws)
        → (was : Capacity) → slice_get given place ≡ Some was → AreAt (entries c.workstations) (set given place (with_one_more was op)) (given_before c (i + 1))
    row_counted some place ws at was there =
        more_at (entries c.workstations) (entries_in_order name_cmp c.workstations) place op.workstation ws at op given (given_before c i) (given_before c (i + 1))
        (row_gives P rows i o op row op.workstation (at_its_own P op ∙ some))
        (λ w apart. row_gives_none P rows i o op row w (at_another P op w apart)) was there so_far

  -- past the last row
  pub rows_counted : (n : ℕ) (given : List Capacity) → take n (entries c.operations) ≡ (entries c.operations) → AreAt (entries c.workstations) given (given_before c n)
      → AreGivenOut c (entries c.workstations) given
  rows_counted n given all so_far =
      same_at (entries c.workstations) given (given_before c n) (given_out c)
      (λ w. given_all c w ∙ ap (λ taken. given_among P taken w) (sym all)) so_far
