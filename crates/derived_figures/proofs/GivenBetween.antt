-- What workstations have given out, as one operation after another gets another mark.
use Rattle.std.proofs.Common.{◌≡◌, ◌≢◌, refl, sym, ap, subst, ◌∙◌, arith, ℕ, zero, suc, ◌+◌, ◌-◌, ◌<◌, ◌≤◌, Bool, true, false, ◌&&◌, cond, List, ◌++◌, drop, length, slice_get, sum_by, take, All, Option, Some, add-zero}
use Rattle.std.specs.FinMap.{entries, len-entries}
use Rattle.std.specs.Ordering.{eq_by_cmp}
use Rattle.std.proofs.lemmas.List.{append-nil, drop_all, length-append, length-drop, length-take, take_all}
use Rattle.std.proofs.lemmas.List.Elements.{All-append, All-drop, All-from_recursion, All-take}
use Rattle.std.proofs.lemmas.List.Sums.{sum_by-append, sum_by-drop_more, sum_by-le, sum_by_more}
use Rattle.std.proofs.lemmas.Option.{get_or_from_slice_get, slice_get_within}
use Rattle.plan_basics.specs.declared.limits.TheConstants.{MOST_FIXED, MOST_OPERATIONS}
use Rattle.plan_basics.specs.Keys.{Name, name_cmp, operation_cmp, operation_cmp_total, operation_cmp-IsAntisymmetric}
use Rattle.plan_basics.specs.declared.Attr.{Attr}
use Rattle.plan_basics.specs.declared.keys.OpKey.{OpKey}
use Rattle.status_rules.specs.Table.{marked_status}
use Rattle.plan_model.specs.Contents.{Contents, Operation, attribute_at}
use Rattle.plan_model.specs.Holdings.{given_out, holds_server, is_serving, takes}
use Rattle.plan_model.specs.Valid.{IsValid}
use Rattle.start_choice.specs.plan_drafts.proofs.MadeEntries.{each_entry}
use Rattle.plan_model.specs.Moves.{IsRemarked}
use Rattle.workstations.specs.declared.Capacity.{Capacity}
use Rattle.start_choice.specs.Choices.{AreGivenOut}
use Rattle.start_choice.specs.Takings.{IsAtMost, most_given_out, takes_server, with_one_more}
use Rattle.start_choice.proofs.GivenPlaces.{same_at}
use Rattle.start_choice.proofs.GivenSums.{at_another, at_its_own, at_most_or_none, at_none, given_all, given_among, same_capacity, sum_among}
use Rattle.derived_figures.specs.Between.{AreGivenBetween, IsRemarkedPlan, given_between, operations_between, sum_between}
use Rattle.derived_figures.specs.Marked.{with_taking}
use Rattle.derived_figures.proofs.Remarked.{as_many_stations, attribute_same, station_before}

-- with an operation's numbers, or without
with_share : (b : Bool) (c rest : Capacity) (op : Operation) → c.servers ≡ rest.servers + cond b 1 0 → c.r1 ≡ rest.r1 + cond b op.r1 0 → c.r2 ≡ rest.r2 + cond b op.r2 0 → c ≡ cond b (with_one_more rest op) rest
with_share true c rest op s f g = same_capacity c (with_one_more rest op) s f g
with_share false c rest op s f g = same_capacity c rest (s ∙ add-zero rest.servers) (f ∙ add-zero rest.r1) (g ∙ add-zero rest.r2)

-- what rows take of a workstation, by how it reports
abbrev sum_by_attribute : Name → Option Attr → (Operation → ℕ) → List (OpKey × Operation) → ℕ
sum_by_attribute w a number rows = sum_by (λ e. cond (eq_by_cmp name_cmp e.1.workstation w && (takes a && holds_server (marked_status e.1.mark))) (number e.1) 0) rows

abbrev given_by : Name → Option Attr → List (OpKey × Operation) → Capacity
given_by w a rows = record { servers = sum_by_attribute w a (λ op. 1) rows; r1 = sum_by_attribute w a (λ op. op.r1) rows; r2 = sum_by_attribute w a (λ op. op.r2) rows }

module _ (P Q : Contents) (alike : IsRemarkedPlan P Q) where
  -- ---- at one place

  module _ (m : ℕ) where
    abbrev rest_rows : List (OpKey × Operation)
    rest_rows = take m (entries Q.operations) ++ drop (m + 1) (entries P.operations)

    -- what all others on the way take
    abbrev pub given_besides : Name → Capacity
    given_besides w = given_among P rest_rows w

    module _ (o : OpKey) (old : Operation) (was : slice_get (entries P.operations) m ≡ Some (o, old)) (w : Name) where
      sum_before : (number : Operation → ℕ) → sum_between P Q m w number ≡ sum_among P w number rest_rows + cond (is_serving P w old) (number old) 0
      sum_before number =
          let f : OpKey × Operation → ℕ = λ e. cond (is_serving P w e.1) (number e.1) 0 in
          let a = sum_by-append f (take m (entries Q.operations)) (drop m (entries P.operations)) in
          let b = sum_by-append f (take m (entries Q.operations)) (drop (m + 1) (entries P.operations)) in
          let d = sum_by-drop_more f (entries P.operations) m (o, old) (slice_get_within (entries P.operations) m (o, old) was) in
          let e = ap f (get_or_from_slice_get (entries P.operations) m (o, old) (o, old) was) in
          omega (arith, a, b, d, e)

      pub given_before : (b : Bool) → is_serving P w old ≡ b → given_between P Q m w ≡ cond b (with_one_more (given_besides w) old) (given_besides w)
      given_before b is =
          with_share b (given_between P Q m w) (given_besides w) old
          (sum_before (λ op. 1) ∙ ap (λ t. sum_among P w (λ op. 1) rest_rows + cond t 1 0) is)
          (sum_before (λ op. op.r1) ∙ ap (λ t. sum_among P w (λ op. op.r1) rest_rows + cond t old.r1 0) is)
          (sum_before (λ op. op.r2) ∙ ap (λ t. sum_among P w (λ op. op.r2) rest_rows + cond t old.r2 0) is)

    module _ (o : OpKey) (new : Operation) (is_at : slice_get (entries Q.operations) m ≡ Some (o, new)) (w : Name) where
      sum_after : (number : Operation → ℕ) → sum_between P Q (m + 1) w number ≡ sum_among P w number rest_rows + cond (is_serving P w new) (number new) 0
      sum_after number =
          let f : OpKey × Operation → ℕ = λ e. cond (is_serving P w e.1) (number e.1) 0 in
          let a = sum_by-append f (take (m + 1) (entries Q.operations)) (drop (m + 1) (entries P.operations)) in
          let b = sum_by-append f (take m (entries Q.operations)) (drop (m + 1) (entries P.operations)) in
          let d = sum_by_more f (entries Q.operations) m (o, new) (slice_get_within (entries Q.operations) m (o, new) is_at) in
          let e = ap f (get_or_from_slice_get (entries Q.operations) m (o, new) (o, new) is_at) in
          omega (arith, a, b, d, e)

      pub given_after : (b : Bool) → is_serving P w new ≡ b → given_between P Q (m + 1) w ≡ cond b (with_one_more (given_besides w) new) (given_besides w)
      given_after b is =
          with_share b (given_between P Q (m + 1) w) (given_besides w) new
          (sum_after (λ op. 1) ∙ ap (λ t. sum_among P w (λ op. 1) rest_rows + cond t 1 0) is)
          (sum_after (λ op. op.r1) ∙ ap (λ t. sum_among P w (λ op. op.r1) rest_rows + cond t new.r1 0) is)
          (sum_after (λ op. op.r2) ∙ ap (λ t. sum_among P w (λ op. op.r2) rest_rows + cond t new.r2 0) is)

    -- one that is the same in both
    given_alike : (o : OpKey) (op : Operation) → slice_get (entries P.operations) m ≡ Some (o, op) → slice_get (entries Q.operations) m ≡ Some (o, op) → (w : Name) → given_between P Q (m + 1) w ≡ given_between P Q m w
    given_alike o op was is_at w = given_after o op is_at w (is_serving P w op) refl ∙ sym (given_before o op was w (is_serving P w op) refl)

    module _ (o : OpKey) (old new : Operation) (was : slice_get (entries P.operations) m ≡ Some (o, old)) (is_at : slice_get (entries Q.operations) m ≡ Some (o, new)) (remarked : IsRemarked old new) where
      its_workstation : new.workstation ≡ old.workstation
      its_workstation = ap (λ (op : Operation). op.workstation) remarked.rest

      -- at another workstation nothing changes
      pub given_elsewhere : (w : Name) → old.workstation ≢ w → given_between P Q (m + 1) w ≡ given_between P Q m w
      given_elsewhere w apart =
          given_after o new is_at w false (at_another P new w (λ e. apart (sym its_workstation ∙ e)))
          ∙ sym (given_before o old was w false (at_another P old w apart))

      -- where its workstation's operations take nothing, nothing changes anywhere
      pub given_nowhere : takes (attribute_at P old.workstation) ≡ false → (w : Name) → given_between P Q (m + 1) w ≡ given_between P Q m w
      given_nowhere none w =
          given_after o new is_at w false (at_none P new (ap (λ a. takes (attribute_at P a) && holds_server (marked_status new.mark)) its_workstation ∙ ap (λ b. b && holds_server (marked_status new.mark)) none) w)
          ∙ sym (given_before o old was w false (at_none P old (ap (λ b. b && holds_server (marked_status old.mark)) none) w))

      module _ (known : takes (attribute_at P old.workstation) ≡ true) where
        pub taking_before : given_between P Q m old.workstation ≡ with_taking (given_besides old.workstation) old
        taking_before =
            given_before o old was old.workstation (holds_server (marked_status old.mark))
            (at_its_own P old ∙ ap (λ b. b && holds_server (marked_status old.mark)) known)

        pub taking_after : given_between P Q (m + 1) old.workstation ≡ with_taking (given_besides old.workstation) new
        taking_after =
            given_after o new is_at old.workstation (holds_server (marked_status new.mark))
            (subst (λ w. is_serving P w new ≡ takes_server P new) its_workstation (at_its_own P new)
            ∙ ap (λ a. takes (attribute_at P a) && holds_server (marked_status new.mark)) its_workstation
            ∙ ap (λ b. b && holds_server (marked_status new.mark)) known)

    -- ---- how much at most

    module _ (valid_before : IsValid P) (valid_after : IsValid Q) (within : m < length (entries P.operations)) (w : Name) where
      each_at_most : (R : Contents) → IsValid R → (number : Operation → ℕ) → ((op : Operation) → op.r1 ≤ MOST_FIXED → op.r2 ≤ MOST_FIXED → number op ≤ MOST_FIXED)
          → All (λ e. cond (is_serving P w e.1) (number e.1) 0 ≤ MOST_FIXED) (entries R.operations)
      each_at_most R valid number small =
          All-from_recursion (λ (e : OpKey × Operation). cond (is_serving P w e.1) (number e.1) 0 ≤ MOST_FIXED) (entries R.operations)
          (each_entry operation_cmp operation_cmp_total operation_cmp-IsAntisymmetric (λ o op. cond (is_serving P w op) (number op) 0 ≤ MOST_FIXED) R.operations
          (λ o op is. let fixed = (valid.occurrences.each_operation o op is).0.fixed in at_most_or_none (is_serving P w op) (number op) (small op fixed.0 fixed.1)))

      few : length rest_rows ≤ MOST_OPERATIONS
      few =
          let a = length-append (take m (entries Q.operations)) (drop (m + 1) (entries P.operations)) in
          let b = length-take m (entries Q.operations) in
          let d = length-drop (m + 1) (entries P.operations) in
          omega (arith, a, b, d, within, alike.size, len-entries P.operations, valid_before.limits.operations)

      sum_at_most : (number : Operation → ℕ) → ((op : Operation) → op.r1 ≤ MOST_FIXED → op.r2 ≤ MOST_FIXED → number op ≤ MOST_FIXED) → sum_among P w number rest_rows ≤ most_given_out
      sum_at_most number small =
          let f : OpKey × Operation → ℕ = λ e. cond (is_serving P w e.1) (number e.1) 0 in
          let Small : OpKey × Operation → Type 0 = λ e. f e ≤ MOST_FIXED in
          let most = sum_by-le f MOST_FIXED rest_rows
          (All-append Small (take m (entries Q.operations)) (drop (m + 1) (entries P.operations))
          (All-take Small m (entries Q.operations) (each_at_most Q valid_after number small))
          (All-drop Small (m + 1) (entries P.operations) (each_at_most P valid_before number small))) in
          omega (arith, most, few)

      pub besides_at_most : IsAtMost most_given_out (given_besides w)
      besides_at_most = record { servers = sum_at_most (λ op. 1) (λ op f g. omega arith); r1 = sum_at_most (λ op. op.r1) (λ op f g. f); r2 = sum_at_most (λ op. op.r2) (λ op f g. g) }

  -- ---- one place after another

  -- nothing is changed yet
  pub given_first : (given : List Capacity) → AreGivenOut P (entries P.workstations) given → AreGivenBetween P Q 0 given
  given_first given are = same_at (entries P.workstations) given (given_out P) (given_between P Q 0) (λ w. sym (given_all P w)) are

  -- up to a place between which and this one nothing changes
  abbrev pub AreSame : ℕ → ℕ → Type 0
  AreSame m n = (i : ℕ) → m ≤ i → i < n → (o : OpKey) × (op : Operation) × (slice_get (entries P.operations) i ≡ Some (o, op)) × (slice_get (entries Q.operations) i ≡ Some (o, op))

  along : (d m n : ℕ) → n ≡ m + d → AreSame m n → (w : Name) → given_between P Q n w ≡ given_between P Q m w
  along zero m n e same w = ap (λ k. given_between P Q k w) (e ∙ add-zero m)
  along (suc d) m n e same w =
      let k : ℕ = m + d in
      let next : n ≡ k + 1 = omega (arith, e) in
      let row = same k (omega arith) (omega (arith, next)) in
      ap (λ j. given_between P Q j w) next ∙ given_alike k row.0 row.1 row.2 row.3 w
      ∙ along d m k refl (λ i low high. same i low (omega (arith, high, next))) w

  pub given_onward : (m n : ℕ) → m ≤ n → AreSame m n → (given : List Capacity) → AreGivenBetween P Q m given → AreGivenBetween P Q n given
  given_onward m n le same given are =
      same_at (entries P.workstations) given (given_between P Q m) (given_between P Q n) (along (n - m) m n (omega (arith, le)) same) are

  -- past the last place
  pub given_last : (n : ℕ) → length (entries Q.operations) ≤ n → (given : List Capacity) → AreGivenBetween P Q n given → AreGivenOut Q (entries Q.workstations) given
  given_last n past given are = record {
    size = are.size ∙ as_many_stations P Q alike;
    each = λ i w ws x at is. let v = station_before P Q alike i w ws at in are.each i w v.0 x v.1 is ∙ all w;
  }
    where
      rows_all : operations_between P Q n ≡ entries Q.operations
      rows_all =
          ap (λ rows. rows ++ drop n (entries P.operations)) (take_all n (entries Q.operations) past)
          ∙ ap (λ rows. entries Q.operations ++ rows) (drop_all n (entries P.operations) (omega (arith, past, alike.size)))
          ∙ append-nil (entries Q.operations)

      all : (w : Name) → given_between P Q n w ≡ given_out Q w
      all w =
          ap (λ rows. given_among P rows w) rows_all ∙ ap (λ a. given_by w a (entries Q.operations)) (sym (attribute_same P Q alike w)) ∙ sym (given_all Q w)
