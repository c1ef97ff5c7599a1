-- Intervals in order of time begin one after the other.
use Rattle.std.proofs.Common.{◌≡◌, sym, arith, ℕ, suc, ◌<◌, ◌≤◌, List, [], ◌∷◌, map, All}
use Rattle.std.specs.Prelude.{AllPairs}
use Rattle.std.specs.Cmp.{nat_cmp_is}
use Rattle.std.specs.List.{AllByRecursion}
use Rattle.std.specs.List.Sorted.{IsStrictlySortedBy}
use Rattle.std.specs.Ordering.{nat_cmp}
use Rattle.std.specs.declared.cmp.Ordering.TheVariants.{Less}
use Rattle.plan_basics.specs.Intervals.{OpenInterval, IsInterval}

later_begin : (x : OpenInterval) (items : List OpenInterval) → x.from < x.end → All (λ b. x.end ≤ b.from) items → AllByRecursion (λ from. nat_cmp x.from from ≡ Less) (map (λ b. b.from) items)
later_begin x [] some after = tt
later_begin x (y ∷ items) some after =
    let first = after 0 y (omega arith) in
    (sym (nat_cmp_is x.from y.from Less (omega (arith, some, first))), later_begin x items some (λ k d lt. after (suc k) d (omega (arith, lt))))

pub begin_in_order : (items : List OpenInterval) → All IsInterval items → AllPairs (λ a b. a.end ≤ b.from) items → IsStrictlySortedBy nat_cmp (map (λ x. x.from) items)
unfolding IsStrictlySortedBy
begin_in_order [] each up = tt
begin_in_order (x ∷ items) each up = (
  later_begin x items (each 0 x (omega arith)).not_empty (λ k d lt. up 0 (suc k) d (omega arith) (omega (arith, lt))),
  begin_in_order items (λ k d lt. each (suc k) d (omega (arith, lt))) (λ i j d lt within. up (suc i) (suc j) d (omega (arith, lt)) (omega (arith, within))),
)
