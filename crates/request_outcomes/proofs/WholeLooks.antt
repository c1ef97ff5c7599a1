-- What is looked at for a request that isn't small.
use Rattle.std.proofs.Common.{◌≡◌, ◌⊎◌, inl, inr, sym, subst, arith, ℕ, ◌+◌, ◌*◌, ◌≤◌, List, length, map}
use Rattle.std.specs.FinMap.{entries, len, len-empty, len-entries}
use Rattle.std.specs.List.Sorted.{IsStrictlySortedBy}
use Rattle.plan_basics.specs.Keys.{operation_cmp}
use Rattle.plan_basics.specs.declared.keys.OpKey.{OpKey}
use Rattle.request_outcomes.proofs.KnownRows.{known_are_few, known_fit}
use Rattle.request_outcomes.specs.Looked.{AreAllowed, CoverRows}
use Rattle.plan_records.specs.Rows.{key_of, row_cmp}
use Rattle.plan_records.specs.declared.PlanRow.{PlanRow}
use Rattle.plan_records.specs.declared.What.{What}
use Rattle.plan_records.specs.declared.What.TheVariants as what
use Rattle.plan_model.specs.Contents.{Contents, Operation, nothing}
use Rattle.plan_model.specs.Ready.{named}
use Rattle.plan_model.specs.Revise.{len-revise}
use Rattle.plan_model.specs.Valid.{IsSound}
use Rattle.small_requests.specs.RequestEdits.{IsSmall}
use Rattle.small_requests.specs.LooksLaws.{WholePlansLookFew}

-- ---- as many operations are there once some are named

pub named_count : (Q : Contents) (os : List OpKey) → length (entries (named os Q).operations) ≡ length (entries Q.operations)
named_count Q os = let same : len (named os Q).operations ≡ len Q.operations = len-revise _ Q.operations in omega (arith, same, len-entries (named os Q).operations, len-entries Q.operations)

-- ---- looks

-- a look, and four at each record of the plan that a request leads to, are allowed
pub whole_allowed : WholePlansLookFew → (P Q : Contents) (w : What) (looks : ℕ) → ¬ IsSmall w → looks ≤ 1 + 4 * length (entries Q.operations) → AreAllowed P w Q looks
whole_allowed law P Q w looks whole most = by_kind w whole
  where
    few : looks ≤ 1 + 4 * len Q.operations
    few = omega (arith, most, len-entries Q.operations)

    by_kind : (w : What) → ¬ IsSmall w → AreAllowed P w Q looks
    by_kind (what.Load draft) whole n is = subst (λ z. looks ≤ z) (sym is) (law Q looks few)
    by_kind (what.DeleteOccurrence c) whole n is = subst (λ z. looks ≤ z) (sym is) (law Q looks few)
    by_kind (what.AddOccurrence a) whole n is = subst (λ z. looks ≤ z) (sym is) (law Q looks few)
    by_kind (what.Extend a) whole n is = subst (λ z. looks ≤ z) (sym is) (omega (arith, few))
    by_kind (what.AddDependency p s) whole n is = subst (λ z. looks ≤ z) (sym is) (law Q looks few)
    by_kind _ whole n is = absurd (whole tt)

-- a look at each record covers the rows of all operations that P has
pub whole_covers : (P : Contents) (first looks : ℕ) (rows : List PlanRow) → IsSound P → IsStrictlySortedBy row_cmp (map key_of rows)
    → (18446744073709551615 ≤ looks) ⊎ (first + length (entries P.operations) ≤ looks) → CoverRows P rows looks
whole_covers P first looks rows sound ascend (inl full) = omega (arith, known_fit P sound rows ascend, full)
whole_covers P first looks rows sound ascend (inr each) = omega (arith, known_are_few P rows ascend, each)

-- where there was no operation, no look covers them
pub none_covers : (rows : List PlanRow) → IsStrictlySortedBy row_cmp (map key_of rows) → CoverRows nothing rows 0
none_covers rows ascend = omega (arith, known_are_few nothing rows ascend, len-entries nothing.operations, len-empty operation_cmp Operation)
