-- What is counted: rows of a kind, and looks.
use Rattle.std.proofs.Common.{◌≡◌, ◌⊎◌, inl, inr, refl, sym, ap, arith, ℕ, ◌+◌, ◌<◌, ◌≤◌, Bool, false, List, [], ◌∷◌, ◌++◌, Contains, cond, count_by, length}
use Rattle.std.proofs.lemmas.List.Sums.{count_by-le-length, sum_by-append}
use Rattle.plan_basics.proofs.Members.{contains_head, contains_later}
use Rattle.plan_model.specs.Plan.{Plan}
use Rattle.plan_records.specs.Rows.{key_of, table_of}
use Rattle.plan_records.specs.declared.Changes.{Changes}
use Rattle.plan_records.specs.declared.PlanRow.{PlanRow}
use Rattle.plan_records.specs.declared.PlanRow.TheVariants as row
use Rattle.plan_rows.proofs.PairedLists.{paired_length}
use Rattle.plan_rows.specs.Notes.{AreNotes, IsNotedAt, is_operation, operations_noted}
use Rattle.plan_rows.specs.Rows.{keyed_operations, rows_of}
use Rattle.plan_rows.specs.Tables.{AreChangesBelow}
use Rattle.plan_rows.specs.declared.notes.FacilityChange.{FacilityChange}
use Rattle.plan_rows.specs.declared.notes.Notes.{Notes}
use Rattle.plan_rows.specs.declared.row_sources.RowSource.{RowSource}
use Rattle.derived_figures.specs.counted_records.specs.States.{CountedState}

-- one more counts once at most
pub counted_pushed : {X : Type 0} (p : X → Bool) (xs : List X) (x : X) → count_by p (xs ++ x ∷ []) ≤ count_by p xs + 1
counted_pushed p xs x =
    let both = sum_by-append (λ y. cond (p y) 1 0) xs (x ∷ []) in
    let one = count_by-le-length p (x ∷ []) in
    omega (arith, both, one)

none_counted : {X : Type 0} (p : X → Bool) (xs : List X) → ((x : X) → Contains xs x → p x ≡ false) → count_by p xs ≡ 0
none_counted p [] not = refl
none_counted {X} p (x ∷ xs) not =
    let both = sum_by-append (λ (y : X). cond (p y) 1 0) (x ∷ []) xs in
    let here : count_by p (x ∷ []) ≡ 0 = ap (λ (b : Bool). 0 + cond {A = ℕ} b 1 0) (not x (contains_head x xs)) in
    let rest = none_counted p xs (λ y has. not y (contains_later x xs y has)) in
    omega (arith, both, here, rest)

not_operation : (r : PlanRow) → table_of (key_of r) < 5 → is_operation r ≡ false
not_operation (row.Operation q) lt = absurd (omega (arith, lt))
not_operation r lt = refl

-- they note as many rows of operations as were touched
pub noted_count : (s : RowSource) (b : FacilityChange) (touched : List ℕ) (notes : Notes) → AreNotes s b touched notes → operations_noted notes ≡ length touched
noted_count s b touched notes h = sym (paired_length (IsNotedAt (rows_of (keyed_operations s))) touched notes.operations.items h.operations)

-- no row of an operation is in the tables before that of operations
pub no_operation_below : (P Q : Plan) (c : Changes) → AreChangesBelow 5 P Q c → count_by is_operation c.rows.items ≡ 0
no_operation_below P Q c h = none_counted is_operation c.rows.items (λ r has. not_operation r ((h.has_rows r).0 has).0.1)

-- where no look was taken all is as it was
pub no_look : (old new : CountedState) → new.contents ≡ old.contents → old.looks ≤ new.looks → new.looks ≤ old.looks → new ≡ old
no_look old new contents fewest most = let looks : new.looks ≡ old.looks = omega (arith, fewest, most) in λ i. record { contents = contents i; looks = looks i }

-- more looks count, where the count isn't full
pub more_counted : (start old new before more all : ℕ) → (18446744073709551615 ≤ old) ⊎ (start + before ≤ old) → old ≤ new → (18446744073709551615 ≤ new) ⊎ (old + more ≤ new) → all ≡ before + more → (18446744073709551615 ≤ new) ⊎ (start + all ≤ new)
more_counted start old new before more all (inl full) fewest now sum = inl (omega (arith, full, fewest))
more_counted start old new before more all (inr so_far) fewest (inl full) sum = inl full
more_counted start old new before more all (inr so_far) fewest (inr these) sum = inr (omega (arith, so_far, these, sum))
