-- Operations of which markings were noted.
use Rattle.std.proofs.Common.{◌≡◌, refl, sym, ap, subst, ◌∙◌, ℕ, List, All, Contains, Option, Some, None, length, map, option_map, slice_get}
use Rattle.std.proofs.lemmas.List.{length-map}
use Rattle.std.proofs.lemmas.Option.{none-some, same_Some, slice_get-map}
use Rattle.std.specs.FinMap.{entries, get, keys}
use Rattle.plan_basics.proofs.Members.{all_by_members, contains_mapped, mapped_contains}
use Rattle.plan_basics.specs.declared.keys.OpKey.{OpKey}
use Rattle.plan_checks.specs.plan_changes.proofs.Remarks.{marked_at, stay_in_plan}
use Rattle.plan_checks.specs.plan_changes.specs.Markings.{DifferInMarks, WereMarked as WereMarkedBy, marking_at}
use Rattle.plan_drafts.specs.PlanGraphs.{StandAt}
use Rattle.plan_model.specs.Contents.{Contents, IsInPlan, Operation}
use Rattle.plan_model.specs.Markings.{marking_of}
use Rattle.plan_model.specs.declared.moves.Marking.{Marking}
use Rattle.plan_checks.specs.plan_status.proofs.LoadedRows.{row_found}
use Rattle.plan_checks.specs.plan_status.proofs.RowKeys.{row_of_key}
use Rattle.plan_checks.specs.derived_figures.specs.TakingsBefore.{WereMarked}

-- an operation that has a marking
pub its_operation : (x : Option Operation) (m : Marking) → option_map marking_of x ≡ Some m → (op : Operation) × (x ≡ Some op) × (marking_of op ≡ m)
its_operation None m is = absurd (none-some m is)
its_operation (Some op) m is = (op, refl, same_Some (marking_of op) m is)

module _ (P : Contents) (os : List OpKey) (marks : List Marking) (were : WereMarkedBy P os marks) where
  -- as many were noted as there are keys
  pub as_many : length marks ≡ length os
  as_many = sym (length-map marks Some) ∙ sym (ap length were) ∙ length-map os (marking_at P)

  -- they are in the plan
  pub all_known : All (IsInPlan P) os
  all_known = all_by_members (IsInPlan P) os (λ o has.
      let noted = mapped_contains Some marks (marking_at P o) (subst (λ xs. Contains xs (marking_at P o)) were (contains_mapped (marking_at P) os o has)) in
      let op = its_operation (get P.operations o) noted.0 (sym noted.1) in
      (op.0, op.1, tt))

  -- and in one of which no more than the markings of some differ
  pub known_after : (Q : Contents) (among : List OpKey) → DifferInMarks P Q among → All (IsInPlan Q) os
  known_after Q among d = λ k dflt lt. stay_in_plan P Q among _ d (all_known k dflt lt)

  -- by the indices at which the operations stand
  pub marked_there : (places : List ℕ) → StandAt (keys P.operations) places os → WereMarked P places marks
  marked_there places stand = record {
    size = as_many ∙ sym (length-map os Some) ∙ sym (ap length stand) ∙ length-map places (slice_get (keys P.operations));
    each = λ k i m place_at mark_at.
        let key : (o : OpKey) × (slice_get os k ≡ Some o) × (slice_get (keys P.operations) i ≡ Some o) = key_there k i place_at in
        let op = its_operation (get P.operations key.0) m (marked_at P os marks k key.0 m were key.1 mark_at) in
        let row = row_of_key (entries P.operations) i key.0 key.2 in
        let same : row.0 ≡ op.0 = same_Some row.0 op.0 (sym (row_found P i key.0 row.0 row.1) ∙ op.1) in
        record { key = key.0; operation = row.0; row = row.1; marking = ap marking_of same ∙ op.2 };
  }
    where
      -- an index of a list that is all there
      both : {A B : Type 0} (xs : List A) (ys : List B) (f : A → Option B) → map f xs ≡ map Some ys → (k : ℕ) (x : A) → slice_get xs k ≡ Some x → (y : B) × (slice_get ys k ≡ Some y) × (f x ≡ Some y)
      both {B = B} xs ys f is k x at = of (slice_get ys k) refl
        where
          found : Some (f x) ≡ option_map Some (slice_get ys k)
          found = sym (ap (option_map f) at) ∙ sym (slice_get-map f xs k) ∙ ap (λ zs. slice_get zs k) is ∙ slice_get-map Some ys k

          of : (z : Option B) → slice_get ys k ≡ z → (y : B) × (slice_get ys k ≡ Some y) × (f x ≡ Some y)
          of None none = absurd (none-some (f x) (sym (found ∙ ap (option_map Some) none)))
          of (Some y) some = (y, some, same_Some (f x) (Some y) (found ∙ ap (option_map Some) some))

      key_there : (k i : ℕ) → slice_get places k ≡ Some i → (o : OpKey) × (slice_get os k ≡ Some o) × (slice_get (keys P.operations) i ≡ Some o)
      key_there k i at = both places os (slice_get (keys P.operations)) stand k i at
