-- Operations of which markings were noted are in the plan, and in one of which markings differ.
use Rattle.std.proofs.Common.{◌≡◌, refl, sym, subst, List, All, Contains, Option, Some, None, option_map}
use Rattle.std.proofs.lemmas.Option.{none-some}
use Rattle.std.specs.FinMap.{get}
use Rattle.plan_basics.proofs.Members.{all_by_members, contains_mapped, mapped_contains}
use Rattle.plan_basics.specs.declared.keys.OpKey.{OpKey}
use Rattle.plan_changes.proofs.Remarks.{stay_in_plan}
use Rattle.plan_changes.specs.Markings.{DifferInMarks, WereMarked, marking_at}
use Rattle.plan_status.specs.plan_model.specs.Markings.{marking_of}
use Rattle.plan_status.specs.plan_model.specs.declared.moves.Marking.{Marking}
use Rattle.plan_status.specs.plan_model.specs.Contents.{Contents, IsInPlan, Operation}

-- an operation that has a marking
its_operation : (x : Option Operation) (m : Marking) → option_map marking_of x ≡ Some m → (op : Operation) × (x ≡ Some op)
its_operation None m is = absurd (none-some m is)
its_operation (Some op) m is = (op, refl)

module _ (P : Contents) (os : List OpKey) (marks : List Marking) (were : WereMarked P os marks) where
  all_known : All (IsInPlan P) os
  all_known = all_by_members (IsInPlan P) os (λ o has.
      let noted = mapped_contains Some marks (marking_at P o) (subst (λ xs. Contains xs (marking_at P o)) were (contains_mapped (marking_at P) os o has)) in
      let op = its_operation (get P.operations o) noted.0 (sym noted.1) in
      (op.0, op.1, tt))

  -- and in one of which no more than the markings of some differ
  pub known_after : (Q : Contents) (among : List OpKey) → DifferInMarks P Q among → All (IsInPlan Q) os
  known_after Q among d = λ k dflt lt. stay_in_plan P Q among _ d (all_known k dflt lt)
