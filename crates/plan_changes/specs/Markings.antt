-- Plans that differ in the markings of some operations alone.
use Rattle.std.specs.Prelude.{◌≡◌, ◌⊎◌, true, false, List, [], ◌∷◌, Bool, Option, Some, map, option_map}
use Rattle.std.specs.FinMap.{contains_key, get}
use Rattle.plan_basics.specs.declared.keys.OpKey.{OpKey}
use Rattle.plan_records.specs.status_rules.specs.declared.Mark.{Mark}
use Rattle.ready_list.specs.Choice.{is_among}
use Rattle.plan_records.specs.plan_model.specs.Contents.{Contents, IsInPlan, Operation}
use Rattle.plan_records.specs.plan_model.specs.Ready.{with_mark}
use Rattle.plan_records.specs.Changes.{is_at, revised}
use Rattle.plan_records.specs.plan_model.specs.Markings.{marking_of, with_marking}
use Rattle.plan_records.specs.plan_model.specs.declared.moves.Marking.{Marking}

-- the marking of an operation of the plan
abbrev pub marking_at : Contents → OpKey → Option Marking
marking_at P o = option_map marking_of (get P.operations o)

-- one marking for each key, in their order, that of its operation in the plan
abbrev pub WereMarked : Contents → List OpKey → List Marking → Type 0
WereMarked P keys marks = map (marking_at P) keys ≡ map Some marks

-- the plans hold the same but for the markings of the operations of these keys
pub record DifferInMarks (P Q : Contents) (keys : List OpKey) : Type 0 where
  pub workstations : P.workstations ≡ Q.workstations
  pub resources : P.resources ≡ Q.resources
  pub occurrences : P.occurrences ≡ Q.occurrences
  pub pairs : P.pairs ≡ Q.pairs
  pub known : (o : OpKey) → contains_key P.operations o ≡ contains_key Q.operations o
  pub elsewhere : (o : OpKey) → is_among keys o ≡ false → get P.operations o ≡ get Q.operations o
  pub remarked : (o : OpKey) (a b : Operation) → get P.operations o ≡ Some a → get Q.operations o ≡ Some b → with_marking (marking_of a) b ≡ a

-- it doesn't matter which of the two is named first
abbrev pub DifferBothWays : Type 0
DifferBothWays = (P Q : Contents) (keys : List OpKey) → DifferInMarks P Q keys → DifferInMarks Q P keys

-- what is an operation of one is one of the other
abbrev pub OperationsStayInPlan : Type 0
OperationsStayInPlan = (P Q : Contents) (keys : List OpKey) (o : OpKey) → DifferInMarks P Q keys → IsInPlan P o → IsInPlan Q o

-- one such difference after another is one, in the operations of both
abbrev pub DifferencesFollow : Type 0
DifferencesFollow =
    (P Q R : Contents) (first second keys : List OpKey) → DifferInMarks P Q first → DifferInMarks Q R second
    → ((o : OpKey) → (is_among first o ≡ true) ⊎ (is_among second o ≡ true) → is_among keys o ≡ true) → DifferInMarks P R keys

-- where operations of these keys alone are made anew, and of each no more than its marking, no more than that differs
abbrev pub RemakingRemarks : Type 0
RemakingRemarks =
    (P : Contents) (keys : List OpKey) (test : OpKey → Bool) (f : Operation → Operation) → ((o : OpKey) → test o ≡ true → is_among keys o ≡ true)
    → ((op : Operation) → with_marking (marking_of op) (f op) ≡ op) → DifferInMarks P (revised test f P) keys

-- so it is where an operation is held or released
abbrev pub HoldingRemarks : Type 0
HoldingRemarks = (P : Contents) (o : OpKey) (held : Bool) → DifferInMarks P (revised (is_at o) (λ op. record op { held = held }) P) (o ∷ [])

-- where it is made a no-operation, or one that is carried out again
abbrev pub NopRemarks : Type 0
NopRemarks = (P : Contents) (o : OpKey) (nop : Bool) → DifferInMarks P (revised (is_at o) (λ op. record op { nop = nop }) P) (o ∷ [])

-- and where operations are given a mark
abbrev pub MarkingRemarks : Type 0
MarkingRemarks = (P : Contents) (keys : List OpKey) (mark : Mark) → DifferInMarks P (revised (is_among keys) (with_mark mark) P) keys
