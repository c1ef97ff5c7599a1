-- Whether a report of an operation is refused, and what is written of it.
use Rattle.std.proofs.Common.{◌≡◌, ◌↔◌, refl, ℕ, List, Bool, true, false, if◌then◌else◌, Option, Some, None, is_some, is_none, IsSome, Result, Ok, Err, OnOk, OnErr}
use Rattle.std.specs.FinMap.{get}
use Rattle.std.specs.Io.KnownBytes.{Appends}
use Rattle.plan_basics.specs.Watched.{AppendsBeginning}
use Rattle.plan_basics.specs.declared.Refusal.{Refusal}
use Rattle.plan_basics.specs.declared.Refusal.TheVariants as refusal
use Rattle.plan_basics.specs.declared.keys.OpKey.{OpKey}
use Rattle.plan_model.specs.Contents.{IsInPlan, Operation}
use Rattle.plan_model.specs.Plan.{Plan}
use Rattle.plan_reports.specs.Reports.{IsBegun, IsWritten, refusal_of, why_refusal_of}
use Rattle.plan_reports.specs.declared.reports.ReportFault.{ReportFault}
use Rattle.plan_reports.specs.declared.reports.ReportFault.TheVariants as fault

-- what isn't there is none
none_there : (x : Option Operation) → ¬ ((op : Operation) × (x ≡ Some op) × Unit {0}) → is_some x ≡ false
none_there None absent = refl
none_there (Some op) absent = absurd (absent (op, refl, _))

-- where neither of the others is owed, this is
owed_then : (usable loaded there : Bool) → (if usable then (if loaded then None else Some refusal.NotLoaded) else Some refusal.Reopen) ≡ None → there ≡ false
    → (if usable then (if loaded then (if there then None else Some refusal.UnknownOperation) else Some refusal.NotLoaded) else Some refusal.Reopen) ≡ Some refusal.UnknownOperation
owed_then true true there none is = rw is refl
owed_then true false there none is = absurd (cc)
owed_then false loaded there none is = absurd (cc)

-- it is owed to the report of an operation that isn't in the plan
pub not_in_plan : (usable : Bool) (P : Plan) (o : OpKey) → refusal_of usable P ≡ None → ¬ IsInPlan P.contents o → why_refusal_of usable P o ≡ Some refusal.UnknownOperation
not_in_plan usable P o none absent = owed_then usable P.loaded (is_some (get P.contents.operations o)) none (none_there (get P.contents.operations o) absent)

-- what is told as none isn't there
pub absent_of : {T : Type 0} (x : Option T) (A : Type 0) → is_none x ≡ true → (IsSome x ↔ A) → ¬ A
absent_of None A none same = λ a. let bad = same.1 a in absurd (cc)
absent_of (Some v) A none same = absurd (cc)

module _ (owed : Option Refusal) (IsText : List ℕ → Type 0) (old new : Option (List ℕ)) (text : List ℕ) (none : owed ≡ None) (is : IsText text) where
  -- the text was written
  pub text_written : (r : Result (Unit {0}) ReportFault) → OnOk r (Appends old new text) → OnOk r (IsWritten owed IsText old new)
  text_written (Ok x) appends = (none, (text, is, appends))
  text_written (Err f) appends = appends

  -- a beginning of it was
  pub text_begun : (r : Result (Unit {0}) ReportFault) → OnErr r (AppendsBeginning old new text) → r ≡ Err fault.Writer → IsBegun owed IsText old new
  text_begun (Err f) begins failed = (none, (text, is, begins))
  text_begun (Ok x) begins failed = absurd (cc)
