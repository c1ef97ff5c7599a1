-- The exit statuses are small numbers, and an error of the system or of a store is a fault of the surroundings.
use Rattle.std.proofs.Common.{ℕ, Result, Ok, Err, IfErr, inl, inr, refl, arith, ◌≤◌, ◌⊎◌}
use Rattle.std.proofs.lemmas.Result.{IfErr-weaker}
use Rattle.std.specs.declared.io.ErrorKind.{ErrorKind}
use Rattle.std.specs.declared.io.ErrorKind.TheVariants as kind
use Rattle.sqlite.specs.declared.error.Error.{Error as StoreError}
use Rattle.sqlite.specs.declared.error.Error.TheVariants.{SqliteFailure}
use Rattle.sqlite.specs.declared.error.ErrorCode.TheVariants as code
use Rattle.plan_import.specs.declared.ImportFault.{ImportFault}
use Rattle.plan_import.specs.declared.ImportFault.TheVariants as import_fault
use Rattle.command_answers.specs.Statuses.{ending_status, fault_status, fault_of_import, fault_of_kind, fault_of_store, IsOfSurroundings, IsStatusOf}
use Rattle.command_answers.specs.declared.endings.Ending.{Ending}
use Rattle.command_answers.specs.declared.endings.Ending.TheVariants as ending
use Rattle.command_answers.specs.declared.endings.Fault.{Fault}
use Rattle.command_answers.specs.declared.endings.Fault.TheVariants as fault

pub ending_at_most : (e : Ending) → ending_status e ≤ 3
ending_at_most ending.Done = omega arith
ending_at_most ending.Refused = omega arith
ending_at_most ending.Misunderstood = omega arith

pub fault_at_most : (f : Fault) → fault_status f ≤ 3
fault_at_most fault.Encoding = omega arith
fault_at_most fault.Words = omega arith
fault_at_most fault.Moment = omega arith
fault_at_most fault.Request = omega arith
fault_at_most fault.File = omega arith
fault_at_most fault.Network = omega arith
fault_at_most fault.Memory = omega arith

pub status_at_most : (outcome : Result Ending Fault) → (status : ℕ) → IsStatusOf outcome status → status ≤ 3
status_at_most (Ok e) status is = rw is (ending_at_most e)
status_at_most (Err f) status (inl is) = rw is (fault_at_most f)
status_at_most (Err f) status (inr is) = rw is (omega arith)

pub of_the_surroundings : (k : ErrorKind) → IsOfSurroundings (fault_of_kind k)
of_the_surroundings kind.OutOfMemory = refl
of_the_surroundings _ = refl

pub of_the_store : (e : StoreError) → IsOfSurroundings (fault_of_store e)
of_the_store (SqliteFailure code.OutOfMemory) = refl
of_the_store _ = refl

pub of_the_import : (f : ImportFault) → IsOfSurroundings (fault_of_import f)
of_the_import import_fault.Reader = refl
of_the_import import_fault.Memory = refl

-- a fault of the surroundings is one of theirs, or another
pub of_them : (Other : Fault → Type 0) (r : Result Ending Fault) → IfErr r IsOfSurroundings → IfErr r (λ f. IsOfSurroundings f ⊎ Other f)
of_them Other r of = IfErr-weaker r IsOfSurroundings (λ f. IsOfSurroundings f ⊎ Other f) (λ (f : Fault) (is : IsOfSurroundings f). inl is) of

-- so it is, written the other way round
pub of_them_too : (Other : Fault → Type 0) (r : Result Ending Fault) → IfErr r IsOfSurroundings → IfErr r (λ f. Other f ⊎ IsOfSurroundings f)
of_them_too Other r of = IfErr-weaker r IsOfSurroundings (λ f. Other f ⊎ IsOfSurroundings f) (λ (f : Fault) (is : IsOfSurroundings f). inr is) of
