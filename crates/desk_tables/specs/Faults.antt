-- What is answered where a call of the store fails.
use Rattle.std.specs.Prelude.{◌≡◌, ◌⊎◌}
use Rattle.plan_basics.specs.declared.Refusal.{Refusal}
use Rattle.plan_basics.specs.declared.Refusal.TheVariants as refusal
use Rattle.sqlite.specs.declared.error.Error.{Error}
use Rattle.sqlite.specs.declared.error.Error.TheVariants.{SqliteFailure, SqlInputError}
use Rattle.sqlite.specs.declared.error.ErrorCode.TheVariants as code

-- want of memory is told as such; any other fault is the store's
abbrev pub request_refusal : Error → Refusal
request_refusal (SqliteFailure code.OutOfMemory) = refusal.Memory
request_refusal _ = refusal.Store

-- a name that is taken, or one that lacks, tells that the tables are no plan's
abbrev pub opening_refusal : Error → Refusal
opening_refusal (SqlInputError fault) = refusal.Damaged
opening_refusal (SqliteFailure code.NameTaken) = refusal.Damaged
opening_refusal error = request_refusal error

-- why no desk is made or opened: the tables aren't a plan's, memory lacks, or the store failed
abbrev pub IsOpeningRefusal : Refusal → Type 0
IsOpeningRefusal r = (r ≡ refusal.Damaged) ⊎ ((r ≡ refusal.Memory) ⊎ (r ≡ refusal.Store))
