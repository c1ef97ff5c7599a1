-- The statuses that the program ends with, and the faults that errors of its surroundings are.
use Rattle.std.specs.Prelude.{◌≡◌, ◌≢◌, ◌⊎◌, ℕ, Result, Ok, Err}
use Rattle.std.specs.declared.io.ErrorKind.{ErrorKind}
use Rattle.std.specs.declared.io.ErrorKind.TheVariants as kind
use Rattle.clap.specs.declared.error.kind.ErrorKind.{ErrorKind as WordsKind}
use Rattle.clap.specs.declared.error.kind.ErrorKind.TheVariants as words
use Rattle.sqlite.specs.declared.error.Error.{Error as StoreError}
use Rattle.sqlite.specs.declared.error.Error.TheVariants.{SqliteFailure}
use Rattle.sqlite.specs.declared.error.ErrorCode.TheVariants as code
use Rattle.plan_records.specs.Answer.{Answer, accepted, refused}
use Rattle.plan_import.specs.declared.ImportFault.{ImportFault}
use Rattle.plan_import.specs.declared.ImportFault.TheVariants as import_fault
use Rattle.command_answers.specs.declared.endings.Ending.{Ending}
use Rattle.command_answers.specs.declared.endings.Ending.TheVariants as ending
use Rattle.command_answers.specs.declared.endings.Fault.{Fault}
use Rattle.command_answers.specs.declared.endings.Fault.TheVariants as fault

-- 0 for an answer that accepts or for help, 1 for a refusal, 2 where the words aren't understood
abbrev pub ending_status : Ending → ℕ
ending_status ending.Done = 0
ending_status ending.Refused = 1
ending_status ending.Misunderstood = 2

-- 2 where the words, the moment or a request are at fault, 3 where the surroundings are
abbrev pub fault_status : Fault → ℕ
fault_status fault.Encoding = 2
fault_status fault.Words = 2
fault_status fault.Moment = 2
fault_status fault.Request = 2
fault_status fault.File = 3
fault_status fault.Network = 3
fault_status fault.Memory = 3

-- the surroundings are at fault: a file, a stream, the network or memory
abbrev pub IsOfSurroundings : Fault → Type 0
IsOfSurroundings f = fault_status f ≡ 3

-- want of memory, or else a file's or a stream's fault
abbrev pub fault_of_kind : ErrorKind → Fault
fault_of_kind kind.OutOfMemory = fault.Memory
fault_of_kind _ = fault.File

-- so it is where a database fails
abbrev pub fault_of_store : StoreError → Fault
fault_of_store (SqliteFailure code.OutOfMemory) = fault.Memory
fault_of_store _ = fault.File

-- so it is while a plan is read
abbrev pub fault_of_import : ImportFault → Fault
fault_of_import import_fault.Reader = fault.File
fault_of_import import_fault.Memory = fault.Memory

-- where the program's words can't be had: want of memory, or else one isn't UTF-8
abbrev pub fault_of_words_kind : ErrorKind → Fault
fault_of_words_kind kind.OutOfMemory = fault.Memory
fault_of_words_kind _ = fault.Encoding

-- how a run ends that has shown this answer
abbrev pub ending_of : Answer → Ending
ending_of (accepted named) = ending.Done
ending_of (refused r) = ending.Refused

-- what is said of the words is a complaint: neither help nor the version
abbrev pub IsComplaint : WordsKind → Type 0
IsComplaint k = (k ≢ words.DisplayHelp) × (k ≢ words.DisplayVersion)

-- a run that has shown what is to be said of the words: misunderstood where that is a complaint, else done
abbrev pub EndsExplaining : WordsKind → Ending → Type 0
EndsExplaining k ending.Done = ¬ IsComplaint k
EndsExplaining k ending.Refused = ⊥
EndsExplaining k ending.Misunderstood = IsComplaint k

-- the exit status of a run: its ending's, or its fault's, or 3 where that can't be shown
abbrev pub IsStatusOf : Result Ending Fault → ℕ → Type 0
IsStatusOf (Ok e) status = status ≡ ending_status e
IsStatusOf (Err f) status = (status ≡ fault_status f) ⊎ (status ≡ 3)
