-- The night's plan with BILLING, which shares CUSTFILE, added once 5 and 10 of PAYROLL are done; 20 needs CUSTFILE alone, and keeps it on an error.
use Rattle.std.specs.Prelude.{ℕ, false, [], ◌∷◌, codes}
use Rattle.std.specs.FinMap.{FinMap, from_entries}
use Rattle.std.specs.FinSet as set
use Rattle.plan_basics.specs.declared.keys.OccKey.{OccKey}
use Rattle.plan_basics.specs.declared.keys.OpKey.{OpKey}
use Rattle.plan_basics.specs.Keys.{name_cmp}
use Rattle.special_resources.specs.declared.Mode.TheVariants.{Shared}
use Rattle.special_resources.specs.Holders.{Usage}
use Rattle.status_rules.specs.declared.Mark.TheVariants as mark
use Rattle.plan_model.specs.Contents.{Contents, Operation, AddedParts}
use Rattle.plan_model.specs.declared.Occurrence.{Occurrence}
use Rattle.plan_records.specs.Changes.{marked, with_added}
use Rattle.worked_examples.specs.Day.{evening, lasting}
use Rattle.worked_examples.specs.Night.{custfile, done, night, payroll_at}
use Rattle.worked_examples.specs.Trio.{three}

-- 2024-03-01 at 23:00
abbrev pub eleven : ℕ
eleven = 27437700

-- BILLING, of the same evening
abbrev pub billing : OccKey
billing = record { app = codes "BILLING"; arrival = evening }

-- BILLING's one operation
abbrev pub billing_key : OpKey
billing_key = record { occurrence = billing; number = 10 }

-- shared, one of it, and freed on an error
abbrev pub one_shared : Usage
one_shared = record { claim = record { mode = Shared; amount = 1 }; keep = false }

-- CUSTFILE, so
abbrev pub shares_custfile : FinMap name_cmp Usage
shares_custfile = from_entries ((custfile, one_shared) ∷ [])

-- half an hour on the automatic workstation, by 03:00
abbrev pub billing_operation : Operation
billing_operation = record (lasting 30) { deadline = three; needs = shares_custfile }

-- its priority and deadline
abbrev pub billing_occurrence : Occurrence
billing_occurrence = record { priority = 5; deadline = three }

-- what is added: one occurrence with one operation, and no pairs
abbrev pub billing_addition : AddedParts
billing_addition = record { occurrences = from_entries ((billing, billing_occurrence) ∷ []); operations = from_entries ((billing_key, billing_operation) ∷ []); pairs = set.empty }

-- the night's plan with it
abbrev pub with_billing : Contents
with_billing = with_added (done 10 (done 5 night)) billing_addition

-- and PAYROLL's 20 ended in error
abbrev pub failed : Contents
failed = marked (payroll_at 20) (mark.Error (codes "S0C7")) with_billing
