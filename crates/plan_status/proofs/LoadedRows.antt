-- What the operations of a plan say of their rows.
use Rattle.std.proofs.Common.{◌≡◌, subst, ℕ, ◌≤◌, true, length, slice_get, Some, Contains}
use Rattle.std.specs.FinMap.{contains_key, entries, get, keys, len-entries}
use Rattle.plan_basics.specs.declared.limits.TheConstants.{MOST_OPERATIONS}
use Rattle.plan_basics.specs.Keys.{operation_cmp-IsAntisymmetric, operation_cmp_total}
use Rattle.plan_basics.specs.declared.keys.OpKey.{OpKey}
use Rattle.plan_model.specs.Contents.{Contents, Operation}
use Rattle.plan_model.specs.Valid.{IsValid}
use Rattle.plan_laws.specs.plan_drafts.proofs.EntryRows.{among_keys, entry_of, row_in}

module _ (P : Contents) where
  pub row_found : (i : ℕ) (o : OpKey) (op : Operation) → slice_get (entries P.operations) i ≡ Some (o, op) → get P.operations o ≡ Some op
  row_found = row_in operation_cmp_total operation_cmp-IsAntisymmetric P.operations

  pub few_rows : IsValid P → length (entries P.operations) ≤ MOST_OPERATIONS
  few_rows valid = subst (λ n. n ≤ MOST_OPERATIONS) (len-entries P.operations) valid.limits.operations

  pub its_occurrence : IsValid P → (o : OpKey) (op : Operation) → get P.operations o ≡ Some op → contains_key P.occurrences o.occurrence ≡ true
  its_occurrence valid o op is = (valid.occurrences.each_operation o op is).1

  -- an operation of the plan has a row, and its key is among theirs
  pub row_of : (o : OpKey) (op : Operation) → get P.operations o ≡ Some op → (i : ℕ) × (slice_get (entries P.operations) i ≡ Some (o, op))
  row_of = entry_of operation_cmp_total operation_cmp-IsAntisymmetric P.operations

  pub known_among : (o : OpKey) → contains_key P.operations o ≡ true → Contains (keys P.operations) o
  known_among = among_keys operation_cmp_total operation_cmp-IsAntisymmetric P.operations
