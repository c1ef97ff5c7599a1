use Rattle.extension_faults.proofs.Excess.{three_told}
use Rattle.extension_faults.proofs.limits.limits_told.Goals as goal

pub returns : goal.returns
returns c = record {
  occurrences = c.in_ok-occurrences.occurrences;
  operations = c.in_ok-operations.operations;
  pairs = c.in_ok-pairs.pairs;
  occurrences_stay = c.in_ok-occurrences.ensures.number;
  operations_stay = c.in_ok-operations.ensures.number;
  pairs_stay = c.in_ok-pairs.ensures.number;
  exactly = λ f.
      three_told c.new-faults.result.items c.limit_told.new.faults.items c.limit_told-2.new.faults.items c.limit_told-3.new.faults.items f
      c.new-faults.ensures.items (c.in_ok-limit_told.ensures f) (c.in_ok-limit_told-2.ensures f) (c.in_ok-limit_told-3.ensures f);
}
