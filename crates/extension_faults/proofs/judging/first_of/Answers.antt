use Rattle.std.proofs.Common.{sym, arith}
use Rattle.std.proofs.lemmas.List.{length-take-le, take_all}
use Rattle.extension_faults.specs.declared.judging.TheConstants.{MOST_TOLD}
use Rattle.extension_faults.proofs.judging.first_of.Goals as goal

pub slice_bounds-result-end : goal.slice_bounds-result-end
slice_bounds-result-end g c = sym (length-take-le MOST_TOLD c.args.faults.now (omega arith))

pub returns-else-faults-gt-MOST_TOLD : goal.returns-else-faults-gt-MOST_TOLD
returns-else-faults-gt-MOST_TOLD g c = sym (take_all MOST_TOLD c.args.faults.now (omega arith))
