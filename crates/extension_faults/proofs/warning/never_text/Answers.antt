use Rattle.std.proofs.Common.{append_assoc, codes, refl}
use Rattle.extension_faults.proofs.warning.never_text.Goals as goal

pub returns : goal.returns
returns c = (
  codes "operation: no open interval to come of its workstation has the servers, R1 and R2 that it needs: it never starts",
  simp (c.in_ok-text.ensures.ok, append_assoc) refl,
)
