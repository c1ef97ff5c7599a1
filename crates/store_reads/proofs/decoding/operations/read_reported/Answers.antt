use Rattle.store_reads.proofs.decoding.operations.read_reported.Goals as goal

pub returns-in_err-mark : goal.returns-in_err-mark
returns-in_err-mark c = rw c.from_residual.ensures (λ r h. c.in_err-mark.ensures r.mark h.mark)
