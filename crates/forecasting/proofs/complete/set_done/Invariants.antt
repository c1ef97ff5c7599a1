use Rattle.std.specs.FinMap.{entries}
use Rattle.forecasting.proofs.AfterRequest.{Completes}
use Rattle.forecasting.proofs.TimesSet.{AreSetUpTo}
use Rattle.forecasting.proofs.complete.set_done.Given as goal

abbrev pub invariant-loop-place : goal.invariant-loop-place
invariant-loop-place l = AreSetUpTo (Completes l.fn.loaded) (λ o. l.fn.at) (entries l.fn.loaded.operations) l.places l.fn.done l.done l.place-index
