-- Without a guard each request is told what it is told.
use Rattle.std.proofs.Common.{inl, inr, ℤ, None}
use Rattle.http_messages.specs.declared.asking.Asked.{Asked}
use Rattle.http_messages.specs.declared.asking.Asked.TheVariants as asked
use Rattle.plan_records.specs.Run.{plain}
use Rattle.tracker_http.specs.Exchange.{Seen, Tells, TellsAnswer, report_call}
use Rattle.tracker_http.specs.Guard.{Guarded, TellsWithin}
use Rattle.tracker_http.specs.declared.told.Told.{Told}

-- there is nothing that is too far ahead
unguarded : (at : ℤ) (TellsUnguarded : Seen → Told → Seen → Type 0) (s : Seen) (x : Told) (t : Seen) → Guarded None at TellsUnguarded s x t → TellsUnguarded s x t
unguarded at TellsUnguarded s x t (inl far) = absurd far.0
unguarded at TellsUnguarded s x t (inr near) = near.1

pub tells_unguarded : (a : Asked) (s : Seen) (x : Told) (t : Seen) → TellsWithin None a s x t → Tells a s x t
tells_unguarded (asked.Report body) s x t (inl made) = inl (made.0, made.1, unguarded made.0.request.at (TellsAnswer (report_call made.0 body.items)) s x t made.2)
tells_unguarded (asked.Report body) s x t (inr none) = inr none
tells_unguarded (asked.Operator body) s x t (inl made) = inl (made.0, made.1, unguarded made.0.at (TellsAnswer (plain made.0)) s x t made.2)
tells_unguarded (asked.Operator body) s x t (inr none) = inr none
tells_unguarded (asked.Ready name) s x t h = h
tells_unguarded asked.Occurrences s x t h = h
