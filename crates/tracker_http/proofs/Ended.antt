-- How an exchange ends, once it is known what is told.
use Rattle.std.proofs.Common.{◌≡◌, refl, inr, ℕ, List, Option, Some, None, Result, Ok, Err, IfErr, OnOk}
use Rattle.std.specs.Io.KnownBytes.{Keeps, Appends}
use Rattle.sqlite.specs.Held.{state}
use Rattle.sqlite.specs.Store.{Ghosts}
use Rattle.plan_basics.specs.Watched.{AppendsBeginning}
use Rattle.request_json.specs.declared.WireFault.{WireFault}
use Rattle.request_json.specs.declared.WireFault.TheVariants as fault
use Rattle.desk_tables.specs.Desk.{DeskState}
use Rattle.tracker_http.specs.Exchange.{seen, IsTold, StaysOpen, Ends}
use Rattle.tracker_http.specs.Told.{reply_of}
use Rattle.tracker_http.specs.declared.told.Told.{Told}

-- known bytes that stay keep themselves
pub keeps_itself : (known : Option (List ℕ)) → Keeps known known
keeps_itself None = tt
keeps_itself (Some bytes) = refl

module _ {S : Type 0} (g : Ghosts S) (known : Option (List ℕ)) (d e : DeskState S) (x : Told) (told : IsTold known (seen d) x (seen e)) (stays : StaysOpen (state g d.conn) (state g e.conn) x) where
  -- the reply was sent: whole, or up to a fault of the writer
  pub ends_sent : {U : Type 0} (r : Result U WireFault) (old new : Option (List ℕ)) (bytes : List ℕ)
      → bytes ≡ reply_of x → OnOk r (Appends old new bytes) → AppendsBeginning old new bytes → IfErr r (λ f. f ≡ fault.Writer)
      → Ends g r known d e old new
  ends_sent (Ok u) old new bytes is whole beginning is_writer = (bytes, (x, told, stays, is), whole)
  ends_sent (Err fault.Writer) old new bytes is whole beginning is_writer = (bytes, (x, told, stays, is), beginning)
  ends_sent (Err fault.Reader) old new bytes is whole beginning is_writer = absurd cc
  ends_sent (Err fault.Memory) old new bytes is whole beginning is_writer = absurd cc

  -- there was no memory for the reply: nothing is written
  pub ends_unsent : {U : Type 0} (r : Result U WireFault) (old new : Option (List ℕ))
      → r ≡ Err fault.Memory → Keeps old new → Ends g r known d e old new
  ends_unsent (Ok u) old new is keeps = absurd cc
  ends_unsent (Err fault.Writer) old new is keeps = absurd cc
  ends_unsent (Err fault.Reader) old new is keeps = absurd cc
  ends_unsent (Err fault.Memory) old new is keeps = (keeps, inr (reply_of x, (x, told, stays, refl), tt))
