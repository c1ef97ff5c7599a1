-- How a request that is asked between two lines of the journal is left without a reply.
use Rattle.std.proofs.Common.{◌≡◌, ◌⊎◌, refl, inl, inr, arith, ℕ, ◌++◌, List, [], Bool, Option, Result, Ok, Err, IfErr, IfOk, length, append-nil, subst, sym}
use Rattle.std.specs.Io.KnownBytes.{Keeps, Appends}
use Rattle.std.proofs.KnownBytes.{Appends-nil, Appends-kept, Keeps-refl}
use Rattle.std.proofs.lemmas.Result.{IfErr-weaker, IfOk-weaker}
use Rattle.std.specs.declared.alloc.Global.{Global}
use Rattle.std.specs.declared.vec.Vec.{Vec}
use Rattle.std.proofs.Math.Seq.{take-length}
use Rattle.sqlite.specs.Store.{Ghosts}
use Rattle.http_messages.specs.declared.wanting.Asking.{Asking}
use Rattle.plan_basics.specs.Watched.{AppendsBeginning}
use Rattle.desk_tables.specs.Desk.{DeskState}
use Rattle.tracker_http.specs.Journalled.{answer_lines, request_lines, Takes}
use Rattle.tracker_http.specs.declared.told.Told.{Told}
use Rattle.desk_journal.specs.Journals.{Journals}
use Rattle.desk_journal.specs.declared.journal.JournalFault.{JournalFault}
use Rattle.desk_journal.specs.declared.journal.JournalFault.TheVariants as fault
use Rattle.tracker_http.specs.Faulty.{IsReplyTo}
use Rattle.tracker_http.specs.Journalled.{AskedBreaksOff, ReadBreaksOff, Writes}
use Rattle.tracker_http.specs.Readings.{IsTurnedAway, ReadsFor}
use Rattle.tracker_http.specs.Told.{reply_of}
use Rattle.tracker_http.specs.declared.replying.ServeFault.{ServeFault}
use Rattle.tracker_http.specs.declared.told.Told.TheVariants as told
use Rattle.http_messages.specs.declared.statuses.Status.TheVariants as status
use Rattle.tracker_http.specs.declared.reading.Reading.{Reading}

-- bytes that stay have nothing added, a beginning of anything
none_added : (old new : Option (List ℕ)) (bytes : List ℕ) → Keeps old new → AppendsBeginning old new bytes
none_added old new bytes keeps = (0, omega arith, Appends-kept old old new [] (Appends-nil old) keeps)

-- and all of them is a beginning too
all_added : (old new : Option (List ℕ)) (bytes : List ℕ) → Appends old new bytes → AppendsBeginning old new bytes
all_added old new bytes added = (length bytes, omega arith, subst (Appends old new) (sym (take-length bytes)) added)

-- what is so is so of any fault
pub always_err : {T E X : Type 0} (r : Result T E) → X → IfErr r (λ (f : E). X)
always_err (Ok v) x = tt
always_err (Err f) x = x

module _ {S : Type 0} (g : Ghosts S) (ahead : Option ℕ) (a : Asking) (r : Reading) (d e : DeskState S) (old new : Option (List ℕ)) where
  lacking : ((e ≡ d) × (Keeps old new ⊎ Appends old new (request_lines d.plan r a))) ⊎ ((x : Told) × Takes g ahead a.asked d x e × Appends old new (request_lines d.plan r a)) → ReadBreaksOff g ahead a r d e old new
  lacking (inl none) = inl (none.0, elim none.1 [ inl keeps ↦ none_added old new _ keeps | inr added ↦ all_added old new _ added ])
  lacking (inr acted) = inr (acted.0, acted.1, (0, omega arith, subst (Appends old new) (sym (append-nil (request_lines d.plan r a))) acted.2))

  -- by a fault of the journal, or for want of memory before the answer's line
  pub breaks_off : (f : JournalFault) → Journals (Takes g ahead a.asked) (request_lines d.plan r a) (answer_lines a.asked) (Err f) d e old new → ReadBreaksOff g ahead a r d e old new
  breaks_off fault.Request h = inl h
  breaks_off fault.Answer h = inr h
  breaks_off fault.Memory h = lacking h

  -- for want of memory for the reply
  pub unmade : (x : Told) → Takes g ahead a.asked d x e → Appends old new (request_lines d.plan r a ++ answer_lines a.asked x) → ReadBreaksOff g ahead a r d e old new
  unmade x takes added = inr (x, takes, (length (answer_lines a.asked x), omega arith, subst (λ (more : List ℕ). Appends old new (request_lines d.plan r a ++ more)) (sym (take-length (answer_lines a.asked x))) added))

-- nothing was asked, and no line taken
pub kept : {S : Type 0} (d : DeskState S) (old : Option (List ℕ)) → (d ≡ d) × Keeps old old
kept d old = (refl, Keeps-refl old)

module _ {S : Type 0} (g : Ghosts S) (ahead : Option ℕ) (bound : Bool) (a : Asking) (r : Reading) (reads : ReadsFor a.asked r) where
  -- a request is turned away
  pub turned : IsTurnedAway bound a r → (d : DeskState S) (old : Option (List ℕ)) (q : Result (Vec ℕ Global) ServeFault)
      → IfOk q (λ reply. reply.items ≡ reply_of (told.Fault status.Forbidden))
      → IfOk q (λ reply. (lines : List ℕ) × Writes g ahead bound a d reply.items lines d × Appends old old lines)
  turned away d old (Ok reply) same = ([], (r, reads, inl (away, same, refl, refl)), Appends-nil old)
  turned away d old (Err f) same = tt

  module _ (let_in : ¬ IsTurnedAway bound a r) (d e : DeskState S) (old new : Option (List ℕ)) (q : Result (Vec ℕ Global) ServeFault) where
    -- it is asked, and told
    pub made_as_read : IfOk q (λ reply. (x : Told) × Takes g ahead a.asked d x e × IsReplyTo a.asked r x reply.items × Appends old new (request_lines d.plan r a ++ answer_lines a.asked x))
        → IfOk q (λ reply. (lines : List ℕ) × Writes g ahead bound a d reply.items lines e × Appends old new lines)
    made_as_read made =
        IfOk-weaker q (λ reply. (x : Told) × Takes g ahead a.asked d x e × IsReplyTo a.asked r x reply.items × Appends old new (request_lines d.plan r a ++ answer_lines a.asked x))
        (λ reply. (lines : List ℕ) × Writes g ahead bound a d reply.items lines e × Appends old new lines)
        (λ (reply : Vec ℕ Global) (h : (x : Told) × Takes g ahead a.asked d x e × IsReplyTo a.asked r x reply.items × Appends old new (request_lines d.plan r a ++ answer_lines a.asked x)).
        (request_lines d.plan r a ++ answer_lines a.asked h.0, (r, reads, inr (let_in, h.0, h.1, h.2, refl)), h.3)) made

    -- it is left without a reply
    pub broken_as_read : IfErr q (λ f. ReadBreaksOff g ahead a r d e old new) → IfErr q (λ f. AskedBreaksOff g ahead bound a d e old new)
    broken_as_read broken =
        IfErr-weaker q (λ f. ReadBreaksOff g ahead a r d e old new) (λ f. AskedBreaksOff g ahead bound a d e old new)
        (λ (f : ServeFault) (h : ReadBreaksOff g ahead a r d e old new). inr (r, reads, let_in, h)) broken
