-- How an exchange ends, once it is known what is wanted.
use Rattle.std.proofs.Common.{◌≡◌, refl, inl, inr, ℕ, ◌⊎◌, List, [], Option, Result, Ok, Err, IfErr, IfOk, OnOk, take, subst, sym}
use Rattle.std.specs.Io.KnownBytes.{Keeps, Appends}
use Rattle.std.specs.declared.alloc.Global.{Global}
use Rattle.std.specs.declared.vec.Vec.{Vec}
use Rattle.std.proofs.KnownBytes.{Appends-nil}
use Rattle.std.proofs.lemmas.Result.{IfErr-at_err}
use Rattle.sqlite.specs.Store.{Ghosts}
use Rattle.http_messages.specs.declared.asking.Rejection.{Rejection}
use Rattle.http_messages.specs.declared.looks.Look.{Look}
use Rattle.http_messages.specs.declared.wanting.Asking.{Asking}
use Rattle.http_messages.specs.declared.wanting.Wanted.{Wanted}
use Rattle.http_messages.specs.declared.wanting.Wanted.TheVariants as wanted
use Rattle.http_messages.specs.Tests.{status_of as status_of_test}
use Rattle.plan_basics.specs.Watched.{AppendsBeginning}
use Rattle.tracker_http.specs.desk_tables.specs.Desk.{DeskState}
use Rattle.tracker_http.specs.Journalled.{answer_lines, AskedBreaksOff}
use Rattle.tracker_http.specs.Journalled.{Writes as AskedWrites}
use Rattle.tracker_http.specs.Told.{reply_of}
use Rattle.tracker_http.specs.declared.told.Told.TheVariants as told
use Rattle.tracker_http.proofs.Ended.{keeps_itself}
use Rattle.desk_serving.specs.Served.{BreaksOff, Ends, IsWanted, Serves, Stands, Unanswered, Writes}
use Rattle.desk_serving.specs.Shown.{Shows}
use Rattle.tracker_http.specs.declared.replying.ServeFault.{ServeFault}
use Rattle.tracker_http.specs.declared.replying.ServeFault.TheVariants as fault
use Rattle.desk_serving.specs.declared.terms.Terms.{Terms}

module _ {S : Type 0} (g : Ghosts S) (terms : Terms) (known : Option (List ℕ)) (d e : DeskState S) (old new : Option (List ℕ)) where
  -- what is written of an exchange whose lines are taken has its request's line in the journal
  stood_of : (found : Result Wanted Rejection) → IsWanted known found → (output lines : List ℕ) → Writes g terms found d output lines e → Appends old new lines → Stands known d e old new
  stood_of (Ok (wanted.Asked a)) is output lines (r, reads, inl turned) taken = inl turned.2
  stood_of (Ok (wanted.Asked a)) is output lines (r, reads, inr made) taken = inr (a, is, (r, reads, (answer_lines a.asked made.1, subst (Appends old new) made.4 taken)))
  stood_of (Ok (wanted.Look l)) is output lines w taken = inl w.1
  stood_of (Err test) is output lines w taken = inl w.1

  asked_stood : (a : Asking) → IsWanted known (Ok (wanted.Asked a)) → AskedBreaksOff g terms.ahead terms.bound a d e old new → Stands known d e old new
  asked_stood a is (inl none) = inl none.0
  asked_stood a is (inr (r, reads, let_in, inl none)) = inl none.0
  asked_stood a is (inr (r, reads, let_in, inr acted)) = inr (a, is, (r, reads, (take acted.2.0 (answer_lines a.asked acted.0), acted.2.2)))

  broken_stood : BreaksOff g terms known d e old new → Stands known d e old new
  broken_stood (inl none) = inl none.0
  broken_stood (inr asked) = asked_stood asked.0 asked.1 asked.2

  -- however it ends, whatever acted stands in the journal
  pub stood : {U : Type 0} (r : Result U ServeFault) (client : Option (List ℕ) × Option (List ℕ)) → Ends g terms r known d e client (old, new) → Stands known d e old new
  stood (Ok u) client h = stood_of h.2.0 h.2.1 h.0 h.1 h.2.2 h.4
  stood (Err fault.Writer) client h = stood_of h.2.0 h.2.1 h.0 h.1 h.2.2 h.4
  stood (Err fault.Reader) client h = inl h.1.0
  stood (Err fault.Memory) client h = broken_stood h.1
  stood (Err fault.Journal) client h = broken_stood h.1

  -- what a request that is wanted is told is served
  pub serves_asked : (a : Asking) → IsWanted known (Ok (wanted.Asked a)) → (r : Result (Vec ℕ Global) ServeFault)
      → IfOk r (λ reply. (lines : List ℕ) × AskedWrites g terms.ahead terms.bound a d reply.items lines e × Appends old new lines)
      → IfOk r (λ reply. (lines : List ℕ) × Serves g terms known d reply.items lines e × Appends old new lines)
  serves_asked a is (Ok reply) h = (h.0, (Ok (wanted.Asked a), is, h.1), h.2)
  serves_asked a is (Err f) h = tt

  -- and so it is left without a reply
  pub breaks_asked : (a : Asking) → IsWanted known (Ok (wanted.Asked a)) → (r : Result (Vec ℕ Global) ServeFault)
      → IfErr r (λ f. AskedBreaksOff g terms.ahead terms.bound a d e old new) → IfErr r (λ f. (f ≡ fault.Memory) ⊎ (f ≡ fault.Journal))
      → IfErr r (λ f. Unanswered g terms known f d e old new)
  breaks_asked a is (Ok reply) h either = tt
  breaks_asked a is (Err fault.Memory) h either = inr (a, is, h)
  breaks_asked a is (Err fault.Journal) h either = inr (a, is, h)
  breaks_asked a is (Err fault.Reader) h either = elim either [ inl memory ↦ absurd cc | inr journal ↦ absurd cc ]
  breaks_asked a is (Err fault.Writer) h either = elim either [ inl memory ↦ absurd cc | inr journal ↦ absurd cc ]

  -- where there is no reply nothing is written
  pub ends_unanswered : (U : Type 0) (f : ServeFault) (client : Option (List ℕ) × Option (List ℕ)) → Keeps client.0 client.1 → Unanswered g terms known f d e old new
      → Ends {U = U} g terms (Err f) known d e client (old, new)
  ends_unanswered U fault.Memory client keeps u = (keeps, u)
  ends_unanswered U fault.Reader client keeps u = (keeps, u)
  ends_unanswered U fault.Journal client keeps u = (keeps, u)
  ends_unanswered U fault.Writer client keeps u = absurd u

  -- that isn't for a fault of the writer
  pub never_writer : (U : Type 0) (r : Result U ServeFault) (f : ServeFault) → r ≡ Err f → Unanswered g terms known f d e old new → r ≡ Err fault.Writer → ⊥
  never_writer U r f is u same =
      IfErr-at_err (λ (x : ServeFault). Unanswered g terms known x d e old new) same
      (subst (λ (q : Result U ServeFault). IfErr q (λ (x : ServeFault). Unanswered g terms known x d e old new)) (sym is) u)

  -- a reply is sent: whole, or up to a fault of the writer
  pub ends_sent : {U : Type 0} (r : Result U ServeFault) (client : Option (List ℕ) × Option (List ℕ)) (output bytes : List ℕ) → bytes ≡ output
      → ((lines : List ℕ) × Serves g terms known d output lines e × Appends old new lines)
      → OnOk r (Appends client.0 client.1 bytes) → AppendsBeginning client.0 client.1 bytes → IfErr r (λ f. f ≡ fault.Writer)
      → Ends g terms r known d e client (old, new)
  ends_sent (Ok u) client output bytes same served whole begun is_writer = (output, served.0, served.1, subst (Appends client.0 client.1) same whole, served.2)
  ends_sent (Err fault.Writer) client output bytes same served whole begun is_writer = (output, served.0, served.1, subst (AppendsBeginning client.0 client.1) same begun, served.2)
  ends_sent (Err fault.Reader) client output bytes same served whole begun is_writer = absurd cc
  ends_sent (Err fault.Memory) client output bytes same served whole begun is_writer = absurd cc
  ends_sent (Err fault.Journal) client output bytes same served whole begun is_writer = absurd cc

module _ {S : Type 0} (g : Ghosts S) (terms : Terms) (known : Option (List ℕ)) (d : DeskState S) (kept : Option (List ℕ)) where
  -- what is looked at is served, and no line is taken
  pub serves_look : (l : Look) → IsWanted known (Ok (wanted.Look l)) → (output : List ℕ) → Shows terms l d output → (lines : List ℕ) × Serves g terms known d output lines d × Appends kept kept lines
  serves_look l is output shows = ([], (Ok (wanted.Look l), is, (shows, refl, refl)), Appends-nil kept)

  -- and so is the first test that fails
  pub serves_test : (test : Rejection) → IsWanted known (Err test) → (output : List ℕ) → output ≡ reply_of (told.Fault (status_of_test test)) → (lines : List ℕ) × Serves g terms known d output lines d × Appends kept kept lines
  serves_test test is output tells = ([], (Err test, is, (tells, refl, refl)), Appends-nil kept)

  -- where nothing was asked there is no reply, for want of memory
  pub unanswered : Unanswered g terms known fault.Memory d d kept kept
  unanswered = inl (refl, keeps_itself kept)
