-- How a request with a journal ends, once it is known which lines were taken.
use Rattle.std.proofs.Common.{◌≡◌, ◌≢◌, refl, inl, inr, ℕ, ◌≤◌, ◌++◌, List, [], Option, Some, None, Result, Ok, Err, length, take, append-nil, subst, sym}
use Rattle.std.specs.Io.KnownBytes.{Keeps, Appends}
use Rattle.std.proofs.KnownBytes.{Appends-trans, Appends-kept}
use Rattle.plan_basics.specs.Watched.{AppendsBeginning}
use Rattle.desk_journal.specs.declared.journal.JournalFault.{JournalFault}
use Rattle.desk_journal.specs.declared.journal.JournalFault.TheVariants as fault
use Rattle.desk_journal.specs.Journals.{Journals, Stands}

module _ {X S : Type 0} (Tells : S → X → S → Type 0) (line : List ℕ) (answer : X → List ℕ) (s t : S) (old new : Option (List ℕ)) where
  -- whatever acted stands in the journal
  pub stood : (r : Result X JournalFault) → Journals Tells line answer r s t old new → Stands line s t old new
  stood (Ok x) h = inr (answer x, h.1)
  stood (Err fault.Request) h = inl h.0
  stood (Err fault.Answer) h = inr (take h.2.0 (answer h.0), h.2.2)
  stood (Err fault.Memory) (inl h) = inl h.0
  stood (Err fault.Memory) (inr h) = inr ([], subst (Appends old new) (sym (append-nil line)) h.2)

  -- the request's line wasn't taken, and nothing was asked
  pub unasked : (f : JournalFault) → t ≡ s → (f ≡ fault.Answer → ⊥) → (f ≡ fault.Request → AppendsBeginning old new line) → (f ≡ fault.Memory → Keeps old new) → Journals Tells line answer (Err f) s t old new
  unasked fault.Request same never beginning memory = (same, beginning refl)
  unasked fault.Memory same never beginning memory = inl (same, inl (memory refl))
  unasked fault.Answer same never beginning memory = absurd (never refl)

  module _ (mid : Option (List ℕ)) (first : Appends old mid line) (x : X) (told : Tells s x t) where
    -- both lines are whole
    pub answered : Appends mid new (answer x) → Journals Tells line answer (Ok x) s t old new
    answered second = (told, Appends-trans old mid new line (answer x) first second)

    -- the answer's line wasn't taken
    pub untold : (f : JournalFault) → (f ≡ fault.Request → ⊥) → (f ≡ fault.Answer → AppendsBeginning mid new (answer x)) → (f ≡ fault.Memory → Keeps mid new) → Journals Tells line answer (Err f) s t old new
    untold fault.Answer never beginning memory =
        let second = beginning refl in
        (x, told, (second.0, second.1, Appends-trans old mid new line (take second.0 (answer x)) first second.2))
    untold fault.Memory never beginning memory = inr (x, told, Appends-kept old mid new line first (memory refl))
    untold fault.Request never beginning memory = absurd (never refl)
