-- Faults by which connections are served no longer, and what they leave of the desk.
use Rattle.std.proofs.Common.{◌≡◌, ◌⊎◌, inl, inr, ap, Bool, true, Result, Ok, Err, IfErr, IsErr}
use Rattle.std.proofs.lemmas.Bool.{false≢true}
use Rattle.command_answers.specs.declared.endings.Fault.{Fault}
use Rattle.command_answers.specs.declared.endings.Fault.TheVariants as fault

-- where starts couldn't be noted the desk is as usable as before the connection, and so as before those that were served ahead of it
pub usable_before : (was mid is : Bool) → (was ≡ true → mid ≡ true) → (r : Result Bool Fault)
    → IfErr r (λ f. (f ≡ fault.File) ⊎ ((f ≡ fault.Memory) × (mid ≡ true → is ≡ true))) → IfErr r (λ f. (f ≡ fault.File) ⊎ ((f ≡ fault.Memory) × (was ≡ true → is ≡ true)))
usable_before was mid is one (Ok x) h = tt
usable_before was mid is one (Err f) (inl file) = inl file
usable_before was mid is one (Err f) (inr memory) = inr (memory.0, λ usable. memory.1 (one usable))

-- so it is usable, or it is another fault
pub usable_or_file : (was is : Bool) (r : Result (Unit {0}) Fault) → IsErr r
    → IfErr r (λ f. (f ≡ fault.File) ⊎ ((f ≡ fault.Memory) × (was ≡ true → is ≡ true))) → was ≡ true → (is ≡ true) ⊎ (r ≡ Err fault.File)
usable_or_file was is (Ok x) none h usable = absurd (false≢true none)
usable_or_file was is (Err f) some (inl file) usable = inr (ap Err file)
usable_or_file was is (Err f) some (inr memory) usable = inl (memory.1 usable)

-- and there are no others than these
pub of_three : (was is : Bool) (r : Result (Unit {0}) Fault)
    → IfErr r (λ f. (f ≡ fault.File) ⊎ ((f ≡ fault.Memory) × (was ≡ true → is ≡ true))) → IfErr r (λ f. (f ≡ fault.File) ⊎ (f ≡ fault.Memory) ⊎ (f ≡ fault.Network))
of_three was is (Ok x) h = tt
of_three was is (Err f) (inl file) = inl file
of_three was is (Err f) (inr memory) = inr (inl memory.0)
