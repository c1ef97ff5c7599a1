-- Texts that say no moment.
use Rattle.std.proofs.Common.{◌≡◌, ◌↔◌, sym, subst, ℕ, ℤ, List, Option, Some, None, IsSome}
use Rattle.std.proofs.lemmas.Bool.{true≢false}
use Rattle.plan_basics.specs.Minutes.{IsMinuteText}
use Rattle.command_answers.specs.Given.{IsMinuteGiven, IsNoMinute, IsNoMinuteGiven}

-- where no minute is found that a text says, it says none
pub no_minute : {V : Type 0} (text : List ℕ) (found : Option V) → found ≡ None → IsSome found ↔ ((z : ℤ) × IsMinuteText text z) → IsNoMinute text
no_minute text found none iff z says = true≢false (sym (subst IsSome none (iff.1 (z, says))))

-- words that give such a text give no minute
pub no_minute_given : (given : Option (List ℕ)) (text : List ℕ) → given ≡ Some text → IsNoMinute text → IsNoMinuteGiven given
no_minute_given given text is none z says = by z (subst (λ g. IsMinuteGiven g z) is says)
  where
    by : (m : Option ℤ) → IsMinuteGiven (Some text) m → ⊥
    by (Some m) h = none m h
    by None h = h
