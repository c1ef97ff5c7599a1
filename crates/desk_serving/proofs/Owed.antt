-- What is shown where a text is made of a desk, or the refusal that it owes.
use Rattle.std.proofs.Common.{◌≡◌, ◌∙◌, ap, false, true, List, ℕ, Option, Some, None, Result, Ok, Err, IfOk, IfErr, IsErr, MatchResult}
use Rattle.std.specs.declared.alloc.Global.{Global}
use Rattle.std.specs.declared.vec.Vec.{Vec}
use Rattle.plan_basics.specs.declared.Refusal.{Refusal}
use Rattle.plan_basics.specs.declared.Refusal.TheVariants as refusal
use Rattle.plan_reports.specs.Reports.{IsOwed}
use Rattle.desk_serving.specs.Shown.{refused_reply, ShowsBy, ShowsIn}

module _ {E : Type 0} (refusing : Refusal → List ℕ) (form : List ℕ → List ℕ) (owed : Option Refusal) (IsText : List ℕ → Type 0) where
  -- a text that is none's refusal is shown; of a refusal that isn't want of memory, the one that is owed
  pub shows_by : (made : Result (Vec ℕ Global) Refusal) (result : Result (Vec ℕ Global) E)
      → IfOk made (λ text. IsText text.items) → IfOk made (λ text. owed ≡ None) → IfErr made (IsOwed owed)
      → IfOk result (λ output. MatchResult made (λ text. output.items ≡ form text.items) (λ r. output.items ≡ refusing r))
      → (made ≡ Err refusal.Memory → IsErr result)
      → IfOk result (λ output. ShowsBy refusing form owed IsText output.items)
  shows_by made (Err e) is none refused out memory = tt
  shows_by (Ok text) (Ok output) is none refused out memory = rw none (text.items, is, out)
  shows_by (Err r) (Ok output) is none refused out memory = by owed refused
    where
      by : (o : Option Refusal) → IsOwed o r → ShowsBy refusing form o IsText output.items
      by (Some q) same = out ∙ ap refusing same
      by None lacks = let wrong : false ≡ true = memory (ap Err lacks) in absurd cc

-- so, where a refusal is told as a value
abbrev pub shows_made : {E : Type 0} (form : List ℕ → List ℕ) (owed : Option Refusal) (IsText : List ℕ → Type 0) (made : Result (Vec ℕ Global) Refusal) (result : Result (Vec ℕ Global) E)
    → IfOk made (λ text. IsText text.items) → IfOk made (λ text. owed ≡ None) → IfErr made (IsOwed owed)
    → IfOk result (λ output. MatchResult made (λ text. output.items ≡ form text.items) (λ r. output.items ≡ refused_reply r))
    → (made ≡ Err refusal.Memory → IsErr result)
    → IfOk result (λ output. ShowsIn form owed IsText output.items)
shows_made = shows_by refused_reply
