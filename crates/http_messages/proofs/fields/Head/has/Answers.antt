use Rattle.std.proofs.Common.{◌≡◌, ◌↔◌, refl, Bool, true, false, not, IsTrue}
use Rattle.std.proofs.lemmas.Bool.{false≢true}
use Rattle.http_messages.proofs.fields.Head.has.Goals as goal

-- what isn't so is told by what is
turned : {P : Type 0} → (b : Bool) → (IsTrue b ↔ P) → IsTrue (not b) ↔ (¬ P)
turned true told = (λ wrong. absurd (false≢true wrong), λ never. absurd (never (told.0 refl)))
turned false told = (λ is p. false≢true (told.1 p), λ never. refl)

pub returns : goal.returns
returns c = turned c.are_absent.result (c.are_absent.ensures _ c.values.ensures)
