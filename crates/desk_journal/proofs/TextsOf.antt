-- Bytes that are no text.
use Rattle.std.proofs.Common.{◌≡◌, refl, ℕ, List, Option, None, Bool, true, false}
use Rattle.std.proofs.lemmas.Str.{IsUtf8-from_is_utf8}
use Rattle.std.specs.Prelude.{IsUtf8}
use Rattle.std.specs.Str.{is_utf8}
use Rattle.desk_journal.specs.Lines.{text_of}

false_unless_true : (b : Bool) → (b ≡ true → ⊥) → b ≡ false
false_unless_true true never = absurd (never refl)
false_unless_true false never = refl

pub is_no_text : (body : List ℕ) → ¬ (IsUtf8 body) → None ≡ text_of body
is_no_text body never = rw (false_unless_true (is_utf8 body) (λ is. never (IsUtf8-from_is_utf8 body is))) refl
