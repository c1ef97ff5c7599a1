-- What a text is told, as a value.
use Rattle.std.proofs.Common.{◌≡◌, ◌∙◌, refl, ap, ℕ, List, false, map}
use Rattle.serde_json.specs.Data.{Data, string}
use Rattle.serde_json.specs.Written.{has_float}
use Rattle.tracker_http.proofs.Faulted.{lines_plain}
use Rattle.desk_serving.specs.Judged.{judged_data}

-- it has no float
pub judged_plain : (faults warnings : List (List ℕ)) → has_float (judged_data (map string faults) (map string warnings)) ≡ false
judged_plain faults warnings = rw (lines_plain faults, lines_plain warnings) refl

-- by the same values it is the same
pub judged_same : (a b c d : List Data) → a ≡ b → c ≡ d → judged_data a c ≡ judged_data b d
judged_same a b c d same alike = ap (λ x. judged_data x c) same ∙ ap (judged_data b) alike
