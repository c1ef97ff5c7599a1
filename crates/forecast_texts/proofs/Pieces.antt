-- The line of a reason, without its end.
use Rattle.std.proofs.Common.{◌≡◌, refl, sym, ◌∙◌, ap, arith, ℕ, ◌+◌, ◌-◌, List, [], ◌∷◌, ◌++◌, length, take}
use Rattle.std.specs.List.{concat}
use Rattle.std.proofs.lemmas.List.{append_assoc, length-append}
use Rattle.std.proofs.Math.Seq.{take-append_seam}
use Rattle.plan_outlooks.specs.plan_reasons.specs.Texts.{line}

-- a line is its pieces and LF
pub pieces_line : (pieces : List (List ℕ)) → line pieces ≡ concat pieces ++ 10 ∷ []
pieces_line [] = refl
pieces_line (p ∷ ps) = ap (λ text. p ++ text) (pieces_line ps) ∙ sym (append_assoc p (concat ps) (10 ∷ []))

-- what is taken of a line without its end is its front
pub front_of : (front line : List ℕ) → line ≡ front ++ 10 ∷ [] → take (length line - 1) line ≡ front
front_of front line is =
    let many : length (front ++ 10 ∷ []) ≡ length front + 1 = length-append front (10 ∷ []) in
    let count : length (front ++ 10 ∷ []) - 1 ≡ length front = omega (arith, many) in
    ap (λ xs. take (length xs - 1) xs) is ∙ ap (λ n. take n (front ++ 10 ∷ [])) count ∙ take-append_seam front (10 ∷ [])
