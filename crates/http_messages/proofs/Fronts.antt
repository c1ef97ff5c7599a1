-- What the bytes that were taken from an input say of the whole.
use Rattle.std.proofs.Common.{◌≡◌, ◌∙◌, refl, sym, ap, arith, ℕ, ◌+◌, ◌-◌, ◌<◌, ◌≤◌, ◌++◌, List, Option, Some, None, IfSome, take, length, take_at, length-append}
use Rattle.std.proofs.Math.Seq.{take-append-add}
use Rattle.std.specs.Io.KnownBytes.{Consumes, IsAtEnd}
use Rattle.httparse.specs.Grammar.{RequestHead, HasNoRequest, print_request}
use Rattle.httparse.specs.Spans.{RequestOverflows}
use Rattle.http_messages.specs.declared.asking.TheConstants.{MOST_HEAD_BYTES, MOST_FIELDS}
use Rattle.http_messages.specs.Tests.{HasHead}

-- the first bytes of an input that begins with these
take-past : (front rest : List ℕ) (room : ℕ) → length front ≤ room → take room (front ++ rest) ≡ front ++ take (room - length front) rest
take-past front rest room h =
    let split : room ≡ length front + (room - length front) = omega arith in
    ap (λ n. take n (front ++ rest)) split ∙ take-append-add front rest (room - length front)

-- a front of an input begins with what the input begins with, if that is no longer
begins : (front left text rest : List ℕ) → front ++ left ≡ text ++ rest → length text ≤ length front → front ≡ text ++ take (length front - length text) rest
begins front left text rest e h = sym (take_at front left (length front) refl) ∙ ap (take (length front)) e ∙ take-past text rest (length front) h

-- the whole input was taken, or as many bytes as a head may have
pub data IsEnough (new : Option (List ℕ)) (front : List ℕ) : Type 0 where
  ended : IsAtEnd new → IsEnough new front
  full : MOST_HEAD_BYTES ≤ length front → IsEnough new front

-- enough bytes without a head: the input has none
pub none_in_enough : (old new : Option (List ℕ)) (front : List ℕ) → Consumes old new front → IsEnough new front → HasNoRequest front → IfSome old (λ input. (head : RequestHead) (rest : List ℕ) → ¬ HasHead input head rest)
none_in_enough None new front taken enough none = tt
none_in_enough (Some input) None front taken enough none = absurd taken
none_in_enough (Some input) (Some left) front taken enough none = λ head rest has.
    let same : front ++ left ≡ print_request head ++ rest = sym taken ∙ has.reads.1 in
    none head _ (has.reads.0, begins front left (print_request head) rest same (reaches left front (print_request head) rest enough same has.short))
  where
    reaches : (left front text rest : List ℕ) → IsEnough (Some left) front → front ++ left ≡ text ++ rest → length text ≤ MOST_HEAD_BYTES → length text ≤ length front
    reaches left front text rest (ended e) same short = omega (arith, simp length-append at (ap length same), ap length e)
    reaches left front text rest (full e) same short = omega arith

-- bytes that begin no head of few enough fields, whatever follows: the input has none
pub none_in_room : (old new : Option (List ℕ)) (front : List ℕ) → Consumes old new front → RequestOverflows MOST_FIELDS front → IfSome old (λ input. (head : RequestHead) (rest : List ℕ) → ¬ HasHead input head rest)
none_in_room None new front taken over = tt
none_in_room (Some input) None front taken over = absurd taken
none_in_room (Some input) (Some left) front taken over = λ head rest has.
    let many : MOST_FIELDS < length head.fields = over left head rest (has.reads.0, sym taken ∙ has.reads.1) in
    let few = has.few in
    absurd (omega arith)
