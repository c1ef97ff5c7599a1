-- What a request comes to that may look at something is what its input comes to.
use Rattle.std.proofs.Common.{◌≤◌, List, ℕ, Option, Some, None, Result, Ok, Err, IfSome, IfOk, length, inr}
use Rattle.httparse.specs.declared.spans.HeaderSpan.{HeaderSpan}
use Rattle.httparse.specs.declared.spans.RequestSpans.{RequestSpans}
use Rattle.http_messages.specs.declared.asking.TheConstants.{MOST_HEAD_BYTES, MOST_FIELDS}
use Rattle.http_messages.specs.declared.asking.Rejection.{Rejection}
use Rattle.http_messages.specs.declared.wanting.Wanted.{Wanted}
use Rattle.http_messages.specs.Heads.{request_at, ShowsHead}
use Rattle.http_messages.specs.Looks.{AnswersWanted, ComesToWanted}
use Rattle.http_messages.proofs.Answered.{in_input}

pub wanted_answered : {E : Type 0} (most : ℕ) (old new : Option (List ℕ)) (bytes : List ℕ) (headers : List HeaderSpan) (spans : RequestSpans)
    → length bytes ≤ MOST_HEAD_BYTES → length headers ≤ MOST_FIELDS → ShowsHead old new bytes headers spans
    → (r : Result (Result Wanted Rejection) E) → IfOk r (λ answer. IfSome new (λ left. ComesToWanted most (request_at bytes headers spans left) answer))
    → IfOk r (λ answer. IfSome old (λ input. AnswersWanted most input answer))
wanted_answered most old new bytes headers spans short few shown (Err e) h = tt
wanted_answered most None new bytes headers spans short few shown (Ok answer) h = tt
wanted_answered most (Some input) None bytes headers spans short few shown (Ok answer) h = absurd shown.taken
wanted_answered most (Some input) (Some left) bytes headers spans short few shown (Ok answer) h = inr (request_at bytes headers spans left, in_input input left bytes headers spans short few shown, h)
