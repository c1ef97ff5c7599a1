-- What the parts of an answer say of the whole.
use Rattle.std.proofs.Common.{◌≡◌, ◌∙◌, ap, subst, sym, arith, ℕ, ◌≤◌, ◌++◌, List, Option, Some, None, Result, Ok, Err, IfSome, IfOk, IsOkAnd, MatchResult, length, take, drop, map, append_assoc, inr}
use Rattle.std.specs.Option.{option_map, ok_or}
use Rattle.std.proofs.lemmas.List.{length-map, length-take}
use Rattle.httparse.specs.Grammar.{print_request}
use Rattle.httparse.specs.Spans.{span_bytes, header_bytes, name_and_value}
use Rattle.httparse.specs.declared.spans.HeaderSpan.{HeaderSpan}
use Rattle.httparse.specs.declared.spans.RequestSpans.{RequestSpans}
use Rattle.http_messages.specs.declared.asking.TheConstants.{MOST_HEAD_BYTES, MOST_FIELDS}
use Rattle.http_messages.specs.declared.asking.Asked.{Asked}
use Rattle.http_messages.specs.declared.asking.Rejection.{Rejection}
use Rattle.http_messages.specs.declared.asking.Rejection.TheVariants as test
use Rattle.http_messages.specs.Heads.{request_at, ShowsHead, IsFront}
use Rattle.http_messages.specs.declared.routes.Route.{Route}
use Rattle.http_messages.specs.declared.statuses.Method.TheVariants as method
use Rattle.http_messages.specs.Routes.{method_of}
use Rattle.http_messages.specs.Tests.{Request, IsRequestIn, Takes, SendsBody, HasGoodLengthIn, HasBodyIn, FailsIn, AsksIn, ComesToIn, AnswersIn}

-- a body that was read, or that was cut short
pub body_answer : {A : Type 0} (most : ℕ) (request : Request) (n : ℕ) (found : Option A) (items : A → List ℕ)
    → HasGoodLengthIn most request n → IsFront request.rest n (option_map items found)
    → MatchResult (ok_or found test.CutShort) (λ body. HasBodyIn most request (items body)) (FailsIn most request)
body_answer most request n (Some body) items good front = (n, good, front.0, front.1)
body_answer most request n None items good front = (n, good, front)

-- what is so of a method and a target, whatever else there is, is so of the request that has them
pub of_line : (F : Request → Type 0) (method target bytes : List ℕ) (headers : List HeaderSpan) (spans : RequestSpans) (left : List ℕ)
    → method ≡ span_bytes bytes spans.method → target ≡ span_bytes bytes spans.path
    → ((fields : List (List ℕ × List ℕ)) (rest : List ℕ) → F (record { method = method; target = target; fields = fields; rest = rest }))
    → F (request_at bytes headers spans left)
of_line F method target bytes headers spans left m t h =
    let with_both : List ℕ → List ℕ → Request = λ a b. record { method = a; target = b; fields = map (header_bytes bytes) (take spans.headers headers); rest = drop spans.len bytes ++ left } in
    subst (λ (a : List ℕ). F (with_both a (span_bytes bytes spans.path))) m (subst (λ (b : List ℕ). F (with_both method b)) t (h _ _))

-- a request of a route that takes a body comes to what is asked with its body, or to the first test that the body fails
pub sent : {A : Type 0} (most : ℕ) (known : Option (List ℕ)) (request : List ℕ → Request) (r : Route) (items : A → List ℕ) (ask : A → Asked) (found : Result A Rejection) (answer : Result Asked Rejection)
    → method_of r ≡ method.Post → ((q : Request) (body : A) → Takes q r × HasBodyIn most q (items body) → AsksIn most q (ask body)) → ((left : List ℕ) → Takes (request left) r)
    → MatchResult found (λ body. IsOkAnd answer (λ asked. asked ≡ ask body)) (λ test. answer ≡ Err test)
    → IfSome known (λ left. SendsBody (request left) → MatchResult found (λ body. HasBodyIn most (request left) (items body)) (FailsIn most (request left)))
    → IfSome known (λ left. ComesToIn most (request left) answer)
sent most None request r items ask found answer post asks takes made h = tt
sent most (Some left) request r items ask (Ok body) (Ok asked) post asks takes made h = subst (AsksIn most (request left)) (sym made) (asks (request left) body (takes left, h (r, takes left, post)))
sent most (Some left) request r items ask (Ok body) (Err test) post asks takes made h = absurd made
sent most (Some left) request r items ask (Err test) answer post asks takes made h = subst (ComesToIn most (request left)) (sym made) (h (r, takes left, post))

-- the request whose head was read is the input's
pub in_input : (input left bytes : List ℕ) (headers : List HeaderSpan) (spans : RequestSpans) → length bytes ≤ MOST_HEAD_BYTES → length headers ≤ MOST_FIELDS
    → ShowsHead (Some input) (Some left) bytes headers spans → IsRequestIn input (request_at bytes headers spans left)
in_input input left bytes headers spans short few shown =
    let (head, parts) = shown.shows in
    let long = parts.len in
    let fits = shown.within.section.len_fits in
    let count : length head.fields ≤ length headers =
    omega (arith, ap length parts.fields, length-map (take spans.headers headers) (header_bytes bytes), length-map head.fields name_and_value, length-take spans.headers headers) in (
      head,
      record {
        reads = (parts.reads.0, shown.taken ∙ ap (λ l. l ++ left) parts.reads.1 ∙ append_assoc (print_request head) (drop spans.len bytes) left);
        short = omega arith;
        few = omega arith;
      },
      parts.method,
      parts.path,
      parts.fields,
    )

-- what the request comes to is what the input comes to
pub answered : {E : Type 0} (most : ℕ) (old new : Option (List ℕ)) (bytes : List ℕ) (headers : List HeaderSpan) (spans : RequestSpans)
    → length bytes ≤ MOST_HEAD_BYTES → length headers ≤ MOST_FIELDS → ShowsHead old new bytes headers spans
    → (r : Result (Result Asked Rejection) E) → IfOk r (λ answer. IfSome new (λ left. ComesToIn most (request_at bytes headers spans left) answer))
    → IfOk r (λ answer. IfSome old (λ input. AnswersIn most input answer))
answered most old new bytes headers spans short few shown (Err e) h = tt
answered most None new bytes headers spans short few shown (Ok answer) h = tt
answered most (Some input) None bytes headers spans short few shown (Ok answer) h = absurd shown.taken
answered most (Some input) (Some left) bytes headers spans short few shown (Ok answer) h = inr (request_at bytes headers spans left, in_input input left bytes headers spans short few shown, h)
