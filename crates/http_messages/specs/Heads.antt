-- What reading says of a reader's bytes: the head that was read, and the body after it.
use Rattle.std.specs.Prelude.{◌≡◌, ℕ, ◌<◌, ◌≤◌, List, [], ◌∷◌, ◌++◌, length, take, drop, map, Option, Some, None, IfSome}
use Rattle.std.specs.Io.KnownBytes.{Consumes}
use Rattle.httparse.specs.Grammar.{RequestHead}
use Rattle.httparse.specs.Spans.{span_bytes, header_bytes, IsRequestOf, IsRequestWithin}
use Rattle.httparse.specs.declared.spans.HeaderSpan.{HeaderSpan}
use Rattle.httparse.specs.declared.spans.RequestSpans.{RequestSpans}
use Rattle.http_messages.specs.declared.fields.Values.{Values}
use Rattle.http_messages.specs.declared.fields.Values.TheVariants as value
use Rattle.http_messages.specs.Tests.{Request, HasHead}

-- the request whose head these bytes begin with, where the spans are; `left` is what comes after the bytes
abbrev pub request_at : List ℕ → List HeaderSpan → RequestSpans → List ℕ → Request
request_at bytes headers spans left = record {
  method = span_bytes bytes spans.method;
  target = span_bytes bytes spans.path;
  fields = map (header_bytes bytes) (take spans.headers headers);
  rest = drop spans.len bytes ++ left;
}

-- the bytes that were taken begin with the head that the spans show
pub record ShowsHead (old new : Option (List ℕ)) (bytes : List ℕ) (headers : List HeaderSpan) (spans : RequestSpans) : Type 0 where
  pub taken : Consumes old new bytes
  pub within : IsRequestWithin bytes headers spans
  pub shows : IsRequestOf bytes headers spans

-- reading a head: the first bytes begin with it; or, as nothing, the input has none
abbrev pub FindsHead : Option (List ℕ) → Option (List ℕ) → List ℕ → List HeaderSpan → Option (RequestSpans × ℕ) → Type 0
FindsHead old new buffer headers (Some found) = (found.1 ≤ length buffer) × ShowsHead old new (take found.1 buffer) headers found.0
FindsHead old new buffer headers None = IfSome old (λ input. (head : RequestHead) (rest : List ℕ) → ¬ HasHead input head rest)

-- the values are none, this one, or several
abbrev pub AreValues : List (List ℕ) → Values → Type 0
AreValues values value.Absent = values ≡ []
AreValues values (value.Single v) = values ≡ v.now ∷ []
AreValues values value.Several = 1 < length values

-- so many bytes of an input, or that it ends before
abbrev pub IsFront : List ℕ → ℕ → Option (List ℕ) → Type 0
IsFront input n (Some front) = (n ≤ length input) × (front ≡ take n input)
IsFront input n None = length input < n
