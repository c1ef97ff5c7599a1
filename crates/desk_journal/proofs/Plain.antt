-- The line of a request has no float.
use Rattle.std.proofs.Common.{◌≡◌, refl, ℕ, List, take, Bool, Option, Some, None, false, true}
use Rattle.serde_json.specs.Written.{has_float}
use Rattle.desk_journal.specs.declared.lines.TheConstants.{BRIEF_BYTES}
use Rattle.desk_journal.specs.Lines.{request_data, text_or_null, text_of}

text_plain : (text : Option (List ℕ)) → has_float (text_or_null text) ≡ false
text_plain None = refl
text_plain (Some text) = refl

pub plain_request : (clock by : Option (List ℕ)) (path : List ℕ) (brief : Bool) (body : List ℕ) → has_float (request_data clock by path brief body) ≡ false
plain_request clock None path true body = rw (text_plain (text_of (take BRIEF_BYTES body)), text_plain clock) refl
plain_request clock None path false body = rw (text_plain (text_of body), text_plain clock) refl
plain_request clock (Some by) path true body = rw (text_plain (text_of (take BRIEF_BYTES body)), text_plain clock) refl
plain_request clock (Some by) path false body = rw (text_plain (text_of body), text_plain clock) refl
