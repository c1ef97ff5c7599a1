-- Who makes a request, as its head says.
use Rattle.std.specs.Prelude.{◌≡◌, ◌⊎◌, ℕ, ◌<◌, ◌≤◌, nat_le, ◌==◌, ◌||◌, ◌&&◌, Bool, List, [], ◌∷◌, length, codes, Option, Some, None, All, IsTrue}
use Rattle.http_messages.specs.declared.requesters.TheConstants.{MOST_REQUESTER_BYTES}
use Rattle.http_messages.specs.Fields.{values_of}
use Rattle.http_messages.specs.Foreign.{IsPost}
use Rattle.http_messages.specs.Tests.{Request}

-- a letter, a digit or one of . _ @ -
abbrev pub is_requester_byte : ℕ → Bool
is_requester_byte b = (nat_le 97 b && nat_le b 122) || (nat_le 65 b && nat_le b 90) || (nat_le 48 b && nat_le b 57) || (b == 46) || (b == 95) || (b == 64) || (b == 45)

abbrev pub IsRequesterByte : ℕ → Type 0
IsRequesterByte b = IsTrue (is_requester_byte b)

-- one to 64 of them
pub record IsRequesterText (text : List ℕ) : Type 0 where
  pub some : 0 < length text
  pub short : length text ≤ MOST_REQUESTER_BYTES
  pub bytes : All IsRequesterByte text

-- what the fields say of who makes the request
abbrev pub requesters_of : Request → List (List ℕ)
requesters_of request = values_of (codes "plandesk-by") request.fields

-- what is sent is by this requester, which one field names; or by none, and no field does. Of what isn't sent no requester is known
abbrev pub IsBy : Request → Option (List ℕ) → Type 0
IsBy request (Some text) = IsPost request × (requesters_of request ≡ text ∷ []) × IsRequesterText text
IsBy request None = (¬ IsPost request) ⊎ (requesters_of request ≡ [])

-- what the fields of something that is sent say is neither
abbrev pub IsMisnamed : Request → Type 0
IsMisnamed request = (by : Option (List ℕ)) → ¬ IsBy request by
