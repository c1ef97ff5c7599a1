-- Which requests are foreign: those that a page of a browser makes, and those to another name than this machine's own.
use Rattle.std.specs.Prelude.{◌≡◌, ◌≢◌, ◌⊎◌, ℕ, ◌<◌, ◌≤◌, nat_le, ◌==◌, ◌||◌, ◌&&◌, Bool, List, [], ◌∷◌, length, codes, All, IsTrue}
use Rattle.std.specs.List.{before_first}
use Rattle.std.specs.Str.{bytes_eq, str_to_ascii_lowercase}
use Rattle.http_messages.specs.declared.statuses.Method.TheVariants as method
use Rattle.http_messages.specs.Fields.{values_of}
use Rattle.http_messages.specs.Statuses.{method_text}
use Rattle.http_messages.specs.Tests.{Request}

-- the name of a host: what stands before its first colon
abbrev pub host_name : List ℕ → List ℕ
host_name value = before_first (λ b. b == 58) value

-- a digit or a dot
abbrev pub is_address_byte : ℕ → Bool
is_address_byte b = (nat_le 48 b && nat_le b 57) || (b == 46)

abbrev pub IsAddressByte : ℕ → Type 0
IsAddressByte b = IsTrue (is_address_byte b)

-- one or more digits and dots: no name that could lead to another machine
pub record IsAddress (name : List ℕ) : Type 0 where
  pub some : 0 < length name
  pub bytes : All IsAddressByte name

-- this machine's own name: `localhost`, whatever the case of its letters, or an address
abbrev pub IsOwnName : List ℕ → Type 0
IsOwnName name = IsTrue (bytes_eq (str_to_ascii_lowercase name) (str_to_ascii_lowercase (codes "localhost"))) ⊎ IsAddress name

-- hosts that are several, or one of another name
abbrev pub AreForeign : List (List ℕ) → Type 0
AreForeign hosts = (1 < length hosts) ⊎ ((value : List ℕ) × (hosts ≡ value ∷ []) × (¬ IsOwnName (host_name value)))

-- the request sends something
abbrev pub IsPost : Request → Type 0
IsPost request = request.method ≡ method_text method.Post

-- it has a field of this name
abbrev pub HasField : List ℕ → Request → Type 0
HasField name request = values_of name request.fields ≢ []

-- a browser says that a page makes it, whichever page
abbrev pub IsOfPage : Request → Type 0
IsOfPage request = HasField (codes "origin") request ⊎ HasField (codes "sec-fetch-site") request

-- the request is foreign: to hosts that are, or sent by a page
abbrev pub IsForeign : Request → Type 0
IsForeign request = AreForeign (values_of (codes "host") request.fields) ⊎ (IsPost request × IsOfPage request)
