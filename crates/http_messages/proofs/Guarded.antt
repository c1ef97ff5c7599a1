-- What the fields of a head say of who makes a request.
use Rattle.std.proofs.Common.{◌≡◌, ◌≢◌, ◌↔◌, ◌∙◌, refl, sym, ap, subst, inl, inr, arith, ℕ, ◌<◌, List, [], ◌∷◌, length, codes, Bool, true, false, Option, Some, None, IsTrue, IfSome, MatchOption}
use Rattle.std.proofs.lemmas.Bool.{false≢true}
use Rattle.std.proofs.lemmas.List.Elements.{All-weaker}
use Rattle.std.proofs.lemmas.Str.{IsUtf8-from_ascii}
use Rattle.std.proofs.lemmas.Str.Ascii.{IsAscii-from_all}
use Rattle.std.specs.Str.{IsUtf8}
use Rattle.http_messages.specs.declared.statuses.Method.TheVariants as method
use Rattle.http_messages.specs.Fields.{values_of}
use Rattle.http_messages.specs.Foreign.{AreForeign, HasField, IsForeign, IsPost}
use Rattle.http_messages.specs.Requesters.{IsBy, IsMisnamed, IsRequesterByte, IsRequesterText}
use Rattle.http_messages.specs.Statuses.{method_text}
use Rattle.http_messages.specs.Tests.{Request}

-- what is false is told so
pub no : {P : Type 0} → (b : Bool) → (IsTrue b ↔ P) → b ≡ false → ¬ P
no b told is p = false≢true (sym is ∙ told.1 p)

-- the name of a requester is a text
small : (b : ℕ) → IsRequesterByte b → b < 128
small b h = grind arith

pub text_of_requester : (t : List ℕ) → IsRequesterText t → IsUtf8 t
text_of_requester t h = IsUtf8-from_ascii t (IsAscii-from_all t (All-weaker IsRequesterByte (λ b. b < 128) small t h.bytes))

module _ (request : Request) (sent : List ℕ) (fields : List (List ℕ × List ℕ)) (m : request.method ≡ sent) (f : request.fields ≡ fields) where
  posts : IsPost request → sent ≡ method_text method.Post
  posts post = sym m ∙ post

  its : (name : List ℕ) (P : List (List ℕ) → Type 0) → P (values_of name request.fields) → P (values_of name fields)
  its name P = subst (λ (fs : List (List ℕ × List ℕ)). P (values_of name fs)) f

  -- a request that isn't sent is foreign by its hosts alone
  pub foreign_looks : (¬ AreForeign (values_of (codes "host") fields)) → (sent ≢ method_text method.Post) → ¬ IsForeign request
  foreign_looks own unsent (inl hosts) = own (its (codes "host") AreForeign hosts)
  foreign_looks own unsent (inr page) = unsent (posts page.0)

  -- one that is sent, by a page too
  foreign_sent : (¬ AreForeign (values_of (codes "host") fields)) → ¬ (values_of (codes "origin") fields ≢ []) → ¬ (values_of (codes "sec-fetch-site") fields ≢ []) → ¬ IsForeign request
  foreign_sent own none never (inl hosts) = own (its (codes "host") AreForeign hosts)
  foreign_sent own none never (inr (post, inl origin)) = none (its (codes "origin") (λ vs. vs ≢ []) origin)
  foreign_sent own none never (inr (post, inr site)) = never (its (codes "sec-fetch-site") (λ vs. vs ≢ []) site)

  -- of one that is sent here, and tells no origin, its site tells
  pub foreign_by_site : (¬ AreForeign (values_of (codes "host") fields)) → sent ≡ method_text method.Post → ¬ (values_of (codes "origin") fields ≢ [])
      → (site : Bool) → (IsTrue site ↔ (values_of (codes "sec-fetch-site") fields ≢ [])) → (IsTrue site ↔ IsForeign request)
  foreign_by_site own post none true told =
      (λ is. inr (m ∙ post, inr (subst (λ (fs : List (List ℕ × List ℕ)). values_of (codes "sec-fetch-site") fs ≢ []) (sym f) (told.0 refl))), λ foreign. refl)
  foreign_by_site own post none false told = (λ wrong. absurd (false≢true wrong), λ foreign. absurd (foreign_sent own none (no false told refl) foreign))
