-- The interval of five values.
use Rattle.std.proofs.Common.{◌≡◌, ◌↔◌, ℕ, Option, Some, None, IsSome, IfSome, refl, sym, subst}
use Rattle.plan_basics.specs.Intervals.{OpenInterval, IsInterval, interval_by}
use Rattle.plan_basics.proofs.MinuteLaws.{one_moment}
use Rattle.plan_items.specs.Parts.{IsReading}
use Rattle.serde_json.specs.Data.{Data}
use Rattle.request_json.specs.Intervals.{whole, IsMomentOf, ArePartsOf}

-- a value is one moment's text at most
one_moment_of : (d : Data) (m n : ℕ) → IsMomentOf d m → IsMomentOf d n → m ≡ n
one_moment_of d m n h k =
    let same : h.0 ≡ k.0 = cc (h.1, k.1) in
    one_moment k.0 m n (rw same at h.2) k.2

pub interval_spelt : (a b c d e : Data) (from end servers r1 r2 : ℕ) → IsMomentOf a from → IsMomentOf b end → c ≡ whole servers → d ≡ whole r1 → e ≡ whole r2 → (r : Option OpenInterval)
    → (IsSome r ↔ IsInterval (interval_by from end servers r1 r2)) → IfSome r (λ i. i ≡ interval_by from end servers r1 r2) → IsReading (λ x. ArePartsOf x a b c d e) r
interval_spelt a b c d e from end servers r1 r2 p q s t u None some value =
    λ x h.
    let same_from = one_moment_of a x.from from h.moments.0 p in
    let same_end = one_moment_of b x.end end h.moments.1 q in
    let same_servers : x.servers ≡ servers = cc (h.numbers.0, s) in
    let same_r1 : x.r1 ≡ r1 = cc (h.numbers.1, t) in
    let same_r2 : x.r2 ≡ r2 = cc (h.numbers.2, u) in
    let same : x ≡ interval_by from end servers r1 r2 = λ i. record { from = same_from i; end = same_end i; servers = same_servers i; r1 = same_r1 i; r2 = same_r2 i } in
    let found = some.1 (subst IsInterval same h.valid) in
    absurd (cc found)
interval_spelt a b c d e from end servers r1 r2 p q s t u (Some x) some value =
    let P : OpenInterval → Type 0 = λ y. ArePartsOf y a b c d e in
    subst P (sym value) record { valid = some.0 refl; moments = (p, q); numbers = (s, t, u) }
