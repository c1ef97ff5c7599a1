-- Requests of objects, from their parts.
use Rattle.std.proofs.Common.{◌≡◌, ℕ, ◌+◌, List, Option, Some, None, codes, arith}
use Rattle.plan_items.specs.Parts.{IsReading}
use Rattle.plan_records.specs.declared.Request.{Request}
use Rattle.plan_records.specs.declared.What.{What}
use Rattle.serde_json.specs.Data.{Data, string}
use Rattle.request_json.specs.Members.{HasMember}
use Rattle.request_json.specs.Counted.{AsksBy, IsOnOperation, HasBeside, SaysBeside}
use Rattle.request_json.proofs.Said.{operation_said}

-- a name has one text
one_text : (d : Data) (name s t : List ℕ) → HasMember d (name, string s) → HasMember d (name, string t) → s ≡ t
one_text d name s t h k = cc (h, k)

-- beside so many others there is one number of members
one_count : (d : Data) (others m n : ℕ) → HasBeside d others m → HasBeside d others n → m ≡ n
one_count d others m n h k = let same : m + others ≡ n + others = cc (h, k) in omega (arith, same)

-- what is asked with another `do` than the nine
pub asked_on : (d : Data) (count : ℕ) (verb : List ℕ) (r : Option What) → ¬ (verb ≡ codes "tick") → ¬ (verb ≡ codes "error") → ¬ (verb ≡ codes "load") → ¬ (verb ≡ codes "add") → ¬ (verb ≡ codes "extend")
    → ¬ (verb ≡ codes "delete") → ¬ (verb ≡ codes "depend") → ¬ (verb ≡ codes "available") → ¬ (verb ≡ codes "intervals")
    → IsReading (λ x. AsksBy d verb count x × IsOnOperation x) r → IsReading (AsksBy d verb count) r
asked_on d count verb None tick error load add extend delete depend available intervals none =
    λ x a. none x (a, operation_said x verb a.0 tick error load add extend delete depend available intervals a.1)
asked_on d count verb (Some x) tick error load add extend delete depend available intervals a = a.0

-- where nothing is asked, no request is said
pub nothing_said : (d : Data) (others count : ℕ) (verb : List ℕ) → HasMember d (codes "do", string verb) → HasBeside d others count → ((x : What) → ¬ AsksBy d verb count x)
    → (r : Request) → ¬ SaysBeside d others r
nothing_said d others count verb there beside none r s =
    let text : s.1 ≡ verb = one_text d (codes "do") s.1 verb s.5 there in
    let size : s.2 ≡ count = one_count d others s.2 count s.6 beside in
    none r.what (rw (text, size) at s.7)
