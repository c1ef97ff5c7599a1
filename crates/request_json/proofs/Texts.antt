-- What the members of an object say, by what is found at their names.
use Rattle.std.proofs.Common.{◌≡◌, ◌↔◌, ℕ, List, Option, Some, None, option_and_then, IsSome, IfSome, subst}
use Rattle.plan_items.specs.Parts.{IsReading}
use Rattle.serde_json.specs.Data.{Data, string, array, Items}
use Rattle.serde_json.specs.Find.{as_str, as_array}

-- a text that was found at a name is the member's value
pub text_there : (o : Option Data) (t : List ℕ) → Some t ≡ option_and_then as_str o → o ≡ Some (string t)
text_there (Some (string s)) t e = cc e
text_there _ t e = absurd (cc e)

-- and so is an array
pub array_there : (o : Option Data) (ds : Items) → Some ds ≡ option_and_then as_array o → o ≡ Some (array ds)
array_there (Some (array s)) t e = cc e
array_there _ t e = absurd (cc e)

-- a text that was found is the value
pub text_of : (d : Data) (t : List ℕ) → Some t ≡ as_str d → d ≡ string t
text_of (string s) t e = cc e
text_of _ t e = absurd (cc e)

-- and so is an array
pub array_of : (d : Data) (ds : Items) → Some ds ≡ as_array d → d ≡ array ds
array_of (array s) t e = cc e
array_of _ t e = absurd (cc e)

-- what the one text of a place spells, as what the place says
spelt : {A : Type 0} (spells : List ℕ → A → Type 0) (at : List ℕ → Type 0) (t : List ℕ) (r : Option A) → at t → ((u : List ℕ) → at u → u ≡ t)
    → (IsSome r ↔ ((x : A) × spells t x)) → IfSome r (spells t) → IsReading (λ x. (text : List ℕ) × at text × spells text x) r
spelt spells at t None here only some value =
    λ x h.
    let P : List ℕ → Type 0 = λ u. spells u x in
    let found = some.1 (x, subst P (only h.0 h.1) h.2) in
    absurd (cc)
spelt spells at t (Some x) here only some value = (t, here, value)

-- what the text of a member spells
pub member_spelt : {A : Type 0} (spells : List ℕ → A → Type 0) (o : Option Data) (t : List ℕ) (r : Option A) → Some t ≡ option_and_then as_str o
    → (IsSome r ↔ ((x : A) × spells t x)) → IfSome r (spells t) → IsReading (λ x. (text : List ℕ) × (o ≡ Some (string text)) × spells text x) r
member_spelt spells o t r e =
    let here = text_there o t e in
    spelt spells (λ (u : List ℕ). o ≡ Some (string u)) t r here (λ u h. cc (h, here))

-- what a text in an array spells
pub value_spelt : {A : Type 0} (spells : List ℕ → A → Type 0) (d : Data) (t : List ℕ) (r : Option A) → Some t ≡ as_str d
    → (IsSome r ↔ ((x : A) × spells t x)) → IfSome r (spells t) → IsReading (λ x. (text : List ℕ) × (d ≡ string text) × spells text x) r
value_spelt spells d t r e =
    let here = text_of d t e in
    spelt spells (λ (u : List ℕ). d ≡ string u) t r here (λ u h. cc (h, here))
