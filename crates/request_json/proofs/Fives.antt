-- Arrays of five values.
use Rattle.std.proofs.Common.{◌≡◌, List, [], ◌∷◌, length, get_or, Option, Some, None, sym, ap, ◌∙◌, arith}
use Rattle.plan_basics.specs.Intervals.{OpenInterval}
use Rattle.plan_items.specs.Parts.{IsReading}
use Rattle.serde_json.specs.Data.{Data, array, Items, item, no_items}
use Rattle.serde_json.specs.Events.{items_len}
use Rattle.serde_json.specs.Find.{as_array}
use Rattle.serde_json.specs.View.{view, items_view}
use Rattle.serde_json.specs.declared.value.Value.{Value}
use Rattle.serde_json.proofs.Views.{items_len-items_view}
use Rattle.request_json.specs.Intervals.{ArePartsOf, IsIntervalOf}
use Rattle.request_json.proofs.Texts.{array_of}

abbrev five_items : Data → Data → Data → Data → Data → Items
five_items a b c d e = item a (item b (item c (item d (item e no_items))))

-- a list of five
five : {X : Type 0} (vs : List X) (a b c d e : X) → length vs ≡ 5 → a ≡ get_or vs 0 a → b ≡ get_or vs 1 b → c ≡ get_or vs 2 c → d ≡ get_or vs 3 d → e ≡ get_or vs 4 e
    → vs ≡ a ∷ b ∷ c ∷ d ∷ e ∷ []
five (x0 ∷ x1 ∷ x2 ∷ x3 ∷ x4 ∷ []) a b c d e size p q r s t = cc (p, q, r, s, t)
five [] a b c d e size p q r s t = absurd (omega (arith, size))
five (x0 ∷ []) a b c d e size p q r s t = absurd (omega (arith, size))
five (x0 ∷ x1 ∷ []) a b c d e size p q r s t = absurd (omega (arith, size))
five (x0 ∷ x1 ∷ x2 ∷ []) a b c d e size p q r s t = absurd (omega (arith, size))
five (x0 ∷ x1 ∷ x2 ∷ x3 ∷ []) a b c d e size p q r s t = absurd (omega (arith, size))
five (x0 ∷ x1 ∷ x2 ∷ x3 ∷ x4 ∷ x5 ∷ more) a b c d e size p q r s t = absurd (omega (arith, size))

-- the value that has a list of five
pub array_of_five : (v : Data) (vs : List Value) (a b c d e : Value) → Some (items_view vs) ≡ as_array v → length vs ≡ 5
    → a ≡ get_or vs 0 a → b ≡ get_or vs 1 b → c ≡ get_or vs 2 c → d ≡ get_or vs 3 d → e ≡ get_or vs 4 e
    → v ≡ array (five_items (view a) (view b) (view c) (view d) (view e))
array_of_five v vs a b c d e is size p q r s t = array_of v (items_view vs) is ∙ ap (λ (l : List Value). array (items_view l)) (five vs a b c d e size p q r s t)

-- an interval's value has a list of five
pub five_long : (v : Data) (vs : List Value) (x : OpenInterval) → Some (items_view vs) ≡ as_array v → IsIntervalOf v x → length vs ≡ 5
five_long v vs x is h =
    let same : items_view vs ≡ five_items h.0 h.1 h.2 h.3 h.4 = cc (array_of v (items_view vs) is, h.6) in
    sym (items_len-items_view vs) ∙ ap items_len same

-- what five values spell, as what their array says
pub array_spelt : (v a b c d e : Data) → v ≡ array (five_items a b c d e) → (r : Option OpenInterval) → IsReading (λ x. ArePartsOf x a b c d e) r → IsReading (IsIntervalOf v) r
array_spelt v a b c d e is None none =
    λ x h.
    let from : h.0 ≡ a = cc (is, h.6) in
    let end : h.1 ≡ b = cc (is, h.6) in
    let servers : h.2 ≡ c = cc (is, h.6) in
    let r1 : h.3 ≡ d = cc (is, h.6) in
    let r2 : h.4 ≡ e = cc (is, h.6) in
    none x (rw (from, end, servers, r1, r2) at h.5)
array_spelt v a b c d e is (Some x) parts = (a, b, c, d, e, parts, is)
