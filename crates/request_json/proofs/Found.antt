-- Whether a member is of its form, by what is read of it.
use Rattle.std.proofs.Common.{◌≡◌, ◌≢◌, ◌↔◌, ℕ, List, Bool, true, false, IsTrue, true≢false, Option, Some, None, option_map, option_and_then, is_some, MatchOption, Vec, Global, refl, sym, subst, ◌∙◌, codes}
use Rattle.std.specs.List.{AllZip}
use Rattle.plan_basics.specs.Intervals.{OpenInterval}
use Rattle.plan_items.specs.Parts.{IsReading}
use Rattle.serde_json.specs.Data.{Data, boolean, string, array}
use Rattle.serde_json.specs.Find.{get, as_array, as_bool, as_str}
use Rattle.serde_json.specs.View.{items_of}
use Rattle.request_json.specs.Members.{HasMember}
use Rattle.request_json.specs.Intervals.{IsIntervalOf}
use Rattle.request_json.specs.RequestFaults.{IsOperationVerb, IsRecordsVerb, IsVerbOf, IsOfKind, Fits}
use Rattle.request_json.specs.declared.faults.kinds.MemberName.TheVariants as name
use Rattle.request_json.specs.declared.faults.kinds.RequestKind.{RequestKind}
use Rattle.request_json.specs.declared.faults.kinds.RequestKind.TheVariants as kind
use Rattle.request_json.proofs.Texts.{text_there}
use Rattle.request_json.proofs.Said.{items_apart}

-- what was read is there
pub some_is : {A : Type 0} (P : A → Type 0) (r : Option A) (b : Bool) → b ≡ is_some r → IsReading P r → IsTrue b ↔ ((x : A) × P x)
some_is P None b e none = (λ h. absurd (true≢false (sym h ∙ e)), λ h. absurd (none h.0 h.1))
some_is P (Some x) b e h = (λ _. (x, h), λ _. e)

-- that a member is absent, and that it is there
pub absent : {A : Type 0} (f : A → Data) (o : Option Data) (r : Option A) → option_map f r ≡ o → is_some r ≡ false → o ≡ None
absent f o None read e = sym read
absent f o (Some a) read e = absurd (true≢false e)

pub present : {A : Type 0} (f : A → Data) (o : Option Data) (r : Option A) → option_map f r ≡ o → is_some r ≡ true → o ≢ None
present f o None read e h = true≢false (sym e)
present f o (Some a) read e h = absurd (cc (read, h))

-- that there is nothing, and that there is something
pub none_by : {A : Type 0} (o : Option A) → is_some o ≡ false → o ≡ None
none_by None e = refl
none_by (Some x) e = absurd (true≢false e)

pub some_by : {A : Type 0} (o : Option A) → is_some o ≡ true → o ≢ None
some_by None e h = true≢false (sym e)
some_by (Some x) e h = absurd (cc h)

-- a text
pub text_is : {A : Type 0} (f : A → List ℕ) (o : Option Data) (r : Option A) (b : Bool) → b ≡ is_some r → option_map f r ≡ option_and_then as_str o → IsTrue b ↔ ((text : List ℕ) × (o ≡ Some (string text)))
text_is f o None b e read = (λ h. absurd (true≢false (sym h ∙ e)), λ h. absurd (cc (rw h.1 at read)))
text_is f o (Some a) b e read = (λ _. (f a, text_there o (f a) read), λ _. e)

-- true or false
pub flag_is : (o : Option Data) (v : Data) (b : Bool) → o ≡ Some v → b ≡ is_some (as_bool v) → IsTrue b ↔ ((flag : Bool) × (o ≡ Some (boolean flag)))
flag_is o (boolean x) b is e = (λ _. (x, is), λ _. e)
flag_is o _ b is e = (λ h. absurd (true≢false (sym h ∙ e)), λ h. absurd (cc (is, h.1)))

-- an array of intervals
pub intervals_is : (d : Data) (rows : List Data) (r : Option (Vec OpenInterval Global)) (b : Bool) → HasMember d (codes "intervals", array (items_of rows)) → b ≡ is_some r
    → MatchOption r ((intervals : List OpenInterval) → ¬ AllZip IsIntervalOf rows intervals) (λ v. AllZip IsIntervalOf rows v.items) → IsTrue b ↔ Fits d name.Intervals
intervals_is d rows None b there e none = (
  λ h. absurd (true≢false (sym h ∙ e)),
  λ h. let same : rows ≡ h.0 = items_apart rows h.0 (cc (there, h.2)) in absurd (none h.1.items (rw (← same) at h.3)),
)
intervals_is d rows (Some v) b there e all = (λ _. (rows, v, there, all), λ _. e)

-- what is no array has none
pub no_array : (d : Data) → None ≡ option_and_then as_array (get (codes "intervals") d) → ¬ Fits d name.Intervals
no_array d none h = absurd (cc (rw h.2 at none))

-- ---- the kind of a `do`
pub no_kind : (verb : List ℕ) → ¬ (verb ≡ codes "tick") → ¬ (verb ≡ codes "error") → ¬ (verb ≡ codes "delete") → ¬ (verb ≡ codes "depend") → ¬ (verb ≡ codes "available") → ¬ (verb ≡ codes "intervals")
    → ¬ IsOperationVerb verb → ¬ IsRecordsVerb verb → (k : RequestKind) → ¬ IsVerbOf k verb
no_kind verb tick error delete depend available intervals operation records kind.Tick h = tick h
no_kind verb tick error delete depend available intervals operation records kind.OnOperation h = operation h
no_kind verb tick error delete depend available intervals operation records kind.Error h = error h
no_kind verb tick error delete depend available intervals operation records kind.Delete h = delete h
no_kind verb tick error delete depend available intervals operation records kind.Records h = records h
no_kind verb tick error delete depend available intervals operation records kind.Depend h = depend h
no_kind verb tick error delete depend available intervals operation records kind.Available h = available h
no_kind verb tick error delete depend available intervals operation records kind.Intervals h = intervals h

pub kind_read : (d : Data) (t : List ℕ) (r : Option RequestKind) → Some t ≡ option_and_then as_str (get (codes "do") d) → IsReading (λ k. IsVerbOf k t) r → IsReading (IsOfKind d) r
kind_read d t None e none = λ k h. let here = text_there (get (codes "do") d) t e in let same : h.0 ≡ t = cc (h.1, here) in none k (subst (IsVerbOf k) same h.2)
kind_read d t (Some k) e is = (t, text_there (get (codes "do") d) t e, is)

pub no_kind_read : (d : Data) → None ≡ option_and_then as_str (get (codes "do") d) → (k : RequestKind) → ¬ IsOfKind d k
no_kind_read d none k h = absurd (cc (rw h.1 at none))
