-- What is asked of one operation, by its key alone.
use Rattle.std.proofs.Common.{◌≡◌, ℕ, suc, List, [], ◌∷◌, length, Option, Some, None, MatchOption, true≢false, refl, sym, ap, subst, codes}
use Rattle.std.specs.List.{AllByRecursion}
use Rattle.plan_basics.specs.declared.keys.OpKey.{OpKey}
use Rattle.plan_items.specs.Parts.{IsReading}
use Rattle.plan_records.specs.declared.What.{What}
use Rattle.plan_records.specs.declared.What.TheVariants as what
use Rattle.serde_json.specs.Data.{Data, string}
use Rattle.request_json.specs.Members.{Member, HasMember, HasText}
use Rattle.request_json.specs.Requests.{SpellsOperation, NamesOperation, Asks}
use Rattle.request_json.specs.Counted.{AsksBy, on_operation, IsOnOperation}
use Rattle.request_json.proofs.Said.{counted}

-- its `do` and its key, that there are three members, and that `op` spells the key
abbrev pub IsToldOn : Data → ℕ → What → List ℕ → Type 0
IsToldOn d count x verb = (key : OpKey) × (on_operation x ≡ Some (verb, key)) × (count ≡ 3) × HasText d (codes "op") (λ text. SpellsOperation text key)

-- a `do` with its key
abbrev named_key : List ℕ → OpKey → Option (List ℕ × OpKey)
named_key name key = Some (name, key)

told : (d : Data) (count : ℕ) (key : OpKey) (name verb : List ℕ) (more : List Member) → (verb ≡ name) × NamesOperation key more → count ≡ suc (suc (length more)) → AllByRecursion (HasMember d) more
    → (k : OpKey) × (named_key name key ≡ named_key verb k) × (count ≡ 3) × HasText d (codes "op") (λ text. SpellsOperation text k)
told d count key name verb more a size has =
    let all = rw a.1.2 at has in
    (key, ap (λ (n : List ℕ). named_key n key) (sym a.0), counted count more _ size a.1.2, (a.1.0, all.0, a.1.1))

pub told_on : (d : Data) (count : ℕ) (x : What) (verb : List ℕ) → AsksBy d verb count x → IsOnOperation x → IsToldOn d count x verb
told_on d count (what.Started key) verb a on = told d count key _ verb a.0 a.1 a.2 a.3
told_on d count (what.Ended key) verb a on = told d count key _ verb a.0 a.1 a.2 a.3
told_on d count (what.Interrupted key) verb a on = told d count key _ verb a.0 a.1 a.2 a.3
told_on d count (what.Unknown key) verb a on = told d count key _ verb a.0 a.1 a.2 a.3
told_on d count (what.Hold key) verb a on = told d count key _ verb a.0 a.1 a.2 a.3
told_on d count (what.Release key) verb a on = told d count key _ verb a.0 a.1 a.2 a.3
told_on d count (what.Nop key) verb a on = told d count key _ verb a.0 a.1 a.2 a.3
told_on d count (what.Unnop key) verb a on = told d count key _ verb a.0 a.1 a.2 a.3
told_on d count (what.Rerun key) verb a on = told d count key _ verb a.0 a.1 a.2 a.3
told_on d count (what.Complete key) verb a on = told d count key _ verb a.0 a.1 a.2 a.3
told_on d count _ verb a on = absurd (true≢false (sym on))

name_in : List ℕ → Option (List ℕ × OpKey) → List ℕ
name_in d None = d
name_in d (Some p) = p.0

key_in : OpKey → Option (List ℕ × OpKey) → OpKey
key_in d None = d
key_in d (Some p) = p.1

parts : (a c : List ℕ) (b d : OpKey) → named_key a b ≡ named_key c d → (a ≡ c) × (b ≡ d)
unfolding name_in key_in
parts a c b d e = (ap (name_in a) e, ap (key_in b) e)

names_on : (name verb : List ℕ) (k key : OpKey) (more : List Member) → named_key name k ≡ named_key verb key → NamesOperation key more → (verb ≡ name) × NamesOperation k more
names_on name verb k key more e names = let p = parts name verb k key e in (sym p.0, subst (λ (o : OpKey). NamesOperation o more) (sym p.1) names)

asks_on : (x : What) (verb : List ℕ) (key : OpKey) (more : List Member) → on_operation x ≡ Some (verb, key) → NamesOperation key more → Asks x verb more
asks_on (what.Started k) verb key more e names = names_on _ verb k key more e names
asks_on (what.Ended k) verb key more e names = names_on _ verb k key more e names
asks_on (what.Interrupted k) verb key more e names = names_on _ verb k key more e names
asks_on (what.Unknown k) verb key more e names = names_on _ verb k key more e names
asks_on (what.Hold k) verb key more e names = names_on _ verb k key more e names
asks_on (what.Release k) verb key more e names = names_on _ verb k key more e names
asks_on (what.Nop k) verb key more e names = names_on _ verb k key more e names
asks_on (what.Unnop k) verb key more e names = names_on _ verb k key more e names
asks_on (what.Rerun k) verb key more e names = names_on _ verb k key more e names
asks_on (what.Complete k) verb key more e names = names_on _ verb k key more e names
asks_on _ verb key more e names = absurd (cc e)

-- the request of a `do` on the operation that `op` names, as what the value asks
pub read_on : (d : Data) (count : ℕ) (verb : List ℕ) (key : OpKey) (r : Option What) → count ≡ 3 → HasText d (codes "op") (λ text. SpellsOperation text key)
    → MatchOption r ((x : What) → (k : OpKey) → ¬ (on_operation x ≡ Some (verb, k))) (λ x. on_operation x ≡ Some (verb, key)) → IsReading (λ x. AsksBy d verb count x × IsOnOperation x) r
read_on d count verb key None three op none = λ x a. let t = told_on d count x verb a.0 a.1 in none x t.0 t.1
read_on d count verb key (Some x) three op is =
    let on : IsOnOperation x = rw is refl in
    (((codes "op", string op.0) ∷ [], asks_on x verb key _ is (op.0, op.2, refl), three, (op.1, tt)), on)
