-- What each `do` comes with.
use Rattle.std.proofs.Common.{◌≡◌, ℕ, suc, List, [], ◌∷◌, length, Bool, false, true≢false, refl, sym, ap, ◌∙◌, codes}
use Rattle.std.specs.Str.{bytes_eq}
use Rattle.std.proofs.lemmas.Slice.Eq.{bytes_eq-Decides}
use Rattle.std.specs.List.{AllZip}
use Rattle.plan_basics.specs.Intervals.{OpenInterval}
use Rattle.plan_basics.specs.Names.{IsName, IsResourceName}
use Rattle.plan_basics.specs.declared.keys.OccKey.{OccKey}
use Rattle.plan_basics.specs.declared.keys.OpKey.{OpKey}
use Rattle.plan_records.specs.declared.What.{What}
use Rattle.plan_records.specs.declared.What.TheVariants as what
use Rattle.serde_json.specs.Data.{Data, boolean, array}
use Rattle.serde_json.specs.View.{items_of}
use Rattle.request_json.specs.Members.{Member, HasMember, HasText, IsNameAt}
use Rattle.request_json.specs.Intervals.{IsIntervalOf}
use Rattle.request_json.specs.Requests.{SpellsOperation, SpellsOccurrence, Asks}
use Rattle.request_json.specs.Counted.{AsksBy, IsOnOperation}

-- two texts that differ aren't one
pub apart : {xs ys : List ℕ} → xs ≡ ys → bytes_eq xs ys ≡ false → ⊥
apart {xs} {ys} same differ = true≢false (sym ((bytes_eq-Decides xs ys).1 same) ∙ differ)

pub counted : (count : ℕ) (more named : List Member) → count ≡ suc (suc (length more)) → more ≡ named → count ≡ suc (suc (length named))
counted count more named size same = size ∙ ap (λ (m : List Member). suc (suc (length m))) same

pub tick_said : (d : Data) (count : ℕ) (x : What) → AsksBy d (codes "tick") count x → count ≡ 2
tick_said d count what.Tick a = counted count a.0 _ a.2 a.1.1
tick_said d count _ a = absurd (apart a.1.0 refl)

pub error_said : (d : Data) (count : ℕ) (x : What) → AsksBy d (codes "error") count x
    → (count ≡ 4) × ((key : OpKey) × HasText d (codes "op") (λ text. SpellsOperation text key)) × ((code : List ℕ) × IsNameAt d (codes "code") (IsName 4) code)
error_said d count (what.Error key code) a =
    let same = a.1.4 in
    let has = rw same at a.3 in
    (counted count a.0 _ a.2 same, (key, (a.1.1, has.0, a.1.2)), (code, (a.1.3, has.1.0)))
error_said d count _ a = absurd (apart a.1.0 refl)

pub records_said : (d : Data) (count : ℕ) (x : What) → AsksBy d (codes "load") count x → (count ≡ 3) × HasText d (codes "records") (λ text. Unit {0})
records_said d count (what.Load plan) a = let has = rw a.1.2 at a.3 in (counted count a.0 _ a.2 a.1.2, (a.1.1, has.0, tt))
records_said d count _ a = absurd (apart a.1.0 refl)

pub addition_said : (d : Data) (count : ℕ) (x : What) → AsksBy d (codes "add") count x → (count ≡ 3) × HasText d (codes "records") (λ text. Unit {0})
addition_said d count (what.AddOccurrence addition) a = let has = rw a.1.2 at a.3 in (counted count a.0 _ a.2 a.1.2, (a.1.1, has.0, tt))
addition_said d count _ a = absurd (apart a.1.0 refl)

pub extension_said : (d : Data) (count : ℕ) (x : What) → AsksBy d (codes "extend") count x → (count ≡ 3) × HasText d (codes "records") (λ text. Unit {0})
extension_said d count (what.Extend extension) a = let has = rw a.1.2 at a.3 in (counted count a.0 _ a.2 a.1.2, (a.1.1, has.0, tt))
extension_said d count _ a = absurd (apart a.1.0 refl)

pub delete_said : (d : Data) (count : ℕ) (x : What) → AsksBy d (codes "delete") count x
    → (count ≡ 3) × ((key : OccKey) × HasText d (codes "occ") (λ text. SpellsOccurrence text key))
delete_said d count (what.DeleteOccurrence key) a = let has = rw a.1.3 at a.3 in (counted count a.0 _ a.2 a.1.3, (key, (a.1.1, has.0, a.1.2)))
delete_said d count _ a = absurd (apart a.1.0 refl)

pub depend_said : (d : Data) (count : ℕ) (x : What) → AsksBy d (codes "depend") count x
    → (count ≡ 4) × ((key : OpKey) × HasText d (codes "from") (λ text. SpellsOperation text key)) × ((key : OpKey) × HasText d (codes "to") (λ text. SpellsOperation text key))
depend_said d count (what.AddDependency p s) a =
    let has = rw a.1.5 at a.3 in
    (counted count a.0 _ a.2 a.1.5, (p, (a.1.1, has.0, a.1.3)), (s, (a.1.2, has.1.0, a.1.4)))
depend_said d count _ a = absurd (apart a.1.0 refl)

pub available_said : (d : Data) (count : ℕ) (x : What) → AsksBy d (codes "available") count x
    → (count ≡ 4) × ((resource : List ℕ) × IsNameAt d (codes "resource") IsResourceName resource) × ((b : Bool) × HasMember d (codes "value", boolean b))
available_said d count (what.SetAvailable resource b) a =
    let has = rw a.1.2 at a.3 in
    (counted count a.0 _ a.2 a.1.2, (resource, (a.1.1, has.0)), (b, has.1.0))
available_said d count _ a = absurd (apart a.1.0 refl)

pub intervals_said : (d : Data) (count : ℕ) (x : What) → AsksBy d (codes "intervals") count x
    → (count ≡ 4) × ((workstation : List ℕ) × IsNameAt d (codes "ws") (IsName 4) workstation)
    × ((rows : List Data) × (intervals : List OpenInterval) × HasMember d (codes "intervals", array (items_of rows)) × AllZip IsIntervalOf rows intervals)
intervals_said d count (what.ReplaceIntervals workstation intervals) a =
    let has = rw a.1.4 at a.3 in
    (counted count a.0 _ a.2 a.1.4, (workstation, (a.1.1, has.0)), (a.1.2, intervals.items, has.1.0, a.1.3))
intervals_said d count _ a = absurd (apart a.1.0 refl)

-- what has another `do` than these is asked of one operation
pub operation_said : (x : What) (verb : List ℕ) (more : List Member) → ¬ (verb ≡ codes "tick") → ¬ (verb ≡ codes "error") → ¬ (verb ≡ codes "load") → ¬ (verb ≡ codes "add") → ¬ (verb ≡ codes "extend")
    → ¬ (verb ≡ codes "delete") → ¬ (verb ≡ codes "depend") → ¬ (verb ≡ codes "available") → ¬ (verb ≡ codes "intervals") → Asks x verb more → IsOnOperation x
operation_said what.Tick verb more tick error load add extend delete depend available intervals a = absurd (tick a.0)
operation_said (what.Error key code) verb more tick error load add extend delete depend available intervals a = absurd (error a.0)
operation_said (what.Load plan) verb more tick error load add extend delete depend available intervals a = absurd (load a.0)
operation_said (what.AddOccurrence addition) verb more tick error load add extend delete depend available intervals a = absurd (add a.0)
operation_said (what.Extend extension) verb more tick error load add extend delete depend available intervals a = absurd (extend a.0)
operation_said (what.DeleteOccurrence key) verb more tick error load add extend delete depend available intervals a = absurd (delete a.0)
operation_said (what.AddDependency p s) verb more tick error load add extend delete depend available intervals a = absurd (depend a.0)
operation_said (what.SetAvailable resource b) verb more tick error load add extend delete depend available intervals a = absurd (available a.0)
operation_said (what.ReplaceIntervals workstation rows) verb more tick error load add extend delete depend available intervals a = absurd (intervals a.0)
operation_said _ verb more tick error load add extend delete depend available intervals a = refl

-- arrays of the same values are made of the same
pub items_apart : (xs ys : List Data) → items_of xs ≡ items_of ys → xs ≡ ys
items_apart [] [] e = refl
items_apart [] (y ∷ ys) e = absurd (cc e)
items_apart (x ∷ xs) [] e = absurd (cc e)
items_apart (x ∷ xs) (y ∷ ys) e = let rest : items_of xs ≡ items_of ys = cc e in let others = items_apart xs ys rest in cc (e, others)

-- an array that isn't one of intervals
pub no_intervals : (d : Data) (count : ℕ) (rows : List Data) → HasMember d (codes "intervals", array (items_of rows)) → ((intervals : List OpenInterval) → ¬ AllZip IsIntervalOf rows intervals)
    → (x : What) → ¬ AsksBy d (codes "intervals") count x
no_intervals d count rows there none x a =
    let said = (intervals_said d count x a).2 in
    let same : rows ≡ said.0 = items_apart rows said.0 (cc (there, said.2)) in
    none said.1 (rw (← same) at said.3)
