-- Faults that have their turns one after another: they are in the order of their places, and none is told twice.
use Rattle.std.proofs.Common.{◌≡◌, ◌≢◌, inl, inr, ap, arith, ℕ, ◌+◌, ◌<◌, ◌≤◌, List, [], ◌∷◌, ◌++◌, get_or, AllPairs}
use Rattle.std.proofs.lemmas.List.Elements.{All-contains, Contains-append_cases}
use Rattle.std.proofs.lemmas.List.Quantifiers.{all_pairs_push}
use Rattle.plan_basics.proofs.Members.{all_by_members, contains_cases, contains_none}
use Rattle.extension_faults.specs.Beside.{AreBefore, kind_place, turn_of}
use Rattle.extension_faults.specs.declared.kinds.FaultBeside.{FaultBeside}
use Rattle.extension_faults.specs.declared.kinds.Wrong.{Wrong}
use Rattle.extension_faults.specs.declared.kinds.Wrong.TheVariants as wrong

abbrev turn : FaultBeside → ℕ
turn f = turn_of f.place f.wrong

abbrev Precedes : FaultBeside → FaultBeside → Type 0
Precedes a b = turn a < turn b

-- there are eight kinds
few_kinds : (w : Wrong) → kind_place w < 8
few_kinds wrong.There = omega arith
few_kinds wrong.NoWorkstation = omega arith
few_kinds wrong.NoResource = omega arith
few_kinds wrong.BeyondQuantity = omega arith
few_kinds wrong.NoPredecessor = omega arith
few_kinds wrong.NoSuccessor = omega arith
few_kinds wrong.Deleted = omega arith
few_kinds wrong.UnderWay = omega arith

pub none_before : (n : ℕ) → AreBefore n []
none_before n = record { in_order = λ i j d lt within. absurd (omega (arith, within)); within = λ k d lt. absurd (omega (arith, lt)) }

-- before a later turn too
pub before_later : (n m : ℕ) (faults : List FaultBeside) → AreBefore n faults → n ≤ m → AreBefore m faults
before_later n m faults are le = record { in_order = are.in_order; within = λ k d lt. let less = are.within k d lt in omega (arith, less, le) }

-- with the one whose turn it is
pub before_next : (n : ℕ) (faults : List FaultBeside) (r : FaultBeside) → turn_of r.place r.wrong ≡ n → AreBefore n faults → AreBefore (n + 1) (faults ++ r ∷ [])
before_next n faults r at are = record {
  in_order = all_pairs_push Precedes faults r are.in_order (λ k d lt. let less = are.within k d lt in omega (arith, less, at));
  within = all_by_members (λ (a : FaultBeside). turn a < n + 1) (faults ++ r ∷ []) (λ a has. elim (Contains-append_cases faults (r ∷ []) a has) [
    | inl before ↦ let less = All-contains (λ (a : FaultBeside). turn a < n) faults a are.within before in omega (arith, less)
    | inr last ↦ elim (contains_cases r [] a last) [
      | inl same ↦ let turns : turn r ≡ turn a = ap turn same in omega (arith, turns, at)
      | inr none ↦ absurd (contains_none a none)
    ]
  ]);
}

-- so their places go up, and no two are the same
pub places_up : (n : ℕ) (faults : List FaultBeside) → AreBefore n faults → AllPairs (λ (a b : FaultBeside). a.place ≤ b.place) faults
places_up n faults are i j d lt within =
    let less = are.in_order i j d lt within in
    let few = few_kinds (get_or faults j d).wrong in
    omega (arith, less, few)

pub each_once : (n : ℕ) (faults : List FaultBeside) → AreBefore n faults → AllPairs (λ (a b : FaultBeside). a ≢ b) faults
each_once n faults are i j d lt within same =
    let less = are.in_order i j d lt within in
    let turns : turn (get_or faults i d) ≡ turn (get_or faults j d) = ap turn same in
    omega (arith, less, turns)
