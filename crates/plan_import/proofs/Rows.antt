-- Records that bytes read as, and the next one.
use Rattle.std.proofs.Common.{◌≡◌, ◌∙◌, sym, refl, ℕ, List, [], ◌∷◌, ◌++◌, Some, None}
use Rattle.std.specs.List.{AllByRecursion}
use Rattle.csv.specs.Machine.{Read, next_record}
use Rattle.csv.specs.Reading.{AreRecords, Reached}
use Rattle.csv.specs.declared.parser.Config.{Config}
use Rattle.csv.specs.declared.parser.State.{State}

pub all-more : (P : List (List ℕ) → Type 0) (xs : List (List (List ℕ))) (x : List (List ℕ)) → AllByRecursion P xs → P x → AllByRecursion P (xs ++ x ∷ [])
all-more P [] x h p = (p, tt)
all-more P (y ∷ ys) x h p = (h.0, all-more P ys x h.1 p)

-- one record, as the next one
pub single : (cfg : Config) (s s2 : State) (xs z : List ℕ) (f : List (List ℕ)) → Reached cfg s xs (f ∷ []) s2 z → next_record cfg s [] [] xs ≡ Some (f, s2, z)
unfolding Reached
single cfg s s2 xs z f h = rw (h.2, ← h.3.0, ← h.3.1) h.1

-- where a next record isn't so, no list of records that are is all of them
pub other-none : (P : List (List ℕ) → Type 0) (cfg : Config) (s s2 : State) (xs ys : List ℕ) (rows other : List (List (List ℕ))) (p : Read)
    → Reached cfg s xs rows s2 ys → next_record cfg s2 [] [] ys ≡ Some p → ¬ P p.0
    → AreRecords cfg s xs other → AllByRecursion P other → ⊥
unfolding Reached
other-none P cfg s s2 xs ys [] [] p h e not_ten a ten =
    let here : next_record cfg s [] [] xs ≡ Some p = rw (h.0, h.1) e in
    let gone : next_record cfg s [] [] xs ≡ None = rw (a.2.0, a.2.1) a.3 in
    cc (sym gone ∙ here)
other-none P cfg s s2 xs ys [] (q ∷ qs) p h e not_ten a ten =
    let here : next_record cfg s [] [] xs ≡ Some p = rw (h.0, h.1) e in
    let same : a.2.0 ≡ p = cc (sym a.2.1 ∙ here) in
    not_ten (rw (← same, ← a.2.2) ten.0)
other-none P cfg s s2 xs ys (r ∷ rs) [] p h e not_ten a ten =
    let gone : next_record cfg s [] [] xs ≡ None = rw (a.2.0, a.2.1) a.3 in
    cc (sym gone ∙ h.1)
other-none P cfg s s2 xs ys (r ∷ rs) (q ∷ qs) p h e not_ten a ten =
    let same : h.0 ≡ a.2.0 = cc (sym h.1 ∙ a.2.1) in
    other-none P cfg h.0.1 s2 h.0.2 ys rs qs p h.3 e not_ten (a.0, a.1, rw same a.2.3, a.3) ten.1

-- bytes have one list of records
pub one_reading : (cfg : Config) (s : State) (xs : List ℕ) (rows other : List (List (List ℕ))) → AreRecords cfg s xs rows → AreRecords cfg s xs other → rows ≡ other
unfolding Reached
one_reading cfg s xs [] [] a b = refl
one_reading cfg s xs [] (q ∷ qs) a b =
    let gone : next_record cfg s [] [] xs ≡ None = rw (a.2.0, a.2.1) a.3 in
    cc (sym gone ∙ b.2.1)
one_reading cfg s xs (r ∷ rs) [] a b =
    let gone : next_record cfg s [] [] xs ≡ None = rw (b.2.0, b.2.1) b.3 in
    cc (sym gone ∙ a.2.1)
one_reading cfg s xs (r ∷ rs) (q ∷ qs) a b =
    let same : a.2.0 ≡ b.2.0 = cc (sym a.2.1 ∙ b.2.1) in
    let first : r ≡ q = cc in
    let rest : rs ≡ qs = one_reading cfg a.2.0.1 a.2.0.2 rs qs (a.0, a.1, a.2.3, a.3) (b.0, b.1, rw same b.2.3, b.3) in
    cc
