-- How cells are ordered, one after the other or eight at a time, and the texts that they hold.
use Rattle.std.proofs.Common.{◌≡◌, ◌⊎◌, inl, inr, refl, sym, ap, ap₂, subst, ◌∙◌, arith, ℕ, zero, suc, ◌+◌, ◌-◌, ◌*◌, ◌<◌, ◌≤◌, Bool, true, false, true≢false, List, [], ◌∷◌, ◌++◌, length, get_or, Fits, w8, take, drop, replicate, All, take-append-drop, length-take-le}
use Rattle.std.specs.Cmp.Lexicographic.{slice_cmp}
use Rattle.std.specs.Int.{from_be_bytes, w64}
use Rattle.std.specs.Ordering.{MatchOrdering, is_ne, nat_cmp, ordering_then}
use Rattle.std.specs.declared.cmp.Ordering.{Ordering}
use Rattle.std.specs.declared.cmp.Ordering.TheVariants.{Less, Equal, Greater}
use Rattle.std.proofs.lemmas.Cmp.{ranked}
use Rattle.std.proofs.lemmas.List.{drop-drop, get_or_default, length-drop}
use Rattle.std.proofs.lemmas.Int.{ints}
use Rattle.std.proofs.lemmas.List.Elements.{All-drop, All-head, All-tail, All-take}
use Rattle.plan_basics.specs.Padding.{IsFilled}

-- the order of cells
abbrev pub cells_cmp : List ℕ → List ℕ → Ordering
cells_cmp = slice_cmp nat_cmp

-- each is a byte
abbrev pub AreBytes : List ℕ → Type 0
AreBytes = All (λ b. b < 256)

-- as a type's range says it
pub are_bytes : (xs : List ℕ) → ((i : ℕ) → Fits w8 (get_or xs i 0)) → AreBytes xs
are_bytes xs fit k d lt = let f = fit k in let same = get_or_default xs k d 0 lt in omega (arith, ints, f, same)

-- ---- one order after another

then_assoc : (a b c : Ordering) → ordering_then (ordering_then a b) c ≡ ordering_then a (ordering_then b c)
then_assoc Less b c = refl
then_assoc Equal b c = refl
then_assoc Greater b c = refl

then_equal : (a : Ordering) → ordering_then a Equal ≡ a
then_equal Less = refl
then_equal Equal = refl
then_equal Greater = refl

-- an order that tells decides
pub then_decided : (o r : Ordering) → true ≡ is_ne o → ordering_then o r ≡ o
then_decided Less r e = refl
then_decided Equal r e = absurd (true≢false e)
then_decided Greater r e = refl

-- one that doesn't leaves it to the next
pub then_passed : (o r : Ordering) → false ≡ is_ne o → ordering_then o r ≡ r
then_passed Less r e = absurd (true≢false (sym e))
then_passed Equal r e = refl
then_passed Greater r e = absurd (true≢false (sym e))

-- ---- numbers

-- what is so of two numbers tells how they are ordered
pub by_rank : (x y : ℕ) (o : Ordering) → MatchOrdering o (x < y) (x ≡ y) (y < x) → nat_cmp x y ≡ o
by_rank x y o told = go (nat_cmp x y) refl o told
  where
    go : (r : Ordering) → r ≡ nat_cmp x y → (o : Ordering) → MatchOrdering o (x < y) (x ≡ y) (y < x) → r ≡ o
    go Less e Less t = refl
    go Less e Equal t = absurd (let r = ranked x y Less e in omega (arith, t, r))
    go Less e Greater t = absurd (let r = ranked x y Less e in omega (arith, t, r))
    go Equal e Less t = absurd (let r = ranked x y Equal e in omega (arith, t, r))
    go Equal e Equal t = refl
    go Equal e Greater t = absurd (let r = ranked x y Equal e in omega (arith, t, r))
    go Greater e Less t = absurd (let r = ranked x y Greater e in omega (arith, t, r))
    go Greater e Equal t = absurd (let r = ranked x y Greater e in omega (arith, t, r))
    go Greater e Greater t = refl

-- numbers that are each one more are ordered alike
suc_order : (m n : ℕ) → nat_cmp (suc m) (suc n) ≡ nat_cmp m n
suc_order m n = by_rank (suc m) (suc n) (nat_cmp m n) (shift (nat_cmp m n) (ranked m n (nat_cmp m n) refl))
  where
    shift : (o : Ordering) → MatchOrdering o (m < n) (m ≡ n) (n < m) → MatchOrdering o (suc m < suc n) (suc m ≡ suc n) (suc n < suc m)
    shift Less t = omega (arith, t)
    shift Equal t = ap (λ k. suc k) t
    shift Greater t = omega (arith, t)

-- of two numbers with one digit more, the front decides first
digit_order : (m n x y : ℕ) → x < 256 → y < 256 → nat_cmp (m * 256 + x) (n * 256 + y) ≡ ordering_then (nat_cmp m n) (nat_cmp x y)
digit_order m n x y lx ly = go (nat_cmp m n) refl
  where
    shift : m ≡ n → (o : Ordering) → MatchOrdering o (x < y) (x ≡ y) (y < x) → MatchOrdering o (m * 256 + x < n * 256 + y) (m * 256 + x ≡ n * 256 + y) (n * 256 + y < m * 256 + x)
    shift same Less t = omega (arith, same, t)
    shift same Equal t = omega (arith, same, t)
    shift same Greater t = omega (arith, same, t)

    go : (r : Ordering) → r ≡ nat_cmp m n → nat_cmp (m * 256 + x) (n * 256 + y) ≡ ordering_then r (nat_cmp x y)
    go Less e = let r = ranked m n Less e in by_rank (m * 256 + x) (n * 256 + y) Less (omega (arith, lx, ly, r))
    go Equal e = by_rank (m * 256 + x) (n * 256 + y) (nat_cmp x y) (shift (ranked m n Equal e) (nat_cmp x y) (ranked x y (nat_cmp x y) refl))
    go Greater e = let r = ranked m n Greater e in by_rank (m * 256 + x) (n * 256 + y) Greater (omega (arith, lx, ly, r))

-- ---- cells as one number

-- the number with these digits behind it
abbrev value : ℕ → List ℕ → ℕ
value n [] = n
value n (x ∷ xs) = value (n * 256 + x) xs

value_order : (xs ys : List ℕ) (m n : ℕ) → length xs ≡ length ys → AreBytes xs → AreBytes ys → nat_cmp (value m xs) (value n ys) ≡ ordering_then (nat_cmp m n) (cells_cmp xs ys)
value_order [] [] m n same bx by = sym (then_equal (nat_cmp m n))
value_order [] (y ∷ ys) m n same bx by = absurd (omega (arith, same))
value_order (x ∷ xs) [] m n same bx by = absurd (omega (arith, same))
value_order (x ∷ xs) (y ∷ ys) m n same bx by =
    value_order xs ys (m * 256 + x) (n * 256 + y) (omega (arith, same)) (All-tail (λ b. b < 256) x xs bx) (All-tail (λ b. b < 256) y ys by)
    ∙ ap (λ o. ordering_then o (cells_cmp xs ys)) (digit_order m n x y (All-head (λ b. b < 256) x xs bx) (All-head (λ b. b < 256) y ys by))
    ∙ then_assoc (nat_cmp m n) (nat_cmp x y) (cells_cmp xs ys)

word_value : (xs : List ℕ) → length xs ≡ 8 → from_be_bytes w64 xs ≡ value 0 xs
word_value [] same = absurd (omega (arith, same))
word_value (a ∷ []) same = absurd (omega (arith, same))
word_value (a ∷ b ∷ []) same = absurd (omega (arith, same))
word_value (a ∷ b ∷ c ∷ []) same = absurd (omega (arith, same))
word_value (a ∷ b ∷ c ∷ d ∷ []) same = absurd (omega (arith, same))
word_value (a ∷ b ∷ c ∷ d ∷ e ∷ []) same = absurd (omega (arith, same))
word_value (a ∷ b ∷ c ∷ d ∷ e ∷ f ∷ []) same = absurd (omega (arith, same))
word_value (a ∷ b ∷ c ∷ d ∷ e ∷ f ∷ g ∷ []) same = absurd (omega (arith, same))
word_value (a ∷ b ∷ c ∷ d ∷ e ∷ f ∷ g ∷ h ∷ []) same =
    let all : from_be_bytes w64 (a ∷ b ∷ c ∷ d ∷ e ∷ f ∷ g ∷ h ∷ [])
    ≡ a * 72057594037927936 + b * 281474976710656 + c * 1099511627776 + d * 4294967296 + e * 16777216 + f * 65536 + g * 256 + h = refl in
    omega (arith, all)
word_value (a ∷ b ∷ c ∷ d ∷ e ∷ f ∷ g ∷ h ∷ i ∷ xs) same = absurd (omega (arith, same))

-- eight cells are ordered as the number that they are
words_order : (xs ys : List ℕ) → length xs ≡ 8 → length ys ≡ 8 → AreBytes xs → AreBytes ys → nat_cmp (from_be_bytes w64 xs) (from_be_bytes w64 ys) ≡ cells_cmp xs ys
words_order xs ys lx ly bx by = ap₂ nat_cmp (word_value xs lx) (word_value ys ly) ∙ value_order xs ys 0 0 (lx ∙ sym ly) bx by

-- ---- cells from a place on

-- as many cells before others decide first
order_of_both : (xs ys more others : List ℕ) → length xs ≡ length ys → cells_cmp (xs ++ more) (ys ++ others) ≡ ordering_then (cells_cmp xs ys) (cells_cmp more others)
order_of_both [] [] more others same = refl
order_of_both [] (y ∷ ys) more others same = absurd (omega (arith, same))
order_of_both (x ∷ xs) [] more others same = absurd (omega (arith, same))
order_of_both (x ∷ xs) (y ∷ ys) more others same =
    ap (ordering_then (nat_cmp x y)) (order_of_both xs ys more others (omega (arith, same))) ∙ sym (then_assoc (nat_cmp x y) (cells_cmp xs ys) (cells_cmp more others))

-- eight cells, and then those behind them
word_first : (xs ys : List ℕ) → 8 ≤ length xs → 8 ≤ length ys → AreBytes xs → AreBytes ys
    → cells_cmp xs ys ≡ ordering_then (nat_cmp (from_be_bytes w64 (take 8 xs)) (from_be_bytes w64 (take 8 ys))) (cells_cmp (drop 8 xs) (drop 8 ys))
word_first xs ys lx ly bx by =
    let tx : length (take 8 xs) ≡ 8 = length-take-le 8 xs lx in
    let ty : length (take 8 ys) ≡ 8 = length-take-le 8 ys ly in
    ap₂ cells_cmp (sym (take-append-drop 8 xs)) (sym (take-append-drop 8 ys)) ∙ order_of_both (take 8 xs) (take 8 ys) (drop 8 xs) (drop 8 ys) (tx ∙ sym ty)
    ∙ ap (λ o. ordering_then o (cells_cmp (drop 8 xs) (drop 8 ys))) (sym (words_order (take 8 xs) (take 8 ys) tx ty (All-take (λ b. b < 256) 8 xs bx) (All-take (λ b. b < 256) 8 ys by)))

pub word_at_place : (xs ys : List ℕ) (i : ℕ) → i + 8 ≤ length xs → length xs ≡ length ys → AreBytes xs → AreBytes ys
    → cells_cmp (drop i xs) (drop i ys) ≡ ordering_then (nat_cmp (from_be_bytes w64 (take 8 (drop i xs))) (from_be_bytes w64 (take 8 (drop i ys)))) (cells_cmp (drop (i + 8) xs) (drop (i + 8) ys))
word_at_place xs ys i within same bx by =
    word_first (drop i xs) (drop i ys) (omega (arith, within, length-drop i xs)) (omega (arith, within, same, length-drop i ys)) (All-drop (λ b. b < 256) i xs bx) (All-drop (λ b. b < 256) i ys by)
    ∙ ap₂ (λ us vs. ordering_then (nat_cmp (from_be_bytes w64 (take 8 (drop i xs))) (from_be_bytes w64 (take 8 (drop i ys)))) (cells_cmp us vs)) (drop-drop 8 i xs) (drop-drop 8 i ys)

-- so their numbers decide where they differ
pub word_decides : (xs ys : List ℕ) (i wx wy : ℕ) (o : Ordering) → i + 8 ≤ length xs → length xs ≡ length ys → AreBytes xs → AreBytes ys → cells_cmp xs ys ≡ cells_cmp (drop i xs) (drop i ys)
    → wx ≡ from_be_bytes w64 (take 8 (drop i xs)) → wy ≡ from_be_bytes w64 (take 8 (drop i ys)) → o ≡ nat_cmp wx wy → true ≡ is_ne o → o ≡ cells_cmp xs ys
word_decides xs ys i wx wy o within same bx by before ex ey is told =
    let more = cells_cmp (drop (i + 8) xs) (drop (i + 8) ys) in
    sym (before ∙ word_at_place xs ys i within same bx by ∙ ap (λ p. ordering_then p more) (sym (is ∙ ap₂ nat_cmp ex ey)) ∙ then_decided o more told)

-- and else leave it to the cells behind them
pub word_passes : (xs ys : List ℕ) (i wx wy : ℕ) (o : Ordering) → i + 8 ≤ length xs → length xs ≡ length ys → AreBytes xs → AreBytes ys → cells_cmp xs ys ≡ cells_cmp (drop i xs) (drop i ys)
    → wx ≡ from_be_bytes w64 (take 8 (drop i xs)) → wy ≡ from_be_bytes w64 (take 8 (drop i ys)) → o ≡ nat_cmp wx wy → false ≡ is_ne o → cells_cmp xs ys ≡ cells_cmp (drop (i + 8) xs) (drop (i + 8) ys)
word_passes xs ys i wx wy o within same bx by before ex ey is told =
    let more = cells_cmp (drop (i + 8) xs) (drop (i + 8) ys) in
    before ∙ word_at_place xs ys i within same bx by ∙ ap (λ p. ordering_then p more) (sym (is ∙ ap₂ nat_cmp ex ey)) ∙ then_passed o more told

-- ---- texts with zeros past them

abbrev Zeros : List ℕ → Type 0
Zeros [] = Unit {0}
Zeros (z ∷ zs) = (z ≡ 0) × Zeros zs

zeros_of : (n : ℕ) → Zeros (replicate n 0)
zeros_of zero = tt
zeros_of (suc n) = (refl, zeros_of n)

zeros_equal : (xs ys : List ℕ) → Zeros xs → Zeros ys → length xs ≡ length ys → cells_cmp xs ys ≡ Equal
zeros_equal [] [] zx zy same = refl
zeros_equal [] (y ∷ ys) zx zy same = absurd (omega (arith, same))
zeros_equal (x ∷ xs) [] zx zy same = absurd (omega (arith, same))
zeros_equal (x ∷ xs) (y ∷ ys) zx zy same = ap (λ o. ordering_then o (cells_cmp xs ys)) (by_rank x y Equal (zx.0 ∙ sym zy.0)) ∙ zeros_equal xs ys zx.1 zy.1 (omega (arith, same))

zeros_first : (xs ys : List ℕ) → Zeros xs → length xs ≡ length ys → (cells_cmp xs ys ≡ Less) ⊎ (cells_cmp xs ys ≡ Equal)
zeros_first [] [] zx same = inr refl
zeros_first [] (y ∷ ys) zx same = absurd (omega (arith, same))
zeros_first (x ∷ xs) [] zx same = absurd (omega (arith, same))
zeros_first (x ∷ xs) (y ∷ ys) zx same = go (nat_cmp x y) refl (zeros_first xs ys zx.1 (omega (arith, same)))
  where
    go : (r : Ordering) → r ≡ nat_cmp x y → (cells_cmp xs ys ≡ Less) ⊎ (cells_cmp xs ys ≡ Equal) → (ordering_then (nat_cmp x y) (cells_cmp xs ys) ≡ Less) ⊎ (ordering_then (nat_cmp x y) (cells_cmp xs ys) ≡ Equal)
    go Less e rest = inl (ap (λ o. ordering_then o (cells_cmp xs ys)) (sym e))
    go Equal e (inl less) = inl (ap (λ o. ordering_then o (cells_cmp xs ys)) (sym e) ∙ less)
    go Equal e (inr equal) = inr (ap (λ o. ordering_then o (cells_cmp xs ys)) (sym e) ∙ equal)
    go Greater e rest = absurd (let r = ranked x y Greater e in let z = zx.0 in omega (arith, r, z))

zeros_last : (xs ys : List ℕ) → Zeros ys → length xs ≡ length ys → (cells_cmp xs ys ≡ Greater) ⊎ (cells_cmp xs ys ≡ Equal)
zeros_last [] [] zy same = inr refl
zeros_last [] (y ∷ ys) zy same = absurd (omega (arith, same))
zeros_last (x ∷ xs) [] zy same = absurd (omega (arith, same))
zeros_last (x ∷ xs) (y ∷ ys) zy same = go (nat_cmp x y) refl (zeros_last xs ys zy.1 (omega (arith, same)))
  where
    go : (r : Ordering) → r ≡ nat_cmp x y → (cells_cmp xs ys ≡ Greater) ⊎ (cells_cmp xs ys ≡ Equal) → (ordering_then (nat_cmp x y) (cells_cmp xs ys) ≡ Greater) ⊎ (ordering_then (nat_cmp x y) (cells_cmp xs ys) ≡ Equal)
    go Greater e rest = inl (ap (λ o. ordering_then o (cells_cmp xs ys)) (sym e))
    go Equal e (inl greater) = inl (ap (λ o. ordering_then o (cells_cmp xs ys)) (sym e) ∙ greater)
    go Equal e (inr equal) = inr (ap (λ o. ordering_then o (cells_cmp xs ys)) (sym e) ∙ equal)
    go Less e rest = absurd (let r = ranked x y Less e in let z = zy.0 in omega (arith, r, z))

-- texts are ordered as all cells are, and then by their lengths
texts_order : (xs ys : List ℕ) (m n : ℕ) → length xs ≡ length ys → m ≤ length xs → n ≤ length ys → Zeros (drop m xs) → Zeros (drop n ys)
    → cells_cmp (take m xs) (take n ys) ≡ ordering_then (cells_cmp xs ys) (nat_cmp m n)
texts_order [] [] zero zero same lm ln zx zy = refl
texts_order [] [] zero (suc n) same lm ln zx zy = absurd (omega (arith, ln))
texts_order [] [] (suc m) n same lm ln zx zy = absurd (omega (arith, lm))
texts_order [] (y ∷ ys) m n same lm ln zx zy = absurd (omega (arith, same))
texts_order (x ∷ xs) [] m n same lm ln zx zy = absurd (omega (arith, same))
texts_order (x ∷ xs) (y ∷ ys) zero zero same lm ln zx zy = sym (ap (λ o. ordering_then o (nat_cmp 0 0)) (zeros_equal (x ∷ xs) (y ∷ ys) zx zy same))
texts_order (x ∷ xs) (y ∷ ys) zero (suc n) same lm ln zx zy = sym (go (zeros_first (x ∷ xs) (y ∷ ys) zx same))
  where
    go : (cells_cmp (x ∷ xs) (y ∷ ys) ≡ Less) ⊎ (cells_cmp (x ∷ xs) (y ∷ ys) ≡ Equal) → ordering_then (cells_cmp (x ∷ xs) (y ∷ ys)) (nat_cmp 0 (suc n)) ≡ Less
    go (inl less) = ap (λ o. ordering_then o (nat_cmp 0 (suc n))) less
    go (inr equal) = ap (λ o. ordering_then o (nat_cmp 0 (suc n))) equal ∙ by_rank 0 (suc n) Less (omega arith)
texts_order (x ∷ xs) (y ∷ ys) (suc m) zero same lm ln zx zy = sym (go (zeros_last (x ∷ xs) (y ∷ ys) zy same))
  where
    go : (cells_cmp (x ∷ xs) (y ∷ ys) ≡ Greater) ⊎ (cells_cmp (x ∷ xs) (y ∷ ys) ≡ Equal) → ordering_then (cells_cmp (x ∷ xs) (y ∷ ys)) (nat_cmp (suc m) 0) ≡ Greater
    go (inl greater) = ap (λ o. ordering_then o (nat_cmp (suc m) 0)) greater
    go (inr equal) = ap (λ o. ordering_then o (nat_cmp (suc m) 0)) equal ∙ by_rank (suc m) 0 Greater (omega arith)
texts_order (x ∷ xs) (y ∷ ys) (suc m) (suc n) same lm ln zx zy =
    ap (ordering_then (nat_cmp x y)) (texts_order xs ys m n (omega (arith, same)) (omega (arith, lm)) (omega (arith, ln)) zx zy)
    ∙ sym (then_assoc (nat_cmp x y) (cells_cmp xs ys) (nat_cmp m n))
    ∙ ap (ordering_then (ordering_then (nat_cmp x y) (cells_cmp xs ys))) (sym (suc_order m n))

-- so are the texts that filled cells hold
pub filled_order : (k m n : ℕ) (xs ys : List ℕ) → IsFilled k m xs → IsFilled k n ys → cells_cmp (take m xs) (take n ys) ≡ ordering_then (cells_cmp xs ys) (nat_cmp m n)
filled_order k m n xs ys fx fy =
    texts_order xs ys m n (fx.size ∙ sym fy.size) (omega (arith, fx.size, fx.fits)) (omega (arith, fy.size, fy.fits))
    (subst Zeros (sym fx.rest) (zeros_of (k - m))) (subst Zeros (sym fy.rest) (zeros_of (k - n)))
