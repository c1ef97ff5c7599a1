-- Keys: when two rows have one key, and what a DELETE by a key tests.
use Rattle.std.proofs.Common.{◌≡◌, ℕ, zero, suc, ◌+◌, add-one, arith, List, [], ◌∷◌, ◌&&◌, Bool, true, false, refl, sym, ap, ap₂, ◌∙◌}
use Rattle.std.specs.List.{list_all, range_with_len}
use Rattle.std.specs.Ordering.{is_eq, nat_cmp}
use Rattle.std.specs.Prelude.{drop, take}
use Rattle.std.proofs.lemmas.Bool.{and_parts, true≢false}
use Rattle.std.proofs.lemmas.Cmp.{tied_itself}
use Rattle.std.proofs.lemmas.Map.Lookups.{exact_bytes, exact_signed}
use Rattle.sqlite.specs.Collation.TheVariants.{Binary}
use Rattle.sqlite.specs.Ops.{is_null}
use Rattle.sqlite.specs.Order.{Row, column, value_cmp}
use Rattle.sqlite.specs.Term.{holds}
use Rattle.sqlite.specs.declared.types.Value.{Value}
use Rattle.sqlite.specs.declared.types.Value.TheVariants.{Null, Int, Real, Text, Blob}
use Rattle.sqlite_schema.specs.Rules.{agree, equal}
use Rattle.sqlite_value.specs.Keys.{first_key, plain}
use Rattle.sqlite_value.specs.Order.{class}
use Rattle.sqlite_value.proofs.OrderLemmas.{value_cmp_total, value_cmp-Int, value_cmp-Text, value_cmp-Blob, value_cmp-apart}
use Rattle.store_schema.specs.Commands.{key_terms}
use Rattle.store_schema.specs.Rows.{same_key}
use Rattle.store_schema.specs.Stored.{IsExact, BeginsExactly}
use Rattle.store_schema.proofs.Rowids.{equal_is, eq_of}

-- rows agree in a list of places where they are equal in each
agree_first : (p : ℕ) (places : List ℕ) (a b : Row) → agree plain (p ∷ places) a (p ∷ places) b ≡ (equal Binary (column a p) (column b p) && agree plain places a places b)
unfolding first_key
agree_first p places a b = refl

-- a column behind the first
pub behind : (x : Value) (r : Row) (at : ℕ) → column (x ∷ r) (at + 1) ≡ column r at
behind x r at = ap (column (x ∷ r)) (add-one at)

-- from a column on, two rows agree in so many
abbrev agrees : ℕ → ℕ → Row → Row → Bool
agrees from count a b = agree plain (range_with_len from count) a (range_with_len from count) b

-- of the columns behind the rowids nothing depends on the rowids
blind_from : (from count : ℕ) (x y z w : Value) (a b : Row) → agrees (from + 1) count (x ∷ a) (y ∷ b) ≡ agrees (from + 1) count (z ∷ a) (w ∷ b)
blind_from from zero x y z w a b = refl
blind_from from (suc count) x y z w a b =
    let one : equal Binary (column (x ∷ a) (from + 1)) (column (y ∷ b) (from + 1)) ≡ equal Binary (column (z ∷ a) (from + 1)) (column (w ∷ b) (from + 1)) =
    ap₂ (equal Binary) (behind x a from ∙ sym (behind z a from)) (behind y b from ∙ sym (behind w b from)) in
    agree_first (from + 1) _ (x ∷ a) (y ∷ b) ∙ ap₂ ◌&&◌ one (blind_from (from + 1) count x y z w a b) ∙ sym (agree_first (from + 1) _ (z ∷ a) (w ∷ b))

pub same_key_behind : (key : ℕ) (x y z w : Value) (a b : Row) → same_key key (x ∷ a) (y ∷ b) ≡ same_key key (z ∷ a) (w ∷ b)
same_key_behind key x y z w a b = blind_from 0 key x y z w a b

-- what a DELETE by the key tests of a row
tests_from : (from count : ℕ) (k : Row) (x y : Value) (r : Row) → list_all (holds (k ∷ (x ∷ r) ∷ [])) (key_terms from count) ≡ agrees (from + 1) count (x ∷ r) (y ∷ k)
tests_from from zero k x y r = refl
tests_from from (suc count) k x y r =
    let one : equal Binary (column (x ∷ r) (from + 1)) (column k from) ≡ equal Binary (column (x ∷ r) (from + 1)) (column (y ∷ k) (from + 1)) = ap (equal Binary (column (x ∷ r) (from + 1))) (sym (behind y k from)) in
    ap₂ ◌&&◌ one (tests_from (from + 1) count k x y r) ∙ sym (agree_first (from + 1) _ (x ∷ r) (y ∷ k))

pub deletes_by_key : (key : ℕ) (k : Row) (id : Value) (r : Row) → list_all (holds (k ∷ (id ∷ r) ∷ [])) (key_terms 0 key) ≡ same_key key (Null ∷ r) (Null ∷ k)
deletes_by_key key k id r = tests_from 0 key k id Null r ∙ same_key_behind key id Null Null Null r k

-- ---- exact values

apart_in : (a b : Value) → (class a ≡ class b → ⊥) → is_eq (nat_cmp (class a) (class b)) ≡ false → is_eq (value_cmp a b) ≡ true → a ≡ b
apart_in a b other unlike same = absurd (true≢false (sym same ∙ ap is_eq (value_cmp-apart a b other) ∙ unlike))

tie_exact : (a b : Value) → IsExact a → IsExact b → is_eq (value_cmp a b) ≡ true → a ≡ b
tie_exact (Int m) (Int n) p q same = ap Int (exact_signed m n (sym (value_cmp-Int m n) ∙ eq_of _ same))
tie_exact (Int m) (Text t) p q same = apart_in (Int m) (Text t) (λ e. omega (arith, e)) refl same
tie_exact (Int m) (Blob t) p q same = apart_in (Int m) (Blob t) (λ e. omega (arith, e)) refl same
tie_exact (Text s) (Int n) p q same = apart_in (Text s) (Int n) (λ e. omega (arith, e)) refl same
tie_exact (Text s) (Text t) p q same = ap Text (exact_bytes s t (sym (value_cmp-Text s t) ∙ eq_of _ same))
tie_exact (Text s) (Blob t) p q same = apart_in (Text s) (Blob t) (λ e. omega (arith, e)) refl same
tie_exact (Blob s) (Int n) p q same = apart_in (Blob s) (Int n) (λ e. omega (arith, e)) refl same
tie_exact (Blob s) (Text t) p q same = apart_in (Blob s) (Text t) (λ e. omega (arith, e)) refl same
tie_exact (Blob s) (Blob t) p q same = ap Blob (exact_bytes s t (sym (value_cmp-Blob s t) ∙ eq_of _ same))
tie_exact Null b p q same = absurd p
tie_exact (Real x) b p q same = absurd p
tie_exact (Int m) Null p q same = absurd q
tie_exact (Int m) (Real x) p q same = absurd q
tie_exact (Text s) Null p q same = absurd q
tie_exact (Text s) (Real x) p q same = absurd q
tie_exact (Blob s) Null p q same = absurd q
tie_exact (Blob s) (Real x) p q same = absurd q

not_null : (a : Value) → IsExact a → is_null a ≡ false
not_null Null p = absurd p
not_null (Int n) p = refl
not_null (Real x) p = absurd p
not_null (Text t) p = refl
not_null (Blob b) p = refl

equal_exact : (a b : Value) → IsExact a → IsExact b → equal Binary a b ≡ true → a ≡ b
equal_exact a b p q same = tie_exact a b p q (sym (equal_is a b (not_null a p) (not_null b q)) ∙ same)

equal_itself : (a : Value) → IsExact a → equal Binary a a ≡ true
equal_itself a p = equal_is a a (not_null a p) (not_null a p) ∙ ap is_eq (tied_itself value_cmp_total a)

-- without the first column behind the rowid
shifted : (from count : ℕ) (x y u w : Value) (a b : Row) → agrees (from + 1 + 1) count (x ∷ u ∷ a) (y ∷ w ∷ b) ≡ agrees (from + 1) count (x ∷ a) (y ∷ b)
shifted from zero x y u w a b = refl
shifted from (suc count) x y u w a b =
    let one : equal Binary (column (x ∷ u ∷ a) (from + 1 + 1)) (column (y ∷ w ∷ b) (from + 1 + 1)) ≡ equal Binary (column (x ∷ a) (from + 1)) (column (y ∷ b) (from + 1)) =
    ap₂ (equal Binary) (behind x (u ∷ a) (from + 1) ∙ behind u a from ∙ sym (behind x a from)) (behind y (w ∷ b) (from + 1) ∙ behind w b from ∙ sym (behind y b from)) in
    agree_first (from + 1 + 1) _ (x ∷ u ∷ a) (y ∷ w ∷ b) ∙ ap₂ ◌&&◌ one (shifted (from + 1) count x y u w a b) ∙ sym (agree_first (from + 1) _ (x ∷ a) (y ∷ b))

key_first : (key : ℕ) (x y u w : Value) (a b : Row) → same_key (suc key) (x ∷ u ∷ a) (y ∷ w ∷ b) ≡ (equal Binary u w && same_key key (x ∷ a) (y ∷ b))
key_first key x y u w a b = agree_first 1 _ (x ∷ u ∷ a) (y ∷ w ∷ b) ∙ ap (λ s. equal Binary u w && s) (shifted 0 key x y u w a b)

-- rows of one key begin alike
pub begin_alike : (key : ℕ) (x y : Value) (a b : Row) → BeginsExactly key a → BeginsExactly key b → same_key key (x ∷ a) (y ∷ b) ≡ true → take key a ≡ take key b
begin_alike zero x y a b p q same = refl
begin_alike (suc key) x y [] b p q same = absurd p
begin_alike (suc key) x y (u ∷ a) [] p q same = absurd q
begin_alike (suc key) x y (u ∷ a) (w ∷ b) p q same =
    let both = and_parts _ _ (sym (key_first key x y u w a b) ∙ same) in
    ap₂ (λ v r. v ∷ r) (equal_exact u w p.0 q.0 both.0) (begin_alike key x y a b p.1 q.1 both.1)

-- rows that begin alike have one key
pub one_key : (key : ℕ) (x y : Value) (a b : Row) → BeginsExactly key a → BeginsExactly key b → take key a ≡ take key b → same_key key (x ∷ a) (y ∷ b) ≡ true
one_key zero x y a b p q same = refl
one_key (suc key) x y [] b p q same = absurd p
one_key (suc key) x y (u ∷ a) [] p q same = absurd q
one_key (suc key) x y (u ∷ a) (w ∷ b) p q same =
    let first : u ≡ w = ap (λ l. column l 0) same in
    key_first key x y u w a b ∙ ap₂ ◌&&◌ (ap (equal Binary u) (sym first) ∙ equal_itself u p.0) (one_key key x y a b p.1 q.1 (ap (drop 1) same))
