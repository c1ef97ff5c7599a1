-- Rows whose rowids rise are told apart by them.
use Rattle.std.proofs.Common.{◌≡◌, ◌≢◌, ℤ, ◌<ℤ◌, int_lt, true, List, [], ◌∷◌, Option, None, Some, inl, inr, refl, sym, ap, subst, ◌∙◌, arith}
use Rattle.std.specs.Prelude.{T, ⊤}
use Rattle.std.proofs.lemmas.Bool.{and_parts, true≢false}
use Rattle.std.proofs.lemmas.Int.{ints}
use Rattle.sqlite.specs.Order.{Row}
use Rattle.sqlite.specs.Tree.{rowid}
use Rattle.sqlite.specs.declared.types.Value.{Value}
use Rattle.sqlite.specs.declared.types.Value.TheVariants.{Null, Int, Real, Text, Blob}
use Rattle.sqlite_rules.specs.Lists.{Has}
use Rattle.sqlite_rules.proofs.ListLemmas.{all_from}
use Rattle.sqlite_trees.specs.View.{is_int}
use Rattle.store_schema.specs.Rows.{AreNumbered}
use Rattle.store_reads.specs.Reads.{follows, integer_in, rise_above}

-- above the last one, if there was one
abbrev IsAbove : Option ℤ → ℤ → Type 0
IsAbove None id = ⊤
IsAbove (Some last) id = last <ℤ id

less : (a b : ℤ) → int_lt a b ≡ true → a <ℤ b
less a b e = record { lt = subst T (sym e) tt }

above : (last : Option ℤ) (v : Value) → follows last (integer_in v) ≡ true → (id : ℤ) × (v ≡ Int id) × IsAbove last id
above None (Int id) h = (id, refl, tt)
above (Some last) (Int id) h = (id, refl, less last id h)
above None Null h = absurd (true≢false (sym h))
above None (Real x) h = absurd (true≢false (sym h))
above None (Text s) h = absurd (true≢false (sym h))
above None (Blob b) h = absurd (true≢false (sym h))
above (Some last) Null h = absurd (true≢false (sym h))
above (Some last) (Real x) h = absurd (true≢false (sym h))
above (Some last) (Text s) h = absurd (true≢false (sym h))
above (Some last) (Blob b) h = absurd (true≢false (sym h))

above_more : (last : Option ℤ) (m n : ℤ) → IsAbove last m → m <ℤ n → IsAbove last n
above_more None m n h more = tt
above_more (Some last) m n h more = omega (arith, ints)

-- integers of which one is below the other are two
apart : (x y : Row) (m n : ℤ) → rowid x ≡ Int m → rowid y ≡ Int n → m <ℤ n → rowid x ≢ rowid y
apart x y m n p q below same = let e : Int m ≡ Int n = sym p ∙ same ∙ q in let one : m ≡ n = cc in absurd (omega (arith, ints, one, below))

abbrev AllAbove : Option ℤ → List Row → Type 0
AllAbove last rows = (r : Row) → Has rows r → (id : ℤ) × (rowid r ≡ Int id) × IsAbove last id

numbered_above : (last : Option ℤ) (rows : List Row) → rise_above last rows ≡ true → AreNumbered rows × AllAbove last rows
numbered_above last [] h = ((tt, tt), λ r there. absurd there)
numbered_above last (x ∷ rows) h =
    let first = above last (rowid x) (and_parts _ _ h).0 in
    let rest = numbered_above (Some first.0) rows (subst (λ v. rise_above (integer_in v) rows ≡ true) first.1 (and_parts _ _ h).1) in (
      (
        (all_from (λ y. rowid x ≢ rowid y) rows (λ y there. let it = rest.1 y there in apart x y first.0 it.0 first.1 it.1 it.2), rest.0.0),
        (ap is_int first.1, rest.0.1),
      ),
      λ r there. elim there [
        | inl own ↦ (first.0, ap rowid own ∙ first.1, first.2)
        | inr later ↦ let it = rest.1 r later in (it.0, it.1, above_more last first.0 it.0 first.2 it.2)
      ],
    )

pub rising_numbered : (rows : List Row) → rise_above None rows ≡ true → AreNumbered rows
rising_numbered rows h = (numbered_above None rows h).0
