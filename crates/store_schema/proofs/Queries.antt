-- What a query over one table answers.
use Rattle.std.proofs.Common.{◌≡◌, ℕ, zero, suc, ◌+◌, ◌<◌, length, get_or, arith, ◌^◌, List, [], ◌∷◌, map, filter, false, cond, refl, sym, ap, subst, ◌∙◌, nat_le, inl, inr}
use Rattle.std.specs.List.{list_all, flat_map}
use Rattle.std.specs.List.Sorted.{IsPermutation, IsSorted}
use Rattle.std.proofs.lemmas.List.Sorted.{IsPermutation-map, IsPermutation-sym, Contains-permutation}
use Rattle.std.specs.Ordering.{is_lt}
use Rattle.std.proofs.lemmas.List.{get_or-map, length-map}
use Rattle.std.proofs.lemmas.Bool.{cases_Bool}
use Rattle.sqlite.specs.declared.types.Value.TheVariants.{Null}
use Rattle.sqlite.specs.Order.{Row, column, value_cmp}
use Rattle.sqlite.specs.Term.{Term, col, eval_all, holds}
use Rattle.sqlite.specs.Tree.{rowid}
use Rattle.sqlite.specs.Query.{IsAnswer, output, output_cmp, Output}
use Rattle.sqlite.specs.Program.{overlay}
use Rattle.sqlite.specs.Effect.{Database, Answers}
use Rattle.sqlite_value.specs.declared.keys.Key.{Key}
use Rattle.sqlite_value.proofs.OrderLemmas.{then-Equal}
use Rattle.sqlite_rules.specs.Lists.{Has}
use Rattle.sqlite_rules.proofs.ListLemmas.{has_contained, contains_had}
use Rattle.store_schema.specs.Commands.{ordered, program, by_rowid}

-- what passes, shown
shown_rows : (params : Row) (filt project : List Term) (order : List (Term × Key)) (tree : ℕ) (rows : List Row) →
    map (λ (o : Output). o.1) (map (output (ordered tree filt project order)) (flat_map (λ r. cond (list_all (holds (params ∷ r ∷ [])) filt) ((params ∷ r ∷ []) ∷ []) []) rows))
    ≡ map (λ r. eval_all project (params ∷ r ∷ [])) (filter (λ r. list_all (holds (params ∷ r ∷ [])) filt) rows)
shown_rows params filt project order tree [] = refl
shown_rows params filt project order tree (r ∷ rows) = elim (cases_Bool (list_all (holds (params ∷ r ∷ [])) filt)) [
  | inl passes ↦ rw passes (ap (λ l. eval_all project (params ∷ r ∷ []) ∷ l) (shown_rows params filt project order tree rows))
  | inr fails ↦ rw fails (shown_rows params filt project order tree rows)
]

pub answered : (db : Database) (tree : ℕ) (filt project : List Term) (order : List (Term × Key)) (params : Row) (rows : List Row) → nat_le (2 ^ 31) tree ≡ false
    → Answers db (program (ordered tree filt project order)) params rows
    → IsPermutation (map (λ r. eval_all project (params ∷ r ∷ [])) (filter (λ r. list_all (holds (params ∷ r ∷ [])) filt) (db.trees tree))) rows
answered db tree filt project order params rows low h =
    let a : IsAnswer (ordered tree filt project order) (overlay db.trees []) params rows = h.answer Null in
    let at : overlay db.trees [] tree ≡ db.trees tree = rw low refl in
    let shown = IsPermutation-map (λ (o : Output). o.1) a.kept a.ordered a.same in
    let all : map (λ (o : Output). o.1) a.kept ≡ map (λ r. eval_all project (params ∷ r ∷ [])) (filter (λ r. list_all (holds (params ∷ r ∷ [])) filt) (db.trees tree)) =
    ap (map (λ (o : Output). o.1)) (a.distinct ∙ ap (map (output (ordered tree filt project order))) a.grouped)
    ∙ shown_rows params filt project order tree (overlay db.trees [] tree)
    ∙ ap (λ l. map (λ r. eval_all project (params ∷ r ∷ [])) (filter (λ r. list_all (holds (params ∷ r ∷ [])) filt) l)) at in
    subst (λ l. IsPermutation l rows) all (subst (IsPermutation (map (λ (o : Output). o.1) a.kept)) (sym a.shown) shown)

pub has_permuted : {X : Type 0} (xs ys : List X) (x : X) → IsPermutation xs ys → Has xs x → Has ys x
has_permuted xs ys x same h = has_contained ys x (Contains-permutation xs ys x same (contains_had xs x h))

pub has_mapped : {X Y : Type 0} (f : X → Y) (xs : List X) (y : Y) → Has (map f xs) y → (x : X) × Has xs x × (y ≡ f x)
has_mapped f [] y h = absurd h
has_mapped f (x ∷ xs) y (inl same) = (x, inl refl, same)
has_mapped f (x ∷ xs) y (inr later) = let it = has_mapped f xs y later in (it.0, inr it.1, it.2)

pub mapped_has : {X Y : Type 0} (f : X → Y) (xs : List X) (x : X) → Has xs x → Has (map f xs) (f x)
mapped_has f [] x h = absurd h
mapped_has f (y ∷ xs) x (inl same) = inl (ap f same)
mapped_has f (y ∷ xs) x (inr later) = inr (mapped_has f xs x later)

has_within : {X : Type 0} (xs : List X) (i : ℕ) (d : X) → i < length xs → Has xs (get_or xs i d)
has_within [] i d within = absurd (omega (arith, within))
has_within (x ∷ xs) zero d within = inl refl
has_within (x ∷ xs) (suc i) d within = inr (has_within xs i d (omega (arith, within)))

-- what is asked for in the order of the rowids, each first in its row, comes so
pub answered_in_order : (db : Database) (tree : ℕ) (filt more : List Term) (params : Row) (rows : List Row) → Answers db (program (ordered tree filt (col 1 0 ∷ more) by_rowid)) params rows → IsSorted (λ a b. value_cmp (rowid a) (rowid b)) rows
answered_in_order db tree filt more params rows h =
    let q = ordered tree filt (col 1 0 ∷ more) by_rowid in
    let a : IsAnswer q (overlay db.trees []) params rows = h.answer Null in
    let keyed : (o : Output) → Has a.ordered o → o.0 ≡ rowid o.1 ∷ [] = λ o there.
    let kept = has_permuted a.ordered a.kept o (IsPermutation-sym a.kept a.ordered a.same) there in
    let env = has_mapped (output q) a.staged o (subst (λ l. Has l o) a.distinct kept) in
    ap (λ (p : Output). p.0) env.2 ∙ ap (λ (p : Output). rowid p.1 ∷ []) (sym env.2) in
    subst (IsSorted (λ x y. value_cmp (rowid x) (rowid y))) (sym a.shown) (λ k d low high.
    let e : Output = (rowid d ∷ [], d) in
    let within : k + 1 < length a.ordered = omega (arith, high, length-map a.ordered (λ (o : Output). o.1)) in
    let first = get_or-map (λ (o : Output). o.1) a.ordered k e d (omega (arith, within)) in
    let second = get_or-map (λ (o : Output). o.1) a.ordered (k + 1) e d within in
    let x = get_or a.ordered k e in
    let y = get_or a.ordered (k + 1) e in
    let test : is_lt (output_cmp q y x) ≡ false = a.sorted k e low within in
    let one : x.0 ≡ rowid x.1 ∷ [] = keyed x (has_within a.ordered k e (omega (arith, within))) in
    let two : y.0 ≡ rowid y.1 ∷ [] = keyed y (has_within a.ordered (k + 1) e within) in
    ap is_lt ((λ i. value_cmp (rowid (second i)) (rowid (first i))) ∙ (λ i. value_cmp (column (sym two i) 0) (column (sym one i) 0)) ∙ sym (then-Equal (value_cmp (column y.0 0) (column x.0 0)))) ∙ test)
