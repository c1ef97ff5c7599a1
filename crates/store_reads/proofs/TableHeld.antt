-- One table whose rows are those of some rows of a plan.
use Rattle.std.proofs.Common.{◌≡◌, ◌≢◌, ◌↔◌, inl, inr, refl, sym, ap, subst, ◌∙◌, Contains, List, [], ◌∷◌, drop, Option, Some, None}
use Rattle.std.specs.List.{filter_map, cons_option}
use Rattle.sqlite.specs.Order.{Row}
use Rattle.sqlite.specs.Tree.{Trees}
use Rattle.sqlite_rules.specs.Lists.{Has}
use Rattle.sqlite_rules.proofs.ListLemmas.{has_contained, contains_had}
use Rattle.store_schema.specs.Stored.{Holds}
use Rattle.plan_records.specs.declared.PlanRow.{PlanRow}
use Rattle.store_reads.specs.Rows.{columns_of, table_for}
use Rattle.store_reads.specs.declared.decoding.Table.{Table}
use Rattle.store_reads.specs.Tables.{rows_of, AreRead}

-- ---- what a list has whose values are picked

from_cons : {X Y : Type 0} (f : X → Option Y) (xs : List X) (x : X) (y : Y) (o : Option Y) → f x ≡ o → (Has (filter_map f xs) y → (z : X) × Has xs z × (f z ≡ Some y)) → Has (cons_option o (filter_map f xs)) y
    → (z : X) × Has (x ∷ xs) z × (f z ≡ Some y)
from_cons f xs x y None e more h = let it = more h in (it.0, inr it.1, it.2)
from_cons f xs x y (Some z) e more (inl same) = (x, inl refl, e ∙ ap Some (sym same))
from_cons f xs x y (Some z) e more (inr later) = let it = more later in (it.0, inr it.1, it.2)

pub picked_from : {X Y : Type 0} (f : X → Option Y) (xs : List X) (y : Y) → Has (filter_map f xs) y → (z : X) × Has xs z × (f z ≡ Some y)
picked_from f [] y h = absurd h
picked_from f (x ∷ xs) y h = from_cons f xs x y (f x) refl (picked_from f xs y) h

had_behind : {Y : Type 0} (o : Option Y) (ys : List Y) (y : Y) → Has ys y → Has (cons_option o ys) y
had_behind None ys y h = h
had_behind (Some z) ys y h = inr h

pub picked_has : {X Y : Type 0} (f : X → Option Y) (xs : List X) (x : X) (y : Y) → Has xs x → f x ≡ Some y → Has (filter_map f xs) y
picked_has f [] x y h e = absurd h
picked_has f (z ∷ xs) x y (inl same) e = subst (λ o. Has (cons_option o (filter_map f xs)) y) (sym (ap f (sym same) ∙ e)) (inl refl)
picked_has f (z ∷ xs) x y (inr later) e = had_behind (f z) (filter_map f xs) y (picked_has f xs x y later e)

-- ---- the rows of one table

-- a row with a value is of this table, and has it as its columns; a row with none is of another
abbrev pub IsTold : {X : Type 0} → Table → (X → Row) → PlanRow → Option X → Type 0
IsTold t row r None = table_for r ≢ t
IsTold t row r (Some x) = (table_for r ≡ t) × (columns_of r ≡ row x)

-- so it is of all rows of a plan, with their values in this table
pub record IsTableOf {X : Type 0} (t : Table) (of : PlanRow → Option X) (row : X → Row) : Type 0 where
  pub told : (r : PlanRow) → IsTold t row r (of r)

-- each of these rows that is of this table stands in it, and what stands in it is one of them
abbrev pub StoresOf : Table → Trees → (PlanRow → Type 0) → Type 0
StoresOf t trees IsIn =
    ((r : PlanRow) → IsIn r → table_for r ≡ t → (stored : Row) × Has (rows_of t trees) stored × (drop 1 stored ≡ columns_of r))
    × ((stored : Row) → Has (rows_of t trees) stored → (r : PlanRow) × IsIn r × (table_for r ≡ t) × (drop 1 stored ≡ columns_of r))

-- a row of this table has a value, which is its columns
pub value_of : {X : Type 0} {t : Table} {of : PlanRow → Option X} {row : X → Row} → IsTableOf t of row → (r : PlanRow) → table_for r ≡ t → (x : X) × (of r ≡ Some x) × (columns_of r ≡ row x)
value_of {X} {t} {of} {row} is r own = by (of r) refl (is.told r)
  where
    by : (o : Option X) → of r ≡ o → IsTold t row r o → (x : X) × (of r ≡ Some x) × (columns_of r ≡ row x)
    by None e other = absurd (other own)
    by (Some x) e told = (x, e, told.1)

module _ {X : Type 0} {t : Table} {of : PlanRow → Option X} {row : X → Row} (is : IsTableOf t of row) (trees : Trees) where
  -- a table that was read holds the values of the rows that were read
  pub held_of : (tables : List Table) (rows : List PlanRow) → Has tables t → AreRead tables trees rows → Holds row (rows_of t trees) (filter_map of rows)
  held_of tables rows listed read =
      let table = read.tables_read t listed in
      record {
        numbered = table.numbered;
        sound = λ stored there.
            let it = table.every stored there in
            let x = value_of is it.0 it.2.0 in
            (x.0, picked_has of rows it.0 x.0 it.1 x.1, it.2.2 ∙ x.2);
        complete = λ x there.
            let it = picked_from of rows x there in
            let own = subst (IsTold t row it.0) it.2 (is.told it.0) in
            let found = read.only it.0 it.1 in
            (found.0, subst (λ u. Has (rows_of u trees) found.0) own.0 found.1, found.2.2 ∙ own.1);
      }

  -- one that holds the values of some rows stores those of them that are of it
  pub stores_of : (IsIn : PlanRow → Type 0) (xs : List X) → Holds row (rows_of t trees) xs → ((x : X) → Has xs x ↔ ((r : PlanRow) × IsIn r × (of r ≡ Some x))) → StoresOf t trees IsIn
  stores_of IsIn xs holds hold = (
    λ r in_it own.
        let x = value_of is r own in
        let it = holds.complete x.0 ((hold x.0).1 (r, in_it, x.1)) in
        (it.0, it.1, it.2 ∙ sym x.2),
    λ stored there.
        let it = holds.sound stored there in
        let r = (hold it.0).0 it.1 in
        let own = subst (IsTold t row r.0) r.2 (is.told r.0) in
        (r.0, r.1, own.0, it.2 ∙ sym own.1),
  )

-- of rows of other tables there are no values
pub none_picked : {X : Type 0} {t : Table} {of : PlanRow → Option X} {row : X → Row} → IsTableOf t of row → (rows : List PlanRow) → ((r : PlanRow) → Has rows r → table_for r ≢ t) → filter_map of rows ≡ []
none_picked {of = of} is rows other = none_in (filter_map of rows) (λ x there. let it = picked_from of rows x there in other it.0 it.1 (subst (IsTold _ _ it.0) it.2 (is.told it.0)).0)
  where
    none_in : {Y : Type 0} (ys : List Y) → ((y : Y) → Has ys y → ⊥) → ys ≡ []
    none_in [] none = refl
    none_in (y ∷ ys) none = absurd (none y (inl refl))

-- the values of the rows of a list are those of the rows that it contains
pub picked : {X : Type 0} (of : PlanRow → Option X) (rows : List PlanRow) (x : X) → Has (filter_map of rows) x ↔ ((r : PlanRow) × Contains rows r × (of r ≡ Some x))
picked of rows x = (
  λ there. let it = picked_from of rows x there in (it.0, contains_had rows it.0 it.1, it.2),
  λ it. picked_has of rows it.0 x (has_contained rows it.0 it.1) it.2,
)
