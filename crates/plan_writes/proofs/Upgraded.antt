-- Tables of the first version, to which two are added.
use Rattle.std.proofs.Common.{◌≡◌, ℕ, List, [], sym, subst, ◌∙◌, arith, Ok, Err, Result, OnOk, IsErrAnd, IsTrue, Bool}
use Rattle.sqlite.specs.Change.{created}
use Rattle.sqlite.specs.Effect.{Database}
use Rattle.sqlite.specs.Order.{Row}
use Rattle.sqlite.specs.Schema.{Schema}
use Rattle.sqlite.specs.State.{State, HasCleanDisk, Survives}
use Rattle.sqlite.specs.Table.{Table}
use Rattle.sqlite.specs.declared.error.Error.{Error}
use Rattle.store_schema.specs.Stored.{Holds, HoldsByRowid}
use Rattle.store_schema.proofs.Creation.{creates}
use Rattle.store_schema.specs.Schema.{amount, quantity, first_schema, schema_10}
use Rattle.store_schema.specs.StoredPlans.{Held, Stores, StoresFirst, with_meta, quantity_row, amount_row}
use Rattle.store_schema.proofs.Empty.{none}
use Rattle.store_schema.specs.Columns.{meta_columns}
use Rattle.plan_writes.specs.Upgrading.{Adds, Upgrades}
use Rattle.plan_writes.specs.Faults.{FindsFree, IsOfNames}
use Rattle.plan_writes.specs.Within.{IsRun, Rewrites, RunsWithin}
use Rattle.plan_writes.proofs.Faults.{finds_names_free}
use Rattle.plan_writes.proofs.Growth.{grows, grown_from}
use Rattle.plan_writes.proofs.Making.{Makes}

-- a text that makes a table makes it beside those that there are
pub adds_so : (from : Schema) (table : Table) (sql : List ℕ) → Makes from table sql → (old new : State) (r : Result (Unit {0}) Error) → IsRun sql [] old new r → OnOk r (Adds from table old.now new.now)
adds_so from table sql m old new (Ok x) ran = record {
  made = λ has. creates from sql table old new ran.0 m.is m.plain m.bare_after has ran.1.0;
  back = λ e. grown_from from (created from table) table m.bare old.now.schema new.now.schema (grows sql m.reads [] old new ran.0 ran.1.0).0 e;
}
adds_so from table sql m old new (Err e) ran = tt

-- and not for a name, where its own is free
pub adds_named : (from : Schema) (table : Table) (sql : List ℕ) → Makes from table sql → (old new : State) (r : Result (Unit {0}) Error) → (HasCleanDisk new → IsTrue old.in_transaction → IsRun sql [] old new r) → FindsFree from old new r
adds_named from table sql m old new (Ok x) ran clean inside has = tt
adds_named from table sql m old new (Err e) ran clean inside has = finds_names_free from sql table m.is m.plain m.free m.bare_after old new e has (ran clean inside)

-- a call after another
pub free_after : (Makes : Database → Database → Type 0) (from to : Schema) (old mid new : State) → RunsWithin Makes old mid (Ok tt) → (Makes old.now mid.now → old.now.schema ≡ from → mid.now.schema ≡ to) → Survives mid new (λ _. ⊥)
    → (r : Result (Unit {0}) Error) → FindsFree to mid new r → FindsFree from old new r
free_after Makes from to old mid new one leads survives r free clean inside has =
    let late : HasCleanDisk mid = omega (arith, clean, survives.clean) in
    free clean (one.inside late inside).0 (leads (one.made late inside) has)

pub named_as : (from : Schema) (old new : State) (e : Error) (r : Result (Unit {0}) Error) → IsErrAnd r (λ f. f ≡ e) → FindsFree from old new (Err e) → FindsFree from old new r
named_as from old new e (Ok x) is free clean inside has = tt
named_as from old new e (Err f) is free clean inside has = λ named. free clean inside has (subst IsOfNames is named)

-- rows that a table keeps hold what they held
kept : {X : Type 0} {row : X → Row} {before between after : List Row} {xs : List X} → between ≡ before → after ≡ between → Holds row before xs → Holds row after xs
kept {row = row} {xs = xs} one two h = subst (λ rows. Holds row rows xs) (sym (two ∙ one)) h

kept_by_rowid : {X : Type 0} {row : X → Row} {before between after : List Row} {xs : List X} → between ≡ before → after ≡ between → HoldsByRowid row before xs → HoldsByRowid row after xs
kept_by_rowid {row = row} {xs = xs} one two h = subst (λ rows. HoldsByRowid row rows xs) (sym (two ∙ one)) h

-- the nine tables keep what they hold, and the two hold nothing
pub both_added : (before between after : Database) → Adds first_schema quantity before between → Adds schema_10 amount between after → (held : Held) → StoresFirst before held → Stores after held
both_added before between after one two held h =
    let a = one.made h.schema_is in
    let b = two.made a.1 in
    let k = a.3 in
    let l = b.3 in
    record {
      sound = b.0;
      schema_is = b.1;
      metas = kept_by_rowid k.0 l.0 h.metas;
      workstations = kept k.1.0 l.1.0 h.workstations;
      intervals = kept k.1.1.0 l.1.1.0 h.intervals;
      resources = kept k.1.1.1.0 l.1.1.1.0 h.resources;
      occurrences = kept k.1.1.1.1.0 l.1.1.1.1.0 h.occurrences;
      operations = kept k.1.1.1.1.1.0 l.1.1.1.1.1.0 h.operations;
      dependencies = kept k.1.1.1.1.1.1.0 l.1.1.1.1.1.1.0 h.dependencies;
      needs = kept k.1.1.1.1.1.1.1.0 l.1.1.1.1.1.1.1.0 h.needs;
      receipts = kept k.1.1.1.1.1.1.1.1.0 l.1.1.1.1.1.1.1.1.0 h.receipts;
      quantities = subst (Holds quantity_row (after.trees 17)) (sym h.quantities) (none quantity_row (after.trees 17) (l.1.1.1.1.1.1.1.1.1.0 ∙ a.2));
      amounts = subst (Holds amount_row (after.trees 19)) (sym h.amounts) (none amount_row (after.trees 19) b.2);
    }

-- with the version
pub upgraded : (loaded : Bool) (clock : ℕ) (before mid after : Database) → ((between : Database) × Adds first_schema quantity before between × Adds schema_10 amount between mid) → Rewrites (with_meta (meta_columns 2 loaded clock)) mid after → Upgrades loaded clock before after
upgraded loaded clock before mid after added put = record {
  stores = λ held h. put.turns held (both_added before added.0 mid added.1 added.2 held h);
  back = λ e. added.1.back (added.2.back (sym put.schema_stays ∙ e));
}
