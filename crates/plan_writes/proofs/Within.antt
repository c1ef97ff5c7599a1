-- Calls within a transaction, one after another.
use Rattle.std.proofs.Common.{◌≡◌, ℕ, List, inl, inr, refl, sym, subst, ◌∙◌, arith, Ok, Err, Result, OnOk, IsErr, IsTrue}
use Rattle.std.proofs.lemmas.Bool.{false≢true}
use Rattle.sqlite.specs.Effect.{Database, IsDatabase}
use Rattle.sqlite.specs.Order.{Row}
use Rattle.sqlite.specs.Tree.{Trees}
use Rattle.sqlite.specs.State.{State, HasCleanDisk, KeepsCommit, Survives, ExecutesInside}
use Rattle.sqlite.specs.declared.error.Error.{Error}
use Rattle.sqlite.proofs.StateLemmas.{survives_then}
use Rattle.store_schema.proofs.Inside.{kept_inside}
use Rattle.sqlite.specs.Schema.{Schema}
use Rattle.plan_writes.specs.Within.{Grows, IsRun, RunsWithin}

-- a text was run, or refused, with some number of rows that it changed
counted : (sql : List ℕ) (values : Row) (old new : State) (r : Result (Unit {0}) Error) → IsRun sql values old new r → (count : Result ℕ Error) × ExecutesInside 0 sql values old new count
counted sql values old new (Ok x) ran = (Ok ran.0, ran.1)
counted sql values old new (Err e) ran = (Err e, ran)

goes_on : (sql : List ℕ) (values : Row) (old new : State) (r : Result (Unit {0}) Error) → IsRun sql values old new r → OnOk r (IsTrue new.in_transaction × (new.committed ≡ old.committed))
goes_on sql values old new (Ok x) ran = (ran.1.1.mode, ran.1.1.committed_is)
goes_on sql values old new (Err e) ran = tt

-- a text that is run
pub executed : (Makes : Database → Database → Type 0) (sql : List ℕ) (values : Row) (old new : State) (r : Result (Unit {0}) Error) → (IsRun sql values old new r → OnOk r (Makes old.now new.now))
    → (HasCleanDisk new → IsTrue old.in_transaction → IsRun sql values old new r) → Survives old new (λ _. ⊥) → RunsWithin Makes old new r
executed Makes sql values old new r makes ran survives = record {
  made = λ clean inside. makes (ran clean inside);
  inside = λ clean inside. goes_on sql values old new r (ran clean inside);
  kept = λ clean inside. let it = counted sql values old new r (ran clean inside) in kept_inside old new sql values it.0 it.1;
  survives = survives;
}

-- ---- one after another

pub survives_same : (s : State) (P : Trees → Type 0) → Survives s s P
survives_same s P = record { clean = omega arith; shield = λ h. h; counts = omega arith; limit = refl; closes = λ clean is_open. inl is_open; crash = λ clean db may. inl may }

-- nothing was done
pub nothing_done : (Makes : Database → Database → Type 0) (s : State) → Makes s.now s.now → RunsWithin Makes s s (Ok tt)
nothing_done Makes s makes = record {
  made = λ clean inside. makes;
  inside = λ clean inside. (inside, refl);
  kept = λ clean inside. record { was_open = λ is_open. is_open; committed = λ is_open. refl };
  survives = survives_same s (λ _. ⊥);
}

module _ (A B C : Database → Database → Type 0) (old mid new : State) (one : RunsWithin A old mid (Ok tt)) where
  stays : HasCleanDisk mid → IsTrue old.in_transaction → (r : Result (Unit {0}) Error) → RunsWithin B mid new r → HasCleanDisk new → KeepsCommit old new
  stays late inside r two clean =
      let was = one.inside late inside in
      let after = two.kept clean was.0 in
      record {
        was_open = λ is_open. (one.kept late inside).was_open (after.was_open is_open);
        committed = λ is_open. after.committed is_open ∙ was.1;
      }

  joined : (r : Result (Unit {0}) Error) → OnOk r (IsTrue new.in_transaction × (new.committed ≡ mid.committed)) → mid.committed ≡ old.committed → OnOk r (IsTrue new.in_transaction × (new.committed ≡ old.committed))
  joined (Ok y) h same = (h.0, h.1 ∙ same)
  joined (Err e) h same = tt

  both_made : ((before between after : Database) → A before between → B between after → C before after) → A old.now mid.now → (r : Result (Unit {0}) Error) → OnOk r (B mid.now new.now) → OnOk r (C old.now new.now)
  both_made join first (Ok y) second = join old.now mid.now new.now first second
  both_made join first (Err e) second = tt

  -- two calls of which the first is accepted
  pub then_runs : ((before between after : Database) → A before between → B between after → C before after) → (r : Result (Unit {0}) Error) → RunsWithin B mid new r → RunsWithin C old new r
  then_runs join r two =
      let late = λ (clean : HasCleanDisk new). let it : HasCleanDisk mid = omega (arith, clean, two.survives.clean) in it in
      record {
        made = λ clean inside. both_made join (one.made (late clean) inside) r (two.made clean (one.inside (late clean) inside).0);
        inside = λ clean inside. let was = one.inside (late clean) inside in joined r (two.inside clean was.0) was.1;
        kept = λ clean inside. stays (late clean) inside r two clean;
        survives = survives_then old mid new (λ _. ⊥) (λ _. ⊥) (λ _. ⊥) (λ _ db none. none) (λ _ db none. none) one.survives two.survives;
      }

-- a refused call makes nothing
pub as_err : (A B : Database → Database → Type 0) (old new : State) (e : Error) (r : Result (Unit {0}) Error) → IsErr r → RunsWithin A old new (Err e) → RunsWithin B old new r
as_err A B old new e (Err f) is h = record { made = λ clean inside. tt; inside = λ clean inside. tt; kept = h.kept; survives = h.survives }
as_err A B old new e (Ok y) is h = absurd (false≢true is)

-- whatever is made
abbrev Any : Database → Database → Type 0
Any before after = Unit {0}

-- two calls, the second of which is refused
pub then_refused : (A B C : Database → Database → Type 0) (old mid new : State) (e : Error) (r : Result (Unit {0}) Error) → IsErr r → RunsWithin A old mid (Ok tt) → RunsWithin B mid new (Err e) → RunsWithin C old new r
then_refused A B C old mid new e r is one two = as_err Any C old new e r is (then_runs A B Any old mid new one (λ before between after _ _. tt) (Err e) two)

-- ---- tables that are made one after another

-- nothing was made
pub not_grown : (a : Schema) (db : Database) → Grows a a db db
not_grown a db = record { empty = λ h. h; sound = inr refl; back = λ e. e }

pub grown : (a b c : Schema) (before between after : Database) → Grows a b before between → Grows b c between after → Grows a c before after
grown a b c before between after one two = record {
  empty = λ h. two.empty (one.empty h);
  sound = elim two.sound [
    | inl s ↦ inl s
    | inr same ↦ elim one.sound [ inl s ↦ inl (subst IsDatabase (sym same) s) | inr first ↦ inr (same ∙ first) ]
  ];
  back = λ e. one.back (two.back e);
}
