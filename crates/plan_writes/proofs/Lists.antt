-- A list of changes to the tables, each made in its turn.
use Rattle.std.proofs.Common.{◌≡◌, ℕ, ◌+◌, ◌<◌, ◌≤◌, List, [], ◌∷◌, length, drop, get_or, arith, refl, sym, ap, subst, ◌∙◌, Ok, Err, Result, IsErr}
use Rattle.std.proofs.lemmas.Grind.{common_steps}
use Rattle.std.proofs.lemmas.List.{drop_all}
use Rattle.sqlite.specs.Effect.{Database}
use Rattle.sqlite.specs.State.{State}
use Rattle.sqlite.specs.declared.error.Error.{Error}
use Rattle.store_schema.specs.StoredPlans.{Held, Stores}
use Rattle.plan_writes.specs.Within.{Rewrites, RunsWithin}
use Rattle.plan_writes.proofs.Within.{nothing_done, then_runs, then_refused}

-- of the tables that are reached, the changes that are left make what all make of those at the start; they are the same tables
pub record IsOnTheWay {X : Type 0} (changes : List X → Held → Held) (all left : List X) (before after : Database) : Type 0 where
  pub reached : (held : Held) → Stores before held → (part : Held) × Stores after part × (changes left part ≡ changes all held)
  pub schema_stays : after.schema ≡ before.schema

-- of what is left the first is this one
pub left_of : {X : Type 0} (all : List X) (i : ℕ) (x : X) → i < length all → x ≡ get_or all i x → drop i all ≡ x ∷ drop (i + 1) all
left_of all i x here is = grind (arith, common_steps, is, here)

-- the loop has come so far
abbrev pub RunsOn : {X : Type 0} → (List X → Held → Held) → List X → List X → State → State → Type 0
RunsOn changes all left old new = RunsWithin (IsOnTheWay changes all left) old new (Ok tt)

module _ {X : Type 0} (change : X → Held → Held) (changes : List X → Held → Held) (none : (held : Held) → changes [] held ≡ held) (more : (x : X) (xs : List X) (held : Held) → changes (x ∷ xs) held ≡ changes xs (change x held)) where
  -- before the first
  pub set_out : (all : List X) (s : State) → RunsOn changes all all s s
  set_out all s = nothing_done (IsOnTheWay changes all all) s (record { reached = λ held was. (held, was, refl); schema_stays = refl })

  -- one more
  pub goes_on : (all : List X) (i : ℕ) (x : X) → i < length all → x ≡ get_or all i x → (old mid new : State) → RunsOn changes all (drop i all) old mid → RunsWithin (Rewrites (change x)) mid new (Ok tt) → RunsOn changes all (drop (i + 1) all) old new
  goes_on all i x here is old mid new far one = then_runs (IsOnTheWay changes all (drop i all)) (Rewrites (change x)) (IsOnTheWay changes all (drop (i + 1) all)) old mid new far
      (λ before between after far_ one_. record {
        reached = λ held was. let it = far_.reached held was in (change x it.0, one_.turns it.0 it.1, sym (more x (drop (i + 1) all) it.0) ∙ ap (λ l. changes l it.0) (sym (left_of all i x here is)) ∙ it.2);
        schema_stays = one_.schema_stays ∙ far_.schema_stays;
      })
      (Ok tt) one

  -- one is refused
  pub breaks_off : (all : List X) (i : ℕ) (x : X) (old mid new : State) (e : Error) (r : Result (Unit {0}) Error) → IsErr r → RunsOn changes all (drop i all) old mid → RunsWithin (Rewrites (change x)) mid new (Err e) → RunsWithin (Rewrites (changes all)) old new r
  breaks_off all i x = then_refused (IsOnTheWay changes all (drop i all)) (Rewrites (change x)) (Rewrites (changes all))

  -- after the last
  pub arrives : (all : List X) (i : ℕ) → length all ≤ i → (old new : State) → RunsOn changes all (drop i all) old new → RunsWithin (Rewrites (changes all)) old new (Ok tt)
  arrives all i over old new far = record {
    made = λ clean inside.
        let it = far.made clean inside in
        record {
          turns = λ held was. let part = it.reached held was in subst (Stores new.now) (sym (none part.0) ∙ ap (λ l. changes l part.0) (sym (drop_all i all over)) ∙ part.2) part.1;
          schema_stays = it.schema_stays;
        };
    inside = far.inside;
    kept = far.kept;
    survives = far.survives;
  }
