-- Statuses worked out again, one index after another.
use Rattle.std.proofs.Common.{◌≡◌, ◌⊎◌, inl, inr, sym, ap, subst, ◌∙◌, ℕ, List, [], ◌∷◌, ◌++◌, length, map, set, slice_get, Some, Contains}
use Rattle.std.proofs.lemmas.List.Elements.{Contains-push_cases}
use Rattle.std.specs.FinMap.{entries}
use Rattle.plan_basics.specs.declared.keys.OpKey.{OpKey}
use Rattle.plan_basics.proofs.Members.{contains_cases, contains_head, contains_later, contains_none}
use Rattle.status_rules.specs.declared.Status.{Status}
use Rattle.plan_model.specs.Contents.{Contents, Operation}
use Rattle.plan_model.specs.Status.{HasStatus}
use Rattle.start_choice.specs.plan_drafts.specs.Places.{AreStatuses}
use Rattle.plan_model.specs.Moves.{IsMovedAt}
use Rattle.start_choice.specs.plan_status.proofs.Ascending.{set_cases}
use Rattle.derived_figures.specs.StatusesBefore.{AreRightBeside, HasStatusAt, KeepStatus}
use Rattle.derived_figures.specs.Overwritten.{overwritten}

-- each status is right, or as it was before, at another index than these
pub record AreRestatedAt (Q : Contents) (done : List ℕ) (before after : List Status) : Type 0 where
  pub each : (i : ℕ) (o : OpKey) (op : Operation) (s : Status) → slice_get (entries Q.operations) i ≡ Some (o, op) → slice_get after i ≡ Some s
      → (¬ Contains done i × (slice_get before i ≡ Some s)) ⊎ HasStatus Q o s

pub none_restated : (Q : Contents) (before : List Status) → AreRestatedAt Q [] before before
none_restated Q before = record { each = λ i o op s row at. inl (contains_none i, at) }

pub one_restated : (Q : Contents) (done : List ℕ) (before after : List Status) (p : ℕ) (new : Status) → AreRestatedAt Q done before after
    → ((o : OpKey) (op : Operation) → slice_get (entries Q.operations) p ≡ Some (o, op) → HasStatus Q o new) → AreRestatedAt Q (done ++ p ∷ []) before (set after p new)
one_restated Q done before after p new so_far right = record {
  each = λ i o op s row at. elim (set_cases after p i new s at) [
    | inl this ↦ inr (subst (HasStatus Q o) (sym this.1) (right o op (ap (slice_get (entries Q.operations)) (sym this.0) ∙ row)))
    | inr other ↦ elim (so_far.each i o op s row other.1) [
      | inl still ↦ inl (λ has. elim (Contains-push_cases done p i has) [ inl earlier ↦ still.0 earlier | inr last ↦ other.0 (sym last) ], still.1)
      | inr has ↦ inr has
    ]
  ];
}

-- where all others are right, the statuses are right
pub all_restated : (Q : Contents) (places : List ℕ) (before after : List Status) → AreRightBeside Q places before → AreRestatedAt Q places before after → length after ≡ length (entries Q.operations) → AreStatuses Q after
all_restated Q places before after uncounted done size = record {
  size = size;
  each = λ i o op s row at. elim (done.each i o op s row at) [
    | inl still ↦ uncounted i still.0 s still.1 o op row
    | inr has ↦ has
  ];
}

-- those of a plan that differs in marks and flags alone are right where they are kept
pub right_beside : (P Q : Contents) (moved_at : List ℕ) → IsMovedAt P Q moved_at → (places : List ℕ) (before : List Status) → AreStatuses P before → KeepStatus P Q places → AreRightBeside Q places before
right_beside P Q moved_at moved places before are keep i out s at o op row = let was = moved.rows i o op row in keep i out o op row s (are.each i o was.before s was.was at)

-- statuses are written that operations have
pub written_right : (Q : Contents) (to : List (ℕ × Status)) → ((value : ℕ × Status) → Contains to value → HasStatusAt Q value) → (before : List Status) → AreRestatedAt Q (map (λ value. value.0) to) before (overwritten to before)
written_right Q [] right before = none_restated Q before
written_right Q (e ∷ to) right before = record {
  each = λ i o op s row at. elim ((written_right Q to (λ value has. right value (contains_later e to value has)) (set before e.0 e.1)).each i o op s row at) [
    | inl still ↦ elim (set_cases before e.0 i e.1 s still.1) [
      | inl this ↦ inr (subst (HasStatus Q o) (sym this.1) (right e (contains_head e to) o op (ap (slice_get (entries Q.operations)) (sym this.0) ∙ row)))
      | inr other ↦ inl (λ has. elim (contains_cases e.0 (map (λ (value : ℕ × Status). value.0) to) i has) [ inl is ↦ other.0 (sym is) | inr later ↦ still.0 later ], other.1)
    ]
    | inr has ↦ inr has
  ];
}
