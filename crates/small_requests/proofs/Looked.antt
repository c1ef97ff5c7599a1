-- Looks that a step takes, from those of its parts.
use Rattle.std.proofs.Common.{◌≡◌, ◌⊎◌, inl, inr, sym, ap, subst, ◌∙◌, arith, ℕ, ℤ, ◌+◌, ◌<◌, ◌≤◌, Bool, true, not, nat_eq, ◌||◌, true≢false, List, [], ◌∷◌, length, Contains}
use Rattle.std.proofs.Math.Bool.{or-true}
use Rattle.std.proofs.lemmas.Bool.{eq-eqb, or_left}
use Rattle.std.proofs.lemmas.List.Kept.{IsStrictlySortedBy-filter}
use Rattle.std.specs.List.Sorted.{IsStrictlySortedBy}
use Rattle.std.specs.Cmp.{nat_cmp_total}
use Rattle.std.specs.Ordering.{nat_cmp}
use Rattle.plan_basics.proofs.Members.{contains_cases, contains_none}
use Rattle.small_requests.proofs.OneFrame.{graph_stays}
use Rattle.plan_checks.specs.plan_laws.proofs.Sorted.{sorted_unique}
use Rattle.plan_model.specs.Contents.{Contents}
use Rattle.small_requests.specs.StepLooks.{AreBoth, IsStepLooked}
use Rattle.plan_checks.specs.derived_figures.specs.UnknownPlaces.{is_place_among, unknown_places}
use Rattle.plan_rows.specs.Notes.{operations_noted}
use Rattle.plan_rows.specs.declared.notes.FacilityChange.{FacilityChange}
use Rattle.small_requests.proofs.MovedColumns.{then}
use Rattle.small_requests.specs.Effects.{IsMovedStepOf}
use Rattle.small_requests.specs.Groundworks.{HasGroundwork, IsCounted}
use Rattle.small_requests.specs.declared.columns.FigureColumns.{FigureColumns}
use Rattle.small_requests.specs.declared.edits.Edit.{Edit}
use Rattle.small_requests.specs.declared.named_steps.SmallStep.{SmallStep}
use Rattle.small_requests.specs.declared.groundwork.Groundwork.{Groundwork}
use Rattle.ready_list.proofs.Members.{contains_filter, contains_from_filter}
use Rattle.ready_list.specs.Entries.{ReadyEntries}

-- what is among places is told to be
pub told_among : (known : List ℕ) (i : ℕ) → Contains known i → is_place_among known i ≡ true
told_among [] i has = absurd (contains_none i has)
told_among (p ∷ known) i has =
    elim (contains_cases p known i has) [
      | inl here ↦ or_left (nat_eq p i) (is_place_among known i) (eq-eqb p i here)
      | inr later ↦ ap (λ b. nat_eq p i || b) (told_among known i later) ∙ or-true (nat_eq p i)
    ]

abbrev pub is_beside : List ℕ → ℕ → Bool
is_beside moved i = not (is_place_among moved i)

-- of what is touched, what wasn't moved is what is named and wasn't moved
pub touched_beside : (moved places touched : List ℕ) → IsStrictlySortedBy nat_cmp places → AreBoth moved places touched → unknown_places moved touched ≡ unknown_places moved places
touched_beside moved places touched ascend both =
    sorted_unique nat_cmp_total (unknown_places moved touched) (unknown_places moved places)
    (IsStrictlySortedBy-filter nat_cmp (is_beside moved) touched both.ascend) (IsStrictlySortedBy-filter nat_cmp (is_beside moved) places ascend)
    (λ i has.
    let from = contains_from_filter (is_beside moved) touched i has in
    elim ((both.both i).0 from.0) [
      | inl moved_there ↦ absurd (true≢false (sym from.1 ∙ ap not (told_among moved i moved_there)))
      | inr named_there ↦ contains_filter (is_beside moved) places i from.1 named_there
    ])
    (λ i has. let from = contains_from_filter (is_beside moved) places i has in contains_filter (is_beside moved) touched i from.1 ((both.both i).1 (inr from.0)))

-- at least as many more, from an earlier moment on
pub from_before : (before between n m after : ℕ) → before ≤ between → n ≡ m → (18446744073709551615 ≤ after) ⊎ (between + m ≤ after) → (18446744073709551615 ≤ after) ⊎ (before + n ≤ after)
from_before before between n m after le same (inl most) = inl most
from_before before between n m after le same (inr more) = inr (omega (arith, le, same, more))

-- the looks of a step are those of what is counted anew and taken anew, of what is moved, and of what is named and noted
pub step_looked : (P Q : Contents) (e : Edit) (starts : List ℤ) (l : FigureColumns) (r : ReadyEntries) (g : Groundwork) (has : HasGroundwork P Q e.places.items starts l r g) (m : ℕ) (b : FacilityChange) (before between after : ℕ) (s : SmallStep)
    → before ≤ between → IsCounted Q e 2 l.wait_states.items (then P Q e.places.items starts l r g has) g.touched.items before between → IsMovedStepOf Q m g.touched.items b between after s
    → IsStepLooked P Q e.is_rerun e.places.items s.named.items (operations_noted s.notes) before after
step_looked P Q e starts l r g has m b before between after s fewest counted (moved, from, to, is) =
    let on = has.worked_out.moved_on in
    let graph_after = graph_stays P Q e.places.items has.moved in
    record {
      wait_states = l.wait_states.items;
      kept_then = then P Q e.places.items starts l r g has;
      are_kept = has.columns.wait_states;
      are_kept_then = on.kept_then;
      moved = g.touched.items;
      moved_ascend = on.touched.ascend;
      moved_within = λ i h. subst (λ n. i < n) has.moved.size (on.touched.within i h);
      elsewhere = on.elsewhere;
      around = λ d graph. counted.around d (graph_after d graph);
      places = is.places;
      are_places = is.are_places;
      asked = is.asked;
      are_asked = is.are_asked;
      touched = is.touched;
      joined = is.joined;
      all_noted = is.all_noted;
      most = λ d followers graph hold.
          let first = counted.most d followers (graph_after d graph) hold in
          let last = is.most in
          omega (arith, first, to, last);
      fewest = from_before before moved (operations_noted s.notes) (length is.touched) after (omega (arith, fewest, from)) is.all_noted is.fewest;
    }
