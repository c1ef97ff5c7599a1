-- What workstations have given out, at their rows' indices.
use Rattle.std.proofs.Common.{◌≡◌, ◌≢◌, inl, inr, refl, sym, ap, subst, ◌∙◌, arith, ℕ, ◌<◌, List, get_or, length, set, slice_get, Some}
use Rattle.std.proofs.lemmas.List.{length-set}
use Rattle.std.proofs.lemmas.Option.{slice_get_read, some_pair_parts}
use Rattle.std.specs.List.Sorted.{IsStrictlySortedBy}
use Rattle.std.specs.Map.{keys_of}
use Rattle.plan_basics.specs.Keys.{Name, name_cmp, name_cmp_total}
use Rattle.plan_model.specs.Contents.{Operation}
use Rattle.counted_records.specs.plan_drafts.specs.Places.{AreByPlace}
use Rattle.counted_records.specs.plan_status.proofs.Ascending.{one_place, set_cases}
use Rattle.workstations.specs.Timetables.{NamedWorkstation}
use Rattle.workstations.specs.Workstations.{Workstation}
use Rattle.workstations.specs.declared.Capacity.{Capacity}
use Rattle.start_choice.specs.Takings.{with_one_more}

-- at each workstation's index, what the function has at its name
abbrev pub AreAt : List NamedWorkstation → List Capacity → (Name → Capacity) → Type 0
AreAt rows given at = AreByPlace rows given (λ w capacity. capacity ≡ at w)

pub same_at : (rows : List NamedWorkstation) (given : List Capacity) (old new : Name → Capacity) → ((w : Name) → new w ≡ old w) → AreAt rows given old → AreAt rows given new
same_at rows given old new same are = record { size = are.size; each = λ i w ws x row found. are.each i w ws x row found ∙ sym (same w) }

-- what is given out at an index of theirs
pub read_at : (rows : List NamedWorkstation) (given : List Capacity) (f : Name → Capacity) → AreAt rows given f → (place : ℕ) (read : Capacity) → place < length rows
    → read ≡ get_or given place read → slice_get given place ≡ Some read
read_at rows given f are place read lt e = slice_get_read given (length given) place read refl (omega (arith, lt, are.size)) e

module _ (rows : List NamedWorkstation) (sorted : IsStrictlySortedBy name_cmp (keys_of rows)) (place : ℕ) (name : Name) (ws : Workstation) (at : slice_get rows place ≡ Some (name, ws)) where
  -- something else at one index
  pub changed_at : (given : List Capacity) (old new : Name → Capacity) → ((w : Name) → name ≢ w → new w ≡ old w) → AreAt rows given old → AreAt rows (set given place (new name)) new
  changed_at given old new same are = record {
    size = length-set given place (new name) ∙ are.size;
    each = λ j w v x here is. elim (set_cases given place j (new name) x is) [
      | inl this ↦ this.1 ∙ ap new (some_pair_parts name w ws v (sym at ∙ ap (slice_get rows) (sym this.0) ∙ here)).0
      | inr other ↦
          let apart : name ≢ w = λ e. other.0 (one_place name_cmp_total rows sorted j place w v ws here (subst (λ z. slice_get rows place ≡ Some (z, ws)) e at)) in
          are.each j w v x here other.1 ∙ sym (same w apart)
    ];
  }

  -- one operation more at one index
  pub more_at : (op : Operation) (given : List Capacity) (old new : Name → Capacity) → new name ≡ with_one_more (old name) op → ((w : Name) → name ≢ w → new w ≡ old w)
      → (was : Capacity) → slice_get given place ≡ Some was → AreAt rows given old → AreAt rows (set given place (with_one_more was op)) new
  more_at op given old new more same was there are =
      subst (λ c. AreAt rows (set given place c) new) (more ∙ ap (λ c. with_one_more c op) (sym (are.each place name ws was at there))) (changed_at given old new same are)
