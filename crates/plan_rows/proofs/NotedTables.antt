-- What rows that are noted say of a table of which no other row differs.
use Rattle.std.proofs.Common.{◌≡◌, inl, inr, refl, sym, ap, subst, ◌∙◌, arith, ℕ, ◌+◌, ◌<◌, Bool, true, false, not, List, [], ◌∷◌, ◌++◌, length, get_or, slice_get, Contains, Some, option_map}
use Rattle.std.specs.Cmp.{IsTotalOrder}
use Rattle.std.specs.FinMap.{IsAntisymmetric, get}
use Rattle.std.specs.List.Sorted.{IsStrictlySortedBy}
use Rattle.std.specs.Ordering.{nat_cmp}
use Rattle.std.specs.declared.cmp.Ordering.{Ordering}
use Rattle.std.proofs.lemmas.List.{append-nil}
use Rattle.plan_basics.proofs.Members.{contains_cases, contains_head, contains_later, contains_none}
use Rattle.plan_model.specs.Contents.{Contents, Resources}
use Rattle.plan_model.specs.Plan.{Plan}
use Rattle.plan_records.specs.plan_drafts.specs.declared.RowKey.{RowKey}
use Rattle.plan_records.specs.Rows.{row_cmp}
use Rattle.plan_records.specs.contracts.PlanRowPartialEq.TheImpl as equality
use Rattle.plan_records.specs.declared.Changes.{Changes}
use Rattle.plan_records.specs.declared.PlanRow.{PlanRow}
use Rattle.plan_rows.proofs.DifferentRows.{IsToldTo, all_differences, told_different, told_same}
use Rattle.plan_rows.proofs.OneMore.{one_more_table, table_changes}
use Rattle.plan_rows.proofs.PairedLists.{paired_at, paired_length}
use Rattle.plan_rows.proofs.KeyedRows.{rows_differ}
use Rattle.plan_rows.specs.Notes.{AreNotedAt, AreWithin, IsNotedAt, AreNotedFacilities, NotesFacilities}
use Rattle.plan_rows.specs.Tables.{AreChangesBelow, AreRowsOf}
use Rattle.plan_rows.specs.Touched.{AreDifferentAmong, KeepsQuantities, IsFacilityChange}
use Rattle.plan_rows.specs.declared.noted_rows.NotedRow.{NotedRow}
use Rattle.plan_rows.specs.declared.notes.NotedFacilities.{NotedFacilities}
use Rattle.plan_rows.specs.declared.notes.NotedFacilities.TheVariants as noted
use Rattle.plan_rows.specs.declared.notes.FacilityChange.{FacilityChange}
use Rattle.plan_rows.specs.declared.notes.FacilityChange.TheVariants as facilities
use Rattle.row_differences.specs.Changes.{AreAt}

-- each is noted at one of the places
noted_place : (rows : List PlanRow) (places : List ℕ) (notes : List NotedRow) → AreNotedAt rows places notes → (note : NotedRow) → Contains notes note → Contains places note.place
noted_place rows places [] h note has = absurd (contains_none note has)
noted_place rows [] (m ∷ notes) h note has = absurd h
noted_place rows (i ∷ places) (m ∷ notes) h note has = elim (contains_cases m notes note has) [
  | inl same ↦ subst (λ (z : NotedRow). Contains (i ∷ places) z.place) same (subst (Contains (i ∷ places)) (sym h.0.0) (contains_head i places))
  | inr later ↦ contains_later i places note.place (noted_place rows places notes h.1 note later)
]

pub noted_within : (rows : List PlanRow) (places : List ℕ) (notes : List NotedRow) → AreNotedAt rows places notes → (n : ℕ) → ((i : ℕ) → Contains places i → i < n) → AreWithin n notes
noted_within rows places notes h n within note has = within note.place (noted_place rows places notes h note has)

-- the next row that is noted differs from the one that was there, or stays
pub told_noted : (olds news : List PlanRow) (places : List ℕ) → IsStrictlySortedBy nat_cmp places → (notes : List NotedRow) → AreNotedAt news places notes → (k : ℕ) → k < length notes
    → (place : ℕ) (row was : PlanRow) (told : Bool) → (d : NotedRow) → place ≡ (get_or notes k d).place → row ≡ (get_or notes k d).row → slice_get olds place ≡ Some was → told ≡ not (equality.ghosts.eq was row)
    → (old new : List PlanRow) → IsToldTo olds news places k old new → (told ≡ true → IsToldTo olds news places (k + 1) old (new ++ row ∷ [])) × (told ≡ false → IsToldTo olds news places (k + 1) old new)
told_noted olds news places up notes h k within place row was told d place_is row_is old_row told_is old new so_far =
    let size = paired_length (IsNotedAt news) places notes h in
    let lt : k < length places = omega (arith, within, size) in
    let one = paired_at (IsNotedAt news) places notes k 0 d h lt in
    let next : place ≡ get_or places k 0 = place_is ∙ one.0 in
    let there : slice_get news (get_or places k 0) ≡ Some row = one.1 ∙ ap Some (sym row_is) in
    let before : slice_get olds (get_or places k 0) ≡ Some was = subst (λ i. slice_get olds i ≡ Some was) next old_row in
    let differ = rows_differ olds news (get_or places k 0) was row told before there told_is in (
      λ yes. told_different olds news places up k lt old new so_far row there (differ.0 yes),
      λ no. told_same olds news places up k lt old new so_far (differ.1 no),
    )

-- what rows that are noted say of a whole table
module _ {K : Type 0} (S : K → K → Ordering) (name : K → RowKey) (in_order : (a b : K) → row_cmp (name a) (name b) ≡ S a b) (exact : IsAntisymmetric S) (total : IsTotalOrder S) where
  pub noted_table : (n : ℕ) (P Q : Plan) (before after : List K) → after ≡ before → IsStrictlySortedBy S before → (olds news : List PlanRow) → AreRowsOf name n P before olds → AreRowsOf name n Q after news
      → (places : List ℕ) → ((i : ℕ) → Contains places i → i < length before) → ((i : ℕ) → ¬ Contains places i → slice_get news i ≡ slice_get olds i)
      → (old new : Changes) → new.gone.items ≡ old.gone.items → ((different : List ℕ) × (more : List PlanRow) × AreDifferentAmong olds news places different × AreAt news different more × (new.rows.items ≡ old.rows.items ++ more))
      → AreChangesBelow n P Q old → AreChangesBelow (n + 1) P Q new
  noted_table n P Q before after same up olds news was is places within elsewhere old new gone (different, more, are, at, rows) so_far =
      one_more_table n P Q old new more [] rows (gone ∙ sym (append-nil old.gone.items)) so_far
      (table_changes S name in_order exact before after up (subst (IsStrictlySortedBy S) (sym same) up) olds news (λ i j. slice_get olds i ≡ slice_get news j) (λ i j one. (λ h. h, λ h. h)) n P Q was is
      different [] more [] (all_differences total before after same up olds news (λ i j. slice_get olds i ≡ slice_get news j) (λ i j one. (λ h. h, λ h. h)) places different within elsewhere are) at refl)

-- what is noted beside operations is all that may differ there
pub all_facilities : (P Q : Contents) (b : FacilityChange) (n : NotedFacilities) → IsFacilityChange b P Q → AreNotedFacilities Q b n → NotesFacilities P Q n
all_facilities P Q facilities.Nothing noted.Nothing stays is = stays
all_facilities P Q facilities.Nothing (noted.Resources rows) stays is = absurd is
all_facilities P Q facilities.Nothing (noted.Intervals rows) stays is = absurd is
all_facilities P Q facilities.Resources noted.Nothing stays is = absurd is
all_facilities P Q facilities.Resources (noted.Resources rows) stays is = (stays.0, stays.1, stays.2, is)
all_facilities P Q facilities.Resources (noted.Intervals rows) stays is = absurd is
all_facilities P Q facilities.Workstations noted.Nothing stays is = absurd is
all_facilities P Q facilities.Workstations (noted.Resources rows) stays is = absurd is
all_facilities P Q facilities.Workstations (noted.Intervals rows) stays is = (stays.0, stays.1, is)

-- no quantity differs
pub quantities_keep : (P Q : Contents) (b : FacilityChange) → IsFacilityChange b P Q → KeepsQuantities P Q
quantities_keep P Q facilities.Nothing stays r = ap (λ (resources : Resources). option_map (λ s. s.quantity) (get resources r)) stays.1
quantities_keep P Q facilities.Resources stays r = stays.2 r
quantities_keep P Q facilities.Workstations stays r = ap (λ (resources : Resources). option_map (λ s. s.quantity) (get resources r)) stays.0

-- no pair differs
pub pairs_stay : (P Q : Contents) (b : FacilityChange) → IsFacilityChange b P Q → Q.pairs ≡ P.pairs
pairs_stay P Q facilities.Nothing stays = stays.2
pairs_stay P Q facilities.Resources stays = stays.1
pairs_stay P Q facilities.Workstations stays = stays.1
