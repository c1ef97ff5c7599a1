use Rattle.std.proofs.Common.{◌≡◌, refl, sym, ap, ◌∙◌, ℕ, List, Option, Some, None, is_some, IfSome, IsNone, slice_get}
use Rattle.std.specs.FinMap.{from_entries, get}
use Rattle.plan_basics.specs.Keys.{occurrence_cmp, occurrence_cmp_total, occurrence_cmp-IsAntisymmetric}
use Rattle.plan_basics.specs.declared.keys.OccKey.{OccKey}
use Rattle.plan_changes.specs.plan_drafts.proofs.RowPlaces.{get_at}
use Rattle.plan_status.specs.plan_model.specs.declared.Occurrence.{Occurrence}
use Rattle.counted_records.proofs.leaving.is_one_of.Goals as goal

-- an index is found just where there is a row of the key
found : (rows : List (OccKey × Occurrence)) (k : OccKey) (place : Option ℕ) → (IfSome place (λ i. (x : Occurrence) × (get {R = occurrence_cmp} (from_entries rows) k ≡ Some x)))
    → (IsNone place → get {R = occurrence_cmp} (from_entries rows) k ≡ None) → is_some place ≡ is_some (get {R = occurrence_cmp} (from_entries rows) k)
found rows k (Some i) there absent = sym (ap is_some there.1)
found rows k None there absent = sym (ap is_some (absent refl))

at_place : (place : Option ℕ) (A B : ℕ → Type 0) → ((i : ℕ) → A i → B i) → IfSome place A → IfSome place B
at_place (Some i) A B f a = f i a
at_place None A B f a = a

pub returns : goal.returns
returns c =
    let rows = c.args.occurrences.now in
    let k = c.args.key.now in
    c.is_some.ensures ∙ found rows k c.row_place.result
    (at_place c.row_place.result (λ i. (x : Occurrence) × (slice_get rows i ≡ Some (k, x))) (λ i. (x : Occurrence) × (get {R = occurrence_cmp} (from_entries rows) k ≡ Some x))
    (λ i at. (at.0, get_at occurrence_cmp occurrence_cmp_total occurrence_cmp-IsAntisymmetric rows c.requires i k at.0 at.1)) c.row_place.ensures.found)
    c.row_place.ensures.absent
