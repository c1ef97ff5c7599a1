-- The needs of the operations that a plan has more than another.
use Rattle.std.proofs.Common.{◌≡◌, refl, sym, subst, ap, ◌∙◌, ℕ, List, [], ◌∷◌, ◌++◌, map, slice_get, Contains, Some, None}
use Rattle.std.proofs.lemmas.Option.{same_Some}
use Rattle.std.specs.FinMap.{entries, get}
use Rattle.std.specs.List.{flat_map}
use Rattle.std.specs.List.Sorted.{IsStrictlySortedBy}
use Rattle.std.specs.Map.{keys_of}
use Rattle.plan_basics.proofs.Members.{at_place, contains_head, contains_later, contains_mapped, mapped_contains}
use Rattle.plan_basics.specs.Keys.{Name, name_cmp-IsAntisymmetric, name_cmp_total, operation_cmp, operation_cmp-IsAntisymmetric, operation_cmp_total}
use Rattle.plan_basics.specs.declared.keys.OpKey.{OpKey}
use Rattle.plan_records.specs.plan_drafts.proofs.EntryRows.{entry_of}
use Rattle.plan_records.specs.plan_drafts.specs.PlanItems.{need_cmp, need_key}
use Rattle.derived_figures.specs.plan_status.proofs.RowKeys.{key_of_row}
use Rattle.plan_model.proofs.Entries.{entries_in_order, keys_of-entries}
use Rattle.plan_model.specs.Contents.{Contents, Has, Operation}
use Rattle.plan_rows.proofs.BothKeys.{from_one, in_all}
use Rattle.plan_rows.proofs.KeptRows.{kept_has, kept_is}
use Rattle.plan_rows.proofs.WithinRows.{needs_ascend}
use Rattle.plan_rows.specs.Kept.{AreNewNeeds, AreNewPlaces}
use Rattle.plan_rows.specs.Rows.{all_needs, needs_listed, needs_within, under_both, with_operation}
use Rattle.row_differences.proofs.Joined.{map_joined}
use Rattle.row_differences.proofs.Picked.{made_at, picked_at, picked_from, picks_ascend}
use Rattle.row_differences.specs.Changes.{AreAt}
use Rattle.special_resources.specs.Holders.{Usage}
use Rattle.special_resources.specs.Holdings.{usage_of}
use Rattle.special_resources.specs.Needs.{need_of}
use Rattle.special_resources.specs.declared.Need.{Need}

-- ---- the needs of some operations

-- those of all are those of each
pub needs_of_each : (zs : List (OpKey × Operation)) → flat_map needs_listed zs ≡ map with_operation (all_needs zs)
needs_of_each [] = refl
needs_of_each (z ∷ zs) = ap (λ ns. needs_listed z ++ ns) (needs_of_each zs) ∙ sym (map_joined with_operation (under_both needs_within z) (all_needs zs))

-- each stands under its resource's name
need_named : (zs : List (OpKey × Operation)) (y : (OpKey × Name) × Need) → Contains (all_needs zs) y → y.1.name ≡ y.0.1
need_named zs y has =
    let h = from_one needs_within zs y has in
    let x = mapped_contains (λ (x : Name × Usage). (x.0, need_of x)) (entries h.0.1.needs) h.2 h.3 in
    let is : ((h.0.0, x.0.0), need_of x.0) ≡ y = ap (λ (w : Name × Need). ((h.0.0, w.0), w.1)) x.1 ∙ h.4 in
    subst (λ (z : (OpKey × Name) × Need). z.1.name ≡ z.0.1) is refl

keyed : (ys : List ((OpKey × Name) × Need)) → ((y : (OpKey × Name) × Need) → Contains ys y → y.1.name ≡ y.0.1) → map need_key (map with_operation ys) ≡ keys_of ys
keyed [] named = refl
keyed (y ∷ ys) named =
    let first = named y (contains_head y ys) in
    let rest = keyed ys (λ z has. named z (contains_later y ys z has)) in
    λ i. (y.0.0, first i) ∷ rest i

-- ---- those of the operations that are new

module _ (P Q : Contents) (places : List ℕ) (new : AreNewPlaces P Q places) (found : List (OpKey × Operation)) (at : AreAt (entries Q.operations) places found) where
  -- what is found is an operation of Q that P hasn't
  found_new : (z : OpKey × Operation) → Contains found z → Contains (entries Q.operations) z × (get P.operations z.0 ≡ None)
  found_new z has =
      let (j, in_places, row_at) = picked_from (entries Q.operations) places found z at has in
      let is = (new.all j).0 in_places in
      let key : slice_get (keys_of (entries Q.operations)) j ≡ Some z.0 = key_of_row (entries Q.operations) j z.0 z.1 row_at in
      let same : is.0 ≡ z.0 = same_Some is.0 z.0 (sym (subst (λ ks. slice_get ks j ≡ Some is.0) (keys_of-entries operation_cmp Q.operations) is.1) ∙ key) in
      (at_place (entries Q.operations) j z row_at, subst (λ (o : OpKey). get P.operations o ≡ None) same is.2)

  -- and all of these are found
  new_found : (o : OpKey) (op : Operation) → get Q.operations o ≡ Some op → get P.operations o ≡ None → Contains found (o, op)
  new_found o op is none =
      let (j, row_at) = entry_of operation_cmp_total operation_cmp-IsAntisymmetric Q.operations o op is in
      let key = subst (λ ks. slice_get ks j ≡ Some o) (sym (keys_of-entries operation_cmp Q.operations)) (key_of_row (entries Q.operations) j o op row_at) in
      picked_at (entries Q.operations) places found j (o, op) at ((new.all j).1 (o, key, none)) row_at

  -- it is a need of an operation of Q that P hasn't
  abbrev IsNewNeed : OpKey × Need → Type 0
  IsNewNeed x = (get P.operations x.0 ≡ None) × Has Q x.0 (λ op. get op.needs x.1.name ≡ Some (usage_of x.1))

  told : (x : OpKey × Need) → Contains (map with_operation (all_needs found)) x → IsNewNeed x
  told x has =
      let y = mapped_contains with_operation (all_needs found) x has in
      let h = from_one needs_within found y.0 y.2 in
      let entry = mapped_contains (λ (e : Name × Usage). (e.0, need_of e)) (entries h.0.1.needs) h.2 h.3 in
      let z = found_new h.0 h.1 in
      let same : ◌≡◌ {A = OpKey × Need} (h.0.0, need_of entry.0) x = ap (λ (w : Name × Need). (h.0.0, w.1)) entry.1 ∙ ap with_operation h.4 ∙ y.1 in
      subst IsNewNeed same (
        z.1,
        (h.0.1, kept_is operation_cmp_total operation_cmp-IsAntisymmetric Q.operations h.0 z.0, kept_is name_cmp_total name_cmp-IsAntisymmetric h.0.1.needs entry.0 entry.2),
      )

  there : (x : OpKey × Need) → IsNewNeed x → Contains (map with_operation (all_needs found)) x
  there x (none, (op, is, has)) =
      contains_mapped with_operation (all_needs found) ((x.0, x.1.name), x.1)
      (in_all needs_within found (x.0, op) (x.1.name, x.1) (new_found x.0 op is none)
      (contains_mapped (λ (e : Name × Usage). (e.0, need_of e)) (entries op.needs) (x.1.name, usage_of x.1) (kept_has name_cmp_total name_cmp-IsAntisymmetric op.needs x.1.name (usage_of x.1) has)))

  pub are_new_needs : AreNewNeeds P Q (flat_map needs_listed found)
  are_new_needs = subst (AreNewNeeds P Q) (sym (needs_of_each found)) (record {
    ascend =
        let up = picks_ascend operation_cmp (keys_of (entries Q.operations)) (entries_in_order operation_cmp Q.operations) places (keys_of found) new.ascend (made_at (λ (z : OpKey × Operation). z.0) (entries Q.operations) places found at) in
        subst (IsStrictlySortedBy need_cmp) (sym (keyed (all_needs found) (need_named found))) (needs_ascend found up (all_needs found) refl);
    all = λ o n. (told (o, n), there (o, n));
  })
