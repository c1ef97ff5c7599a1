-- The operations that a plan has more than another that it keeps.
use Rattle.std.proofs.Common.{◌≡◌, ◌≢◌, refl, sym, subst, ap, ◌∙◌, arith, ℕ, ◌+◌, ◌<◌, ◌≤◌, Bool, true, not, List, [], ◌∷◌, length, filter, slice_get, Contains, Option, Some, None, is_some, get_or}
use Rattle.std.proofs.lemmas.Cmp.{eq_by_cmp_equiv}
use Rattle.std.proofs.lemmas.List.Elements.{Contains-get_or}
use Rattle.std.proofs.lemmas.List.Filters.{length-filter_both}
use Rattle.std.proofs.lemmas.Map.Keys.{IsDistinct-from_sorted}
use Rattle.std.proofs.lemmas.Map.Made.{length-le_from_is_member}
use Rattle.std.proofs.lemmas.Option.{none-some, same_Some, slice_get_within}
use Rattle.std.specs.Bool.{⊤}
use Rattle.std.specs.FinMap.{contains_key, entries, get, keys}
use Rattle.std.specs.List.Sorted.{IsStrictlySortedBy}
use Rattle.std.specs.Map.{keys_of}
use Rattle.plan_basics.proofs.Members.{at_place, contains_head, contains_later, place_of}
use Rattle.plan_basics.specs.Keys.{operation_cmp, operation_cmp-IsAntisymmetric, operation_cmp_total}
use Rattle.plan_basics.specs.declared.keys.OpKey.{OpKey}
use Rattle.plan_records.specs.plan_drafts.proofs.EntryRows.{entry_of, row_in}
use Rattle.plan_records.specs.plan_drafts.proofs.Lists.{length_map}
use Rattle.plan_records.specs.plan_drafts.proofs.RowPlaces.{row_at}
use Rattle.derived_figures.specs.plan_status.proofs.RowKeys.{key_of_row, row_of_key}
use Rattle.plan_model.specs.ready_list.proofs.Members.{contains_filter}
use Rattle.plan_model.proofs.Entries.{entries_in_order, keys_of-entries}
use Rattle.plan_model.proofs.Members.{if_member, in_keys, member_if}
use Rattle.plan_model.specs.Contents.{Contents, Operation, nothing}
use Rattle.plan_rows.proofs.NoRows.{none_kept}
use Rattle.plan_rows.specs.Kept.{AreNewPlaces, IsNewAt, KeepsRecords}
use Rattle.plan_rows.specs.Sources.{contents_if_any, source_if_any}
use Rattle.plan_rows.specs.declared.row_sources.TableSource.{TableSource}
use Rattle.row_differences.proofs.Picked.{picked_from, picks_ascend}
use Rattle.row_differences.specs.Changes.{AreAt}
use Rattle.row_differences.specs.Differences.{AreDifferences}

-- ---- the keys of a plan

pub keys_ascend : (P : Contents) → IsStrictlySortedBy operation_cmp (keys P.operations)
keys_ascend P = subst (IsStrictlySortedBy operation_cmp) (sym (keys_of-entries operation_cmp P.operations)) (entries_in_order operation_cmp P.operations)

pub key_count : (P : Contents) → length (keys P.operations) ≡ length (entries P.operations)
key_count P = ap length (keys_of-entries operation_cmp P.operations) ∙ length_map (λ (e : OpKey × Operation). e.0) (entries P.operations)

-- nothing has none
pub no_keys : keys nothing.operations ≡ []
no_keys = keys_of-entries operation_cmp nothing.operations ∙ ap keys_of (sym (none_kept operation_cmp_total))

-- where there is one, a plan is loaded
pub some_key : (s : Option TableSource) (i : ℕ) → i < length (keys (contents_if_any (source_if_any s)).operations) → is_some s ≡ true
some_key None i lt = absurd (omega (arith, lt, ap length no_keys))
some_key (Some t) i lt = refl

-- the operation of the key at an index
at_key : (P : Contents) (i : ℕ) (o : OpKey) → slice_get (keys P.operations) i ≡ Some o → (op : Operation) × (get P.operations o ≡ Some op)
at_key P i o at =
    let (op, row) = row_of_key (entries P.operations) i o (subst (λ ks. slice_get ks i ≡ Some o) (keys_of-entries operation_cmp P.operations) at) in
    (op, row_in operation_cmp_total operation_cmp-IsAntisymmetric P.operations i o op row)

-- the index of the key of an operation
key_at : (P : Contents) (o : OpKey) (op : Operation) → get P.operations o ≡ Some op → (i : ℕ) × (slice_get (keys P.operations) i ≡ Some o)
key_at P o op is =
    let (i, row) = entry_of operation_cmp_total operation_cmp-IsAntisymmetric P.operations o op is in
    (i, subst (λ ks. slice_get ks i ≡ Some o) (sym (keys_of-entries operation_cmp P.operations)) (key_of_row (entries P.operations) i o op row))

-- a plan that keeps all that another has has no fewer
pub kept_few : (P Q : Contents) → KeepsRecords P Q → length (entries P.operations) ≤ length (entries Q.operations)
kept_few P Q keeps =
    let fit = length-le_from_is_member (eq_by_cmp_equiv operation_cmp_total) (keys P.operations) (keys Q.operations) (IsDistinct-from_sorted operation_cmp (keys P.operations) (keys_ascend P))
    (λ o h.
    let (i, at) = place_of (keys P.operations) o (member_if operation_cmp-IsAntisymmetric (keys P.operations) o h) in
    let (op, is) = at_key P i o at in
    if_member operation_cmp_total (keys Q.operations) o (in_keys operation_cmp-IsAntisymmetric Q.operations o _ (keeps o op is).1))
    in
    omega (arith, fit, key_count P, key_count Q)

-- ---- those that are new

module _ (P Q : Contents) (changed gone : List ℕ) (d : AreDifferences (keys P.operations) (keys Q.operations) (λ i j. ⊤) changed gone) where
  none_at : (o : OpKey) (found : Option Operation) → get P.operations o ≡ found → ((i : ℕ) → slice_get (keys P.operations) i ≢ Some o) → get P.operations o ≡ None
  none_at o None is away = is
  none_at o (Some op) is away = let (i, at) = key_at P o op is in absurd (away i at)

  pub are_new : AreNewPlaces P Q changed
  are_new = record {
    ascend = d.changed_ascend;
    all = λ j. (
      λ has.
          let (lt, none) = (d.has_changed j).0 has in
          let (o, at) = row_at (keys Q.operations) j lt in
          (o, at, none_at o (get P.operations o) refl (λ i is. none i (o, is, at) tt)),
      λ new. (d.has_changed j).1 (
        slice_get_within (keys Q.operations) j new.0 new.1,
        λ i one alike.
            let same : one.0 ≡ new.0 = same_Some one.0 new.0 (sym one.2 ∙ new.1) in
            let (op, is) = at_key P i one.0 one.1 in
            none-some op (sym new.2 ∙ subst (λ (o : OpKey). get P.operations o ≡ Some op) same is),
      ),
    );
  }

-- an operation stands at each of them
pub placed : (P Q : Contents) (places : List ℕ) → AreNewPlaces P Q places → (k : ℕ) → k < length places
    → (z : OpKey × Operation) × (slice_get (entries Q.operations) (get_or places k 0) ≡ Some z) × (get_or places k 0 < length (entries Q.operations))
placed P Q places new k lt =
    let j = get_or places k 0 in
    let (o, at, none) = (new.all j).0 (Contains-get_or places k 0 lt) in
    let (op, row) = row_of_key (entries Q.operations) j o (subst (λ ks. slice_get ks j ≡ Some o) (keys_of-entries operation_cmp Q.operations) at) in
    ((o, op), row, slice_get_within (entries Q.operations) j (o, op) row)

-- ---- how many they are

-- the keys at the places
picked : (P Q : Contents) (places : List ℕ) → ((j : ℕ) → Contains places j → IsNewAt P Q j) → (ks : List OpKey) × AreAt (keys Q.operations) places ks
picked P Q [] new = ([], refl)
picked P Q (j ∷ places) new =
    let first = new j (contains_head j places) in
    let (ks, rest) = picked P Q places (λ i has. new i (contains_later j places i has)) in
    (first.0 ∷ ks, λ t. first.1 t ∷ rest t)

picked_length : {X : Type 0} (xs : List X) (places : List ℕ) (ys : List X) → AreAt xs places ys → length ys ≡ length places
picked_length {X} xs places ys at = sym (length_map (λ (y : X). Some y) ys) ∙ ap length (sym at) ∙ length_map (slice_get xs) places

module _ (P Q : Contents) (keeps : KeepsRecords P Q) (places : List ℕ) (new : AreNewPlaces P Q places) where
  abbrev known : OpKey → Bool
  known o = contains_key P.operations o

  abbrev unknown : OpKey → Bool
  unknown o = not (contains_key P.operations o)

  abbrev all : List OpKey
  all = keys Q.operations

  -- all that P has are among them
  old_fit : length (keys P.operations) ≤ length (filter known all)
  old_fit =
      length-le_from_is_member (eq_by_cmp_equiv operation_cmp_total) (keys P.operations) (filter known all) (IsDistinct-from_sorted operation_cmp (keys P.operations) (keys_ascend P))
      (λ o h.
      let (i, at) = place_of (keys P.operations) o (member_if operation_cmp-IsAntisymmetric (keys P.operations) o h) in
      let (op, is) = at_key P i o at in
      if_member operation_cmp_total (filter known all) o (contains_filter known all o (ap is_some is) (in_keys operation_cmp-IsAntisymmetric Q.operations o _ (keeps o op is).1)))

  -- and so are all that are new
  new_fit : length places ≤ length (filter unknown all)
  new_fit =
      let (ks, at) = picked P Q places (λ j has. (new.all j).0 has) in
      let fit = length-le_from_is_member (eq_by_cmp_equiv operation_cmp_total) ks (filter unknown all) (IsDistinct-from_sorted operation_cmp ks (picks_ascend operation_cmp all (keys_ascend Q) places ks new.ascend at))
      (λ o h.
      let (j, has, there) = picked_from all places ks o at (member_if operation_cmp-IsAntisymmetric ks o h) in
      let is = (new.all j).0 has in
      let same : is.0 ≡ o = same_Some is.0 o (sym is.1 ∙ there) in
      if_member operation_cmp_total (filter unknown all) o (contains_filter unknown all o (ap (λ f. not (is_some f)) (subst (λ (q : OpKey). get P.operations q ≡ None) same is.2)) (at_place all j o there)))
      in
      omega (arith, fit, picked_length all places ks at)

  -- so there are as many more operations
  pub new_few : length places + length (entries P.operations) ≤ length (entries Q.operations)
  new_few = omega (arith, old_fit, new_fit, length-filter_both known unknown (λ _. refl) all, key_count P, key_count Q)
