-- The faults that are told of the records of what is added are its faults, and there is none exactly where they denote an addition, or an extension.
use Rattle.std.proofs.Common.{◌≡◌, ◌≢◌, ◌↔◌, inl, inr, refl, sym, ap, subst, ◌∙◌, arith, ℕ, suc, ◌^◌, ◌<◌, ◌≤◌, List, [], ◌∷◌, length, map, get_or, slice_get, Contains, Option, Some, None}
use denote.RawPtr.{null_ptr}
use Rattle.std.specs.List.{AllZip, cons_option, filter_map}
use Rattle.std.specs.List.Sorted.{IsPermutation, IsStrictlySortedBy}
use Rattle.std.specs.Map.{keys_of}
use Rattle.std.specs.Prelude.{Vec}
use Rattle.std.specs.declared.alloc.Global.{Global}
use Rattle.std.proofs.lemmas.Bool.{cases_eq}
use Rattle.std.proofs.lemmas.Option.{slice_get-get_or, slice_get_within}
use Rattle.std.proofs.lemmas.List.Sorted.{Contains-permutation, IsPermutation-sym, length_permutation}
use Rattle.plan_basics.proofs.Members.{contains_none}
use Rattle.plan_basics.specs.Keys.{occurrence_cmp, occurrence_cmp_total, occurrence_cmp-IsAntisymmetric, operation_cmp_total, operation_cmp-IsAntisymmetric}
use Rattle.plan_basics.specs.declared.keys.OccKey.{OccKey}
use Rattle.plan_basics.specs.declared.keys.OpKey.{OpKey}
use Rattle.plan_items.specs.declared.Item.{Item}
use Rattle.plan_items.specs.declared.OperationItem.{OperationItem}
use Rattle.plan_items.specs.Items.{Fields, Says}
use Rattle.plan_drafts.specs.plan_model.specs.Contents.{AddedParts, Operation, pair_cmp}
use Rattle.plan_drafts.specs.plan_model.specs.declared.Occurrence.{Occurrence}
use Rattle.plan_drafts.specs.declared.contents.ExtensionParts.{ExtensionParts}
use Rattle.plan_drafts.specs.Contents.{added_of}
use Rattle.plan_drafts.specs.PlanItems.{as_occurrence, as_operation, as_pair, row_of}
use Rattle.plan_drafts.specs.ExtensionItems.{ComeInTogether, AreExtensionOf}
use Rattle.plan_drafts.specs.Records.{DenotesExtension}
use Rattle.plan_drafts.proofs.Lists.{differ_from_pairs, differ_map, length_map, no_members}
use Rattle.plan_drafts.proofs.Pairs.{pair_cmp_total, pair_cmp-IsAntisymmetric}
use Rattle.record_faults.specs.plan_denotation.proofs.ItemKinds.{occurrences_in, operations_in, needs_in, pairs_in}
use Rattle.record_faults.specs.plan_denotation.proofs.DenotingExtensions.{addition_denoted, extension_denoted, not_one_denoted}
use Rattle.record_faults.specs.plan_denotation.proofs.NeededExtensions.{needed_extension}
use Rattle.record_faults.specs.plan_denotation.proofs.Unique.{as_extension}
use Rattle.record_faults.specs.declared.faults.Fault.TheVariants as fault
use Rattle.record_faults.specs.Sayings.{Sayings, SaysOrNot, AreSayings}
use Rattle.record_faults.proofs.Denoted.{all_said, said_all}
use Rattle.record_faults.proofs.Loading.{map_same}
use Rattle.record_faults.proofs.Sorting.{in_order}
use Rattle.record_faults.proofs.Telling.{zip_at, zip_length}
use Rattle.record_faults.proofs.Whole.{some_shape}
use Rattle.text_faults.specs.declared.additions.faults.AddedText.{AddedText}
use Rattle.text_faults.specs.declared.additions.faults.AddedText.TheVariants as text
use Rattle.text_faults.specs.declared.additions.faults.AddedFault.{AddedFault}
use Rattle.text_faults.specs.declared.additions.faults.AddedFault.TheVariants as of_added
use Rattle.text_faults.specs.declared.additions.faults.PlacedFault.{PlacedFault}
use Rattle.text_faults.specs.AddedFaults.{IsFaultHere, IsFaultOfAdded, DenotesAs, DenoteSomeAdded}
use Rattle.text_faults.proofs.Here.{fault_here}
use Rattle.text_faults.proofs.Faultless.{faultless}
use Rattle.text_faults.proofs.Coming.{come, one_occurrence}

-- ---- items that come in together are those of an extension, and of one occurrence those of an addition
length_filtered : {X Y : Type 0} (f : X → Option Y) (xs : List X) → length (filter_map f xs) ≤ length xs
length_filtered {Y = Y} f [] = omega arith
length_filtered {Y = Y} f (x ∷ xs) = step (f x) (length_filtered f xs)
  where
    step : (o : Option Y) → length (filter_map f xs) ≤ length xs → length (cons_option o (filter_map f xs)) ≤ suc (length xs)
    step None le = omega (arith, le)
    step (Some y) le = omega (arith, le)

module _ (heap : Global) where
  -- these elements, one after the other
  abbrev vector : {X : Type 0} (xs : List X) → length xs < 2 ^ 63 → Vec X Global
  vector xs small = record { ptr = null_ptr; len = length xs; cap = length xs; alloc = heap; items = xs; ok = (refl, omega arith); small = small }

  module _ (records : List Fields) (items : List Item) (said : AllZip Says records items) (small : length items < 2 ^ 63) where
    module _ (is : ComeInTogether items) where
      ordered : (rows : List (OccKey × Occurrence)) × IsPermutation (occurrences_in items) rows × IsStrictlySortedBy occurrence_cmp (keys_of rows)
      ordered = in_order occurrence_cmp_total occurrence_cmp-IsAntisymmetric (λ (r : OccKey × Occurrence). r.0) (occurrences_in items) (differ_from_pairs (λ (a b : OccKey × Occurrence). a.0 ≢ b.0) (occurrences_in items) is.occurrences)

      as_many : length ordered.0 ≡ length (occurrences_in items)
      as_many = let same = length_permutation (occurrences_in items) ordered.0 ordered.1 in omega (arith, same)

      made : (n : ExtensionParts) × AreExtensionOf items n × (length n.occurrences.items ≡ length (occurrences_in items))
      made =
          let row = row_of ordered.0 (needs_in items) in
          let said_rows = map row (operations_in items) in
          let operations = in_order operation_cmp_total operation_cmp-IsAntisymmetric (λ (r : OpKey × Operation). r.0) said_rows (differ_map row (λ (a b : OpKey × Operation). a.0 ≢ b.0) (operations_in items) (differ_from_pairs (λ (a b : OperationItem). a.key ≢ b.key) (operations_in items) is.operations.distinct)) in
          let pairs = in_order pair_cmp_total pair_cmp-IsAntisymmetric (λ (p : OpKey × OpKey). p) (pairs_in items) (differ_from_pairs (λ (a b : OpKey × OpKey). a ≢ b) (pairs_in items) is.pairs.distinct) in
          let few_occurrences : length ordered.0 < 2 ^ 63 = omega (arith, small, as_many, length_filtered as_occurrence items) in
          let few : length operations.0 < 2 ^ 63 = omega (arith, small, length_permutation said_rows operations.0 operations.1, length_map row (operations_in items), length_filtered as_operation items) in
          let few_pairs : length pairs.0 < 2 ^ 63 = omega (arith, small, length_permutation (pairs_in items) pairs.0 pairs.1, length_filtered as_pair items) in
          let n : ExtensionParts = record { occurrences = vector ordered.0 few_occurrences; operations = vector operations.0 few; pairs = vector pairs.0 few_pairs } in (
            n,
            record {
              come_in = is;
              occurrences = ordered.1;
              operations = operations.1;
              pairs = pairs.1;
              occurrences_in_order = ordered.2;
              operations_in_order = operations.2;
              pairs_in_order = subst (λ ps. IsStrictlySortedBy pair_cmp ps) (map_same pairs.0) pairs.2;
            },
            as_many,
          )

    denoted : (added : AddedText) → ComeInTogether items → (added ≡ text.Addition → length (occurrences_in items) ≡ 1) → DenoteSomeAdded added records
    denoted text.Addition is one = let n = made is in (added_of n.0, addition_denoted records items said n.0 n.1 (n.2 ∙ one refl))
    denoted text.Extension is one = let n = made is in (added_of n.0, extension_denoted records items said n.0 n.1)

    -- and an addition has one
    one_needed : (s : AddedParts) → DenotesAs text.Addition records s → ComeInTogether items → length (occurrences_in items) ≡ 1
    one_needed s d is =
        let n = made is in
        elim (cases_eq (length n.0.occurrences.items) 1) [
          | inl one ↦ sym n.2 ∙ one
          | inr several ↦ absurd (not_one_denoted records items said n.0 n.1 several s d)
        ]

-- ---- what is denoted is an extension
as_one : (added : AddedText) (records : List Fields) (s : AddedParts) → DenotesAs added records s → DenotesExtension records s
as_one text.Addition records s d = as_extension records s d
as_one text.Extension records s d = d

-- ---- all records say something
each_says : (said : Sayings) → ((place : ℕ) → slice_get said place ≢ Some None) → (items : List Item) × (said ≡ map Some items)
each_says [] some = ([], refl)
each_says (None ∷ said) some = absurd (some 0 refl)
each_says (Some x ∷ said) some = let rest = each_says said (λ place e. some (suc place) e) in (x ∷ rest.0, ap (λ zs. Some x ∷ zs) rest.1)

module _ (heap : Global) (added : AddedText) (records : List Fields) (said : Sayings) (are : AreSayings records said) (small : length said < 2 ^ 63) where
  -- without a fault they denote something
  module _ (none : (place : ℕ) (k : AddedFault) → ¬ IsFaultHere added records said place k) where
    never_silent : (place : ℕ) → slice_get said place ≢ Some None
    never_silent place e =
        let within = slice_get_within said place None e in
        let at = slice_get-get_or records place [] (omega (arith, within, zip_length SaysOrNot records said are)) in
        let fields = get_or records place [] in
        some_shape fields (zip_at SaysOrNot records said place fields None are at e) (λ s h. none place (of_added.OfRecord (fault.Shape s)) (inl (inl (fields, at, e, h)), tt))

    some_added : DenoteSomeAdded added records
    some_added =
        let all = each_says said never_silent in
        let says = said_all records all.0 (subst (AreSayings records) all.1 are) in
        let size : length said ≡ length all.0 = ap length all.1 ∙ length_map (λ (x : Item). Some x) all.0 in
        let faultless_here : (place : ℕ) (k : AddedFault) → ¬ IsFaultHere added records (map Some all.0) place k = λ place k. subst (λ z. ¬ IsFaultHere added records z place k) all.1 (none place k) in
        denoted heap records all.0 says (omega (arith, small, size)) added (come added records all.0 faultless_here) (one_occurrence added records all.0 faultless_here)

  -- the items of what is denoted are so many as there may be
  few_items : (items : List Item) → said ≡ map Some items → length items < 2 ^ 63
  few_items items all =
      let size : length said ≡ length items = ap length all ∙ length_map (λ (x : Item). Some x) items in
      omega (arith, small, size)

  one_there : (kind : AddedText) (s : AddedParts) (items : List Item) → AllZip Says records items → said ≡ map Some items → ComeInTogether items → DenotesAs kind records s → kind ≡ text.Addition → length (occurrences_in items) ≡ 1
  one_there text.Addition s items says all is d same = one_needed heap records items says (few_items items all) s d is
  one_there text.Extension s items says all is d same = absurd (cc same)

  -- and where they denote something, there is none
  no_fault : DenoteSomeAdded added records → (place : ℕ) (k : AddedFault) → ¬ IsFaultHere added records said place k
  no_fault (s, d) place k =
      let e = as_one added records s d in
      let items = e.described.items in
      let all = all_said records said items are e.described.said in
      let is = needed_extension s e.extension items e.described.are in
      subst (λ z. ¬ IsFaultHere added records z place k) (sym all) (faultless added items is (one_there added s items e.described.said all is d) e.described.are.distinct records place k)

  module _ (faults sorted : List PlacedFault) (same : IsPermutation faults sorted) (told : (f : PlacedFault) → Contains faults f ↔ IsFaultHere added records said f.place f.fault) where
    sorted_here : (f : PlacedFault) → Contains sorted f ↔ IsFaultHere added records said f.place f.fault
    sorted_here f = (
      λ has. (told f).0 (Contains-permutation sorted faults f (IsPermutation-sym faults sorted same) has),
      λ h. Contains-permutation faults sorted f same ((told f).1 h),
    )

    pub exactly : (f : PlacedFault) → Contains sorted f ↔ IsFaultOfAdded added records f.place f.fault
    exactly f =
        let here = fault_here added records said are f.place f.fault in
        (λ has. here.1 ((sorted_here f).0 has), λ h. (sorted_here f).1 (here.0 h))

    pub none_told : (sorted ≡ []) ↔ DenoteSomeAdded added records
    none_told = (
      λ empty. some_added (λ place k h.
          let one : PlacedFault = record { place = place; fault = k } in
          contains_none one (subst (λ xs. Contains xs one) empty ((sorted_here one).1 h))),
      λ some. no_members sorted (λ f has. no_fault some f.place f.fault ((sorted_here f).0 has)),
    )
