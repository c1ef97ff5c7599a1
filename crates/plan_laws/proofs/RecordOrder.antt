-- What records say, and so what they denote, in another order.
use Rattle.std.proofs.Common.{◌≢◌, refl, arith, ℕ, zero, suc, ◌<◌, List, [], ◌∷◌, length, get_or, set}
use Rattle.std.specs.List.{AllZip, swap}
use Rattle.std.specs.List.Sorted.{IsPermutation}
use Rattle.std.proofs.lemmas.List.Sorted.{All-permutation, Contains-permutation, IsPermutation-keeps, IsPermutation-refl, IsPermutation-swap, IsPermutation-sym, IsPermutation-trans}
use Rattle.std.proofs.lemmas.Slice.Zip.{AllZip-long}
use Rattle.plan_records.specs.plan_model.specs.Contents.{Contents, AddedParts}
use Rattle.plan_records.specs.plan_items.specs.declared.Item.{Item}
use Rattle.plan_records.specs.plan_items.specs.Items.{Fields, Says}
use Rattle.plan_records.specs.plan_drafts.specs.declared.RowKey.{RowKey}
use Rattle.plan_records.specs.plan_drafts.specs.Records.{AreDescriptions, AreItems, Denotes, DenotesAddition, DenotesExtension, key_of}
use Rattle.plan_records.specs.plan_drafts.proofs.Lists.{differ_from_pairs, pairs_from_differ}
use Rattle.plan_records.specs.plan_drafts.proofs.Orders.{differ_permuted}
use Rattle.plan_laws.specs.Denoting.{OrderDoesNotMatter, OrderDoesNotMatterToAdditions, OrderDoesNotMatterToExtensions}
use Rattle.plan_records.specs.plan_drafts.specs.RowKeys.{row_cmp_total, row_cmp-IsAntisymmetric}

-- ---- two lists, index by index
module _ {A B : Type 0} (R : A → B → Type 0) where
  zip_at : (xs : List A) (ys : List B) (i : ℕ) (d : A) (e : B) → i < length xs → AllZip R xs ys → R (get_or xs i d) (get_or ys i e)
  zip_at [] ys i d e lt h = absurd (omega arith)
  zip_at (x ∷ xs) [] i d e lt h = absurd h
  zip_at (x ∷ xs) (y ∷ ys) zero d e lt h = h.0
  zip_at (x ∷ xs) (y ∷ ys) (suc i) d e lt h = zip_at xs ys i d e (omega arith) h.1

  zip_set : (xs : List A) (ys : List B) (i : ℕ) (a : A) (b : B) → R a b → AllZip R xs ys → AllZip R (set xs i a) (set ys i b)
  zip_set [] [] i a b one h = tt
  zip_set [] (y ∷ ys) i a b one h = absurd h
  zip_set (x ∷ xs) [] i a b one h = absurd h
  zip_set (x ∷ xs) (y ∷ ys) zero a b one h = (one, h.1)
  zip_set (x ∷ xs) (y ∷ ys) (suc i) a b one h = (h.0, zip_set xs ys i a b one h.1)

  zip_swap : (xs : List A) (ys : List B) (i j : ℕ) → i < length xs → j < length xs → AllZip R xs ys → AllZip R (swap xs i j) (swap ys i j)
  zip_swap [] ys i j lt in_list h = absurd (omega arith)
  zip_swap (x ∷ xs) [] i j lt in_list h = absurd h
  zip_swap (x ∷ xs) (y ∷ ys) i j lt in_list h =
      zip_set (set (x ∷ xs) i (get_or (x ∷ xs) j x)) (set (y ∷ ys) i (get_or (y ∷ ys) j y)) j (get_or (x ∷ xs) i x) (get_or (y ∷ ys) i y) (zip_at (x ∷ xs) (y ∷ ys) i x y lt h)
      (zip_set (x ∷ xs) (y ∷ ys) i (get_or (x ∷ xs) j x) (get_or (y ∷ ys) j y) (zip_at (x ∷ xs) (y ∷ ys) j x y in_list h) h)

  -- where the first ones change places, so can the second
  zip_moved : (xs others : List A) (ys : List B) → IsPermutation xs others → AllZip R xs ys → (zs : List B) × IsPermutation ys zs × AllZip R others zs
  zip_moved xs others ys moved h = IsPermutation-keeps xs (λ l. (zs : List B) × IsPermutation ys zs × AllZip R l zs) (ys, IsPermutation-refl ys, h) step others moved
    where
      step : (l : List A) (i j : ℕ) → i < length l → j < length l → (zs : List B) × IsPermutation ys zs × AllZip R l zs → (zs : List B) × IsPermutation ys zs × AllZip R (swap l i j) zs
      step l i j lt in_list (zs, so_far, zip) =
          let long = AllZip-long R l zs zip in
          (swap zs i j, IsPermutation-trans ys zs (swap zs i j) so_far (IsPermutation-swap zs (swap zs i j) i j (omega arith) (omega arith) refl), zip_swap l zs i j lt in_list zip)

-- ---- items in another order
module _ (stands : Item → Type 0) (is_item : RowKey → Type 0) where
  items_moved : (items others : List Item) → IsPermutation items others → AreItems stands is_item items → AreItems stands is_item others
  items_moved items others moved are = record {
    distinct = pairs_from_differ (λ a b. key_of a ≢ key_of b) others (differ_permuted row_cmp_total row_cmp-IsAntisymmetric key_of items others moved (differ_from_pairs (λ a b. key_of a ≢ key_of b) items are.distinct));
    stand = All-permutation stands items others moved are.stand;
    all = λ k is. let i = are.all k is in (i.0, Contains-permutation items others i.0 moved i.1, i.2);
  }

  described_moved : (records others : List Fields) → IsPermutation records others → AreDescriptions stands is_item records → AreDescriptions stands is_item others
  described_moved records others moved d =
      let m = zip_moved Says records others d.items moved d.said in
      record { items = m.0; said = m.2; are = items_moved d.items m.0 m.1 d.are }

-- ---- what they denote
denotes_moved : (records others : List Fields) (P : Contents) → IsPermutation records others → Denotes records P → Denotes others P
denotes_moved records others P moved d = record {
  draft = d.draft;
  some_workstation = d.some_workstation;
  some_occurrence = d.some_occurrence;
  described = described_moved _ _ records others moved d.described;
}

pub order_does_not_matter : OrderDoesNotMatter
order_does_not_matter records others P moved = (denotes_moved records others P moved, denotes_moved others records P (IsPermutation-sym records others moved))

addition_moved : (records others : List Fields) (s : AddedParts) → IsPermutation records others → DenotesAddition records s → DenotesAddition others s
addition_moved records others s moved d = record { addition = d.addition; described = described_moved _ _ records others moved d.described }

pub order_does_not_matter_to_additions : OrderDoesNotMatterToAdditions
order_does_not_matter_to_additions records others s moved = (addition_moved records others s moved, addition_moved others records s (IsPermutation-sym records others moved))

extension_moved : (records others : List Fields) (s : AddedParts) → IsPermutation records others → DenotesExtension records s → DenotesExtension others s
extension_moved records others s moved d = record { extension = d.extension; described = described_moved _ _ records others moved d.described }

pub order_does_not_matter_to_extensions : OrderDoesNotMatterToExtensions
order_does_not_matter_to_extensions records others s moved = (extension_moved records others s moved, extension_moved others records s (IsPermutation-sym records others moved))
