-- What records denote that are those of an extension, or of an addition, from what each of them says.
use Rattle.std.proofs.Common.{◌≡◌, sym, ap, subst, ◌∙◌, List, length}
use Rattle.std.specs.List.{AllZip}
use Rattle.std.specs.List.Sorted.{IsStrictlySortedBy}
use Rattle.std.specs.Map.{keys_of}
use Rattle.std.specs.FinMap.{from_entries, len, len-entries}
use Rattle.plan_basics.specs.Keys.{occurrence_cmp, occurrence_cmp_total}
use Rattle.plan_model.proofs.Entries.{rows_in_order}
use Rattle.plan_model.specs.Contents.{AddedParts}
use Rattle.plan_items.specs.declared.Item.{Item}
use Rattle.plan_items.specs.Items.{Fields, Says}
use Rattle.plan_drafts.specs.declared.contents.ExtensionParts.{ExtensionParts}
use Rattle.plan_drafts.specs.Contents.{added_of}
use Rattle.plan_drafts.specs.ExtensionItems.{ComeInTogether, AreExtensionOf}
use Rattle.plan_drafts.specs.Records.{StandsInAdded, IsItemOf, AreItems, DenotesAddition, DenotesExtension}
use Rattle.plan_denotation.proofs.Denoting.{same_items, items_legal}
use Rattle.plan_denotation.proofs.MadeExtensions as made_of
use Rattle.plan_denotation.proofs.NeededExtensions.{needed_extension}
use Rattle.plan_denotation.proofs.Unique.{as_extension, one_extension}

-- as many occurrences as rows
pub occurrences_added : (n : ExtensionParts) → IsStrictlySortedBy occurrence_cmp (keys_of n.occurrences.items) → len (added_of n).occurrences ≡ length n.occurrences.items
occurrences_added n sorted = len-entries (from_entries {R = occurrence_cmp} n.occurrences.items) ∙ ap length (rows_in_order occurrence_cmp_total n.occurrences.items sorted)

module _ (records : List Fields) (items : List Item) (said : AllZip Says records items) where
  pub extension_denoted : (n : ExtensionParts) → AreExtensionOf items n → DenotesExtension records (added_of n)
  extension_denoted n made =
      let legal = items_legal records items said in
      record { extension = made_of.is_extension items n legal made; described = record { items = items; said = said; are = made_of.come_as_items items n legal made } }

  pub no_extension_denoted : ¬ ComeInTogether items → (s : AddedParts) → ¬ DenotesExtension records s
  no_extension_denoted none s d =
      let same = same_items records d.described.items items d.described.said said in
      none (needed_extension s d.extension items (subst (AreItems (StandsInAdded s) (IsItemOf s)) same d.described.are))

  -- of one occurrence it is an addition, and of another number it is none
  pub addition_denoted : (n : ExtensionParts) → AreExtensionOf items n → length n.occurrences.items ≡ 1 → DenotesAddition records (added_of n)
  addition_denoted n made one =
      let d = extension_denoted n made in
      record { addition = record { one = occurrences_added n made.occurrences_in_order ∙ one; extension = d.extension }; described = d.described }

  pub not_one_denoted : (n : ExtensionParts) → AreExtensionOf items n → ¬ (length n.occurrences.items ≡ 1) → (s : AddedParts) → ¬ DenotesAddition records s
  not_one_denoted n made several s d =
      let same : added_of n ≡ s = one_extension records (added_of n) s (extension_denoted n made) (as_extension records s d) in
      several (sym (occurrences_added n made.occurrences_in_order) ∙ ap (λ t. len t.occurrences) same ∙ d.addition.one)
