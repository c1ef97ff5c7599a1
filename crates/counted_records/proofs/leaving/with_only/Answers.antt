use Rattle.std.proofs.Common.{◌≡◌, ◌∙◌, sym, ap, subst, ◌&&◌, Bool, rules, List}
use Rattle.std.proofs.lemmas.Fn.{filter_same}
use Rattle.std.specs.FinMap.{entries, from_entries}
use Rattle.std.specs.FinSet as set
use Rattle.std.specs.List.{filter}
use Rattle.std.specs.List.Sorted.{IsStrictlySortedBy}
use Rattle.std.specs.Map.{keys_of}
use Rattle.std.proofs.lemmas.List.Kept.{IsStrictlySortedBy-filter}
use Rattle.plan_basics.specs.Keys.{name_cmp, name_cmp_total, name_cmp-IsAntisymmetric, occurrence_cmp, occurrence_cmp_total, occurrence_cmp-IsAntisymmetric, operation_cmp, operation_cmp_total, operation_cmp-IsAntisymmetric}
use Rattle.plan_basics.specs.declared.keys.OccKey.{OccKey}
use Rattle.plan_basics.specs.declared.keys.OpKey.{OpKey}
use Rattle.plan_status.specs.plan_laws.proofs.Pairs.{pair_cmp_total, pair_cmp-IsAntisymmetric}
use Rattle.plan_status.specs.plan_model.proofs.Entries.{entries_are}
use Rattle.plan_status.specs.plan_model.specs.Contents.{Operation, Pairs, pair_cmp}
use Rattle.plan_status.specs.plan_model.specs.declared.Occurrence.{Occurrence}
use Rattle.counted_records.proofs.LeftRows.{passed_are, passed_in_order, set_passed}
use Rattle.counted_records.proofs.leaving.with_only.Goals as goal
use Rattle.counted_records.proofs.leaving.with_only.Goals.{In_ok-resources}
use Rattle.counted_records.specs.Leaving.{is_one_of}

module _ (c : In_ok-resources) where
  abbrev stays : OccKey → Bool
  stays = is_one_of c.args.staying.now

  abbrev pair_stays : OpKey × OpKey → Bool
  pair_stays pair = stays pair.0.occurrence && stays pair.1.occurrence

  -- what is kept of each list
  occurrences : c.retain.new.self.items ≡ filter (λ (row : OccKey × Occurrence). stays row.0) (entries c.args.contents.now.occurrences)
  occurrences =
      filter_same _ (λ (row : OccKey × Occurrence). stays row.0) _ (λ x b f' k. search rules) _ _ c.retain.ensures.filtered
      ∙ ap (filter (λ (row : OccKey × Occurrence). stays row.0)) (c.in_ok-occurrences.ensures.items ∙ c.occurrences.ensures.rows)

  operations : c.retain-2.new.self.items ≡ filter (λ (row : OpKey × Operation). stays row.0.occurrence) (entries c.args.contents.now.operations)
  operations =
      filter_same _ (λ (row : OpKey × Operation). stays row.0.occurrence) _ (λ x b f' k. search rules) _ _ c.retain-2.ensures.filtered
      ∙ ap (filter (λ (row : OpKey × Operation). stays row.0.occurrence)) (c.in_ok-operations.ensures.items ∙ c.operations.ensures.rows)

  pairs : c.retain-3.new.self.items ≡ filter pair_stays c.in_ok-pairs.pairs.items
  pairs = filter_same _ pair_stays _ (λ x b f' k. search rules) _ _ c.retain-3.ensures.filtered

pub of_rows-requires-clause-occurrences : goal.of_rows-requires-clause-occurrences
of_rows-requires-clause-occurrences c =
    let at = (goal.at.of_rows-requires-clause-occurrences c).In_ok-resources in
    subst (λ (rows : List (OccKey × Occurrence)). IsStrictlySortedBy occurrence_cmp (keys_of rows)) (sym (occurrences at)) (passed_in_order occurrence_cmp_total occurrence_cmp-IsAntisymmetric c.args.contents.now.occurrences (stays at))

pub of_rows-requires-clause-operations : goal.of_rows-requires-clause-operations
of_rows-requires-clause-operations c =
    let at = (goal.at.of_rows-requires-clause-operations c).In_ok-resources in
    subst (λ (rows : List (OpKey × Operation)). IsStrictlySortedBy operation_cmp (keys_of rows)) (sym (operations at)) (passed_in_order operation_cmp_total operation_cmp-IsAntisymmetric c.args.contents.now.operations (λ o. stays at o.occurrence))

pub of_rows-requires-clause-pairs : goal.of_rows-requires-clause-pairs
of_rows-requires-clause-pairs c =
    let at = (goal.at.of_rows-requires-clause-pairs c).In_ok-resources in
    subst (IsStrictlySortedBy pair_cmp) (sym (pairs at)) (IsStrictlySortedBy-filter pair_cmp (pair_stays at) c.in_ok-pairs.pairs.items (subst (IsStrictlySortedBy pair_cmp) (sym c.in_ok-pairs.ensures.items) c.pairs.ensures.in_order))

pub returns : goal.returns
returns c =
    let at = (goal.at.returns c).In_ok-resources in
    let P = c.args.contents.now in
    let ws = ap (from_entries {R = name_cmp}) (c.in_ok-workstations.ensures ∙ c.workstations.ensures.rows) ∙ entries_are name_cmp name_cmp_total name_cmp-IsAntisymmetric P.workstations in
    let rs = ap (from_entries {R = name_cmp}) (c.in_ok-resources.ensures.items ∙ c.resources.ensures.rows) ∙ entries_are name_cmp name_cmp_total name_cmp-IsAntisymmetric P.resources in
    let os = ap (from_entries {R = occurrence_cmp}) (occurrences at) ∙ passed_are occurrence_cmp_total occurrence_cmp-IsAntisymmetric P.occurrences (stays at) in
    let ps = ap (from_entries {R = operation_cmp}) (operations at) ∙ passed_are operation_cmp_total operation_cmp-IsAntisymmetric P.operations (λ o. stays at o.occurrence) in
    let listed = ap (set.from_list {R = pair_cmp}) c.in_ok-pairs.ensures.items ∙ c.pairs.ensures.pairs in
    let qs = ap (set.from_list {R = pair_cmp}) (pairs at) ∙ set_passed pair_cmp_total pair_cmp-IsAntisymmetric c.in_ok-pairs.pairs.items (pair_stays at) ∙ ap (λ (s : Pairs). set.retain s (pair_stays at)) listed in
    c.of_rows.ensures ∙ (λ i. record { workstations = ws i; resources = rs i; occurrences = os i; operations = ps i; pairs = qs i })
