use Rattle.std.proofs.Common.{◌≡◌, ◌∙◌, ap, subst, sym}
use Rattle.std.specs.FinMap.{entries, from_entries}
use Rattle.std.specs.FinSet as set
use Rattle.std.specs.List.Sorted.{IsStrictlySortedBy}
use Rattle.std.specs.Map.{keys_of}
use Rattle.plan_basics.specs.Keys.{name_cmp, name_cmp_total, name_cmp-IsAntisymmetric, occurrence_cmp, occurrence_cmp_total, occurrence_cmp-IsAntisymmetric, operation_cmp, operation_cmp_total, operation_cmp-IsAntisymmetric}
use Rattle.plan_status.specs.plan_model.proofs.Entries.{entries_are, entries_in_order}
use Rattle.plan_status.specs.plan_model.specs.Contents.{Contents, pair_cmp}
use Rattle.counted_records.proofs.counted.CountedRecords.with_rows.Goals as goal

pub of_rows-contents-requires-clause-operations : goal.of_rows-contents-requires-clause-operations
of_rows-contents-requires-clause-operations c = subst (λ rows. IsStrictlySortedBy operation_cmp (keys_of rows)) (sym c.requires) (entries_in_order operation_cmp c.args.self.now.contents.operations)

pub returns : goal.returns
returns c =
    let P : Contents = c.args.self.now.contents in
    let same = c.uncounted-uncounted.ensures.contents in
    let workstations : from_entries {R = name_cmp} c.in_ok-workstations.workstations.items ≡ P.workstations =
    ap (from_entries {R = name_cmp}) (c.in_ok-workstations.ensures ∙ c.workstations.ensures.rows ∙ ap (λ (Q : Contents). entries Q.workstations) same)
    ∙ entries_are name_cmp name_cmp_total name_cmp-IsAntisymmetric P.workstations in
    let resources : from_entries {R = name_cmp} c.in_ok-resources.resources.items ≡ P.resources =
    ap (from_entries {R = name_cmp}) (c.in_ok-resources.ensures.items ∙ c.resources.ensures.rows ∙ ap (λ (Q : Contents). entries Q.resources) same)
    ∙ entries_are name_cmp name_cmp_total name_cmp-IsAntisymmetric P.resources in
    let occurrences : from_entries {R = occurrence_cmp} c.in_ok-occurrences.occurrences.items ≡ P.occurrences =
    ap (from_entries {R = occurrence_cmp}) (c.in_ok-occurrences.ensures.items ∙ c.occurrences.ensures.rows ∙ ap (λ (Q : Contents). entries Q.occurrences) same)
    ∙ entries_are occurrence_cmp occurrence_cmp_total occurrence_cmp-IsAntisymmetric P.occurrences in
    let operations : from_entries {R = operation_cmp} c.args.operations.items ≡ P.operations =
    ap (from_entries {R = operation_cmp}) c.requires
    ∙ entries_are operation_cmp operation_cmp_total operation_cmp-IsAntisymmetric P.operations in
    let pairs : set.from_list {R = pair_cmp} c.in_ok-pairs.pairs.items ≡ P.pairs =
    ap (set.from_list {R = pair_cmp}) c.in_ok-pairs.ensures.items ∙ c.pairs.ensures.pairs ∙ ap (λ (Q : Contents). Q.pairs) same in
    c.of_rows-contents.ensures ∙ (λ i. record { workstations = workstations i; resources = resources i; occurrences = occurrences i; operations = operations i; pairs = pairs i })
