use Rattle.std.proofs.Common.{◌∙◌, sym, subst, ap, List}
use Rattle.std.specs.FinMap.{from_entries}
use Rattle.std.specs.FinSet as set
use Rattle.plan_basics.specs.Keys.{name_cmp, name_cmp_total, name_cmp-IsAntisymmetric, occurrence_cmp, occurrence_cmp_total, occurrence_cmp-IsAntisymmetric, operation_cmp, operation_cmp_total, operation_cmp-IsAntisymmetric}
use Rattle.plan_basics.specs.declared.keys.OccKey.{OccKey}
use Rattle.plan_basics.specs.declared.keys.OpKey.{OpKey}
use Rattle.plan_records.specs.plan_model.specs.Contents.{Operation, pair_cmp}
use Rattle.plan_records.specs.plan_model.specs.Revise.{joined}
use Rattle.plan_records.specs.plan_model.specs.declared.Occurrence.{Occurrence}
use Rattle.plan_records.specs.plan_model.proofs.Entries.{entries_are}
use Rattle.plan_changes.specs.Additions.{ShareNoKey}
use Rattle.plan_changes.proofs.additions.with_addition.Goals as goal

pub add_rows-requires-clause-exact : goal.add_rows-requires-clause-exact
add_rows-requires-clause-exact c = occurrence_cmp-IsAntisymmetric

pub add_rows-requires-2-clause-exact : goal.add_rows-requires-2-clause-exact
add_rows-requires-2-clause-exact c = operation_cmp-IsAntisymmetric

pub add_rows-requires-clause-apart : goal.add_rows-requires-clause-apart
add_rows-requires-clause-apart c =
    let old = c.args.contents.now in
    let same = ap (from_entries {R = occurrence_cmp}) (c.in_ok-occurrences.ensures.items ∙ c.occurrences.ensures.rows) ∙ entries_are occurrence_cmp occurrence_cmp_total occurrence_cmp-IsAntisymmetric old.occurrences in
    subst (λ m. ShareNoKey m (from_entries c.deref.result.now)) (sym same) (subst (λ (rows : List (OccKey × Occurrence)). ShareNoKey {R = occurrence_cmp} old.occurrences (from_entries rows)) (sym c.deref.ensures.value) c.requires.apart.occurrences)

pub add_rows-requires-2-clause-apart : goal.add_rows-requires-2-clause-apart
add_rows-requires-2-clause-apart c =
    let old = c.args.contents.now in
    let same = ap (from_entries {R = operation_cmp}) (c.in_ok-operations.ensures.items ∙ c.operations.ensures.rows) ∙ entries_are operation_cmp operation_cmp_total operation_cmp-IsAntisymmetric old.operations in
    subst (λ m. ShareNoKey m (from_entries c.deref-2.result.now)) (sym same) (subst (λ (rows : List (OpKey × Operation)). ShareNoKey {R = operation_cmp} old.operations (from_entries rows)) (sym c.deref-2.ensures.value) c.requires.apart.operations)

pub returns : goal.returns
returns c =
    let old = c.args.contents.now in
    let ws = ap (from_entries {R = name_cmp}) (c.in_ok-workstations.ensures ∙ c.workstations.ensures.rows) ∙ entries_are name_cmp name_cmp_total name_cmp-IsAntisymmetric old.workstations in
    let rs = ap (from_entries {R = name_cmp}) (c.in_ok-resources.ensures.items ∙ c.resources.ensures.rows) ∙ entries_are name_cmp name_cmp_total name_cmp-IsAntisymmetric old.resources in
    let os = ap (from_entries {R = occurrence_cmp}) (c.in_ok-occurrences.ensures.items ∙ c.occurrences.ensures.rows) ∙ entries_are occurrence_cmp occurrence_cmp_total occurrence_cmp-IsAntisymmetric old.occurrences in
    let ps = ap (from_entries {R = operation_cmp}) (c.in_ok-operations.ensures.items ∙ c.operations.ensures.rows) ∙ entries_are operation_cmp operation_cmp_total operation_cmp-IsAntisymmetric old.operations in
    let qs = ap (set.from_list {R = pair_cmp}) c.in_ok-pairs.ensures.items ∙ c.pairs.ensures.pairs in
    let new_os = c.in_ok-add_rows.ensures.both ∙ (λ i. joined (os i) (from_entries (c.deref.ensures.value i))) in
    let new_ps = c.in_ok-add_rows-2.ensures.both ∙ (λ i. joined (ps i) (from_entries (c.deref-2.ensures.value i))) in
    let new_qs = c.in_ok-add_pairs.ensures.both ∙ (λ i. set.union (qs i) (set.from_list (c.deref-3.ensures.value i))) in
    c.of_rows.ensures ∙ (λ i. record { workstations = ws i; resources = rs i; occurrences = new_os i; operations = new_ps i; pairs = new_qs i })
