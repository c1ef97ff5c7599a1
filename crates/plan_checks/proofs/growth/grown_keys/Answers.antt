use Rattle.std.proofs.Common.{◌≡◌, sym, ap, subst, ◌∙◌, List}
use Rattle.std.specs.FinMap.{keys}
use Rattle.std.specs.FinSet as set
use Rattle.std.specs.List.Sorted.{IsStrictlySortedBy}
use Rattle.std.specs.Map.{keys_of}
use Rattle.plan_basics.specs.Keys.{operation_cmp, operation_cmp-IsAntisymmetric}
use Rattle.plan_basics.specs.declared.keys.OpKey.{OpKey}
use Rattle.derived_figures.specs.plan_changes.specs.Additions.{ShareNoMember}
use Rattle.plan_model.proofs.Entries.{entries_in_order}
use Rattle.plan_checks.proofs.Grown.{grown_keys, keys_apart}
use Rattle.plan_checks.proofs.growth.grown_keys.Goals as goal
use Rattle.plan_checks.proofs.growth.grown_keys.Goals.{In_ok-new}

-- the keys of the rows that are added
listed : (c : In_ok-new) (seen : List OpKey) → seen ≡ c.in_ok-new.new.items → seen ≡ keys_of c.args.parts.now.operations.items
listed c seen same = same ∙ c.in_ok-new.ensures ∙ ap keys_of c.deref.ensures.value

pub merge-requires-clause-exact : goal.merge-requires-clause-exact
merge-requires-clause-exact c = operation_cmp-IsAntisymmetric

pub merge-requires-clause-old : goal.merge-requires-clause-old
merge-requires-clause-old c = subst (IsStrictlySortedBy operation_cmp) (sym c.in_ok-all.ensures) (entries_in_order operation_cmp c.args.uncounted.now.contents.now.operations)

pub merge-requires-clause-apart : goal.merge-requires-clause-apart
merge-requires-clause-apart c =
    let P = c.args.uncounted.now.contents.now in
    let new = listed (goal.at.merge-requires-clause-apart c).In_ok-new c.deref-2.result.now c.deref-2.ensures.value in
    subst (λ (xs : List OpKey). ShareNoMember {R = operation_cmp} (set.from_list xs) (set.from_list c.deref-2.result.now)) (sym c.in_ok-all.ensures)
    (subst (λ (xs : List OpKey). ShareNoMember {R = operation_cmp} (set.from_list (keys P.operations)) (set.from_list xs)) (sym new) (keys_apart P c.args.parts.now c.requires.parts c.requires.apart))

pub returns : goal.returns
returns c =
    let P = c.args.uncounted.now.contents.now in
    let old : c.in_ok-all.all.items ≡ keys P.operations = c.in_ok-all.ensures in
    let new = listed (goal.at.returns c).In_ok-new c.deref-2.result.now c.deref-2.ensures.value in
    grown_keys P c.args.parts.now c.requires.parts c.merge.new.items.items c.in_ok-merge.ensures.in_order
    (c.in_ok-merge.ensures.both ∙ (λ i. set.union (set.from_list {R = operation_cmp} (old i)) (set.from_list (new i))))
