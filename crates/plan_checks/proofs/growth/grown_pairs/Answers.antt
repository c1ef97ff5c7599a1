use Rattle.std.proofs.Common.{sym, ap, subst, ◌∙◌, List}
use Rattle.std.specs.FinSet as set
use Rattle.plan_basics.specs.declared.keys.OpKey.{OpKey}
use Rattle.derived_figures.specs.plan_changes.specs.Additions.{ShareNoMember}
use Rattle.plan_model.specs.Contents.{Pairs, pair_cmp}
use Rattle.derived_figures.specs.plan_laws.proofs.Pairs.{pair_cmp-IsAntisymmetric}
use Rattle.plan_checks.proofs.growth.grown_pairs.Goals as goal

pub merge-requires-clause-exact : goal.merge-requires-clause-exact
merge-requires-clause-exact c = pair_cmp-IsAntisymmetric

pub merge-requires-clause-apart : goal.merge-requires-clause-apart
merge-requires-clause-apart c =
    let same = ap (set.from_list {R = pair_cmp}) c.in_ok-all.ensures.items ∙ c.pairs.ensures.pairs in
    subst (λ (z : Pairs). ShareNoMember z (set.from_list c.deref.result.now)) (sym same)
    (subst (λ (items : List (OpKey × OpKey)). ShareNoMember {R = pair_cmp} c.args.uncounted.now.contents.now.pairs (set.from_list items)) (sym c.deref.ensures.value) c.requires.apart.pairs)
