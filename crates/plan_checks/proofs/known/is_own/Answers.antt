use Rattle.std.proofs.Common.{sym, ap, subst, ◌∙◌, List}
use Rattle.std.specs.List.Sorted.{IsStrictlySortedBy}
use Rattle.std.specs.Map.{keys_of}
use Rattle.plan_basics.specs.Keys.{occurrence_cmp}
use Rattle.plan_basics.specs.declared.keys.OccKey.{OccKey}
use Rattle.derived_figures.specs.counted_records.specs.Leaving.{is_one_of}
use Rattle.plan_model.specs.declared.Occurrence.{Occurrence}
use Rattle.plan_checks.proofs.known.is_own.Goals as goal

pub is_one_of-requires : goal.is_one_of-requires
is_one_of-requires c = subst (λ (rows : List (OccKey × Occurrence)). IsStrictlySortedBy occurrence_cmp (keys_of rows)) (sym c.deref.ensures.value) c.requires.occurrences

pub returns : goal.returns
returns c =
    let is = c.is_one_of.ensures ∙ ap (λ (rows : List (OccKey × Occurrence)). is_one_of rows c.args.key.now.occurrence) c.deref.ensures.value in
    (λ yes. sym is ∙ yes, λ own. is ∙ own)
