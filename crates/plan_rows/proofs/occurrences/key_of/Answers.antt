use Rattle.std.proofs.Common.{◌∙◌, ap, option_map}
use Rattle.std.proofs.lemmas.Option.{slice_get-get_or, slice_get-map}
use Rattle.plan_basics.specs.declared.keys.OccKey.{OccKey}
use Rattle.plan_model.specs.declared.Occurrence.{Occurrence}
use Rattle.plan_rows.proofs.occurrences.key_of.Goals as goal

pub returns : goal.returns
returns c =
    let rows = c.args.occurrences.now in
    slice_get-map (λ (z : OccKey × Occurrence). z.0) rows c.args.place
    ∙ ap (option_map (λ (z : OccKey × Occurrence). z.0)) (slice_get-get_or rows c.args.place c.index-occurrences-place.result c.requires)
