use Rattle.std.proofs.Common.{arith, ap, length}
use Rattle.std.proofs.lemmas.List.{length-map}
use Rattle.std.specs.FinMap.{entries}
use Rattle.plan_basics.specs.declared.keys.OccKey.{OccKey}
use Rattle.plan_model.specs.declared.Occurrence.{Occurrence}
use Rattle.plan_rows.proofs.SourceRows.{occurrence_keys}
use Rattle.plan_rows.proofs.occurrences.OccurrenceTabled.count.Goals as goal
use Rattle.plan_rows.specs.Sources.{source_of}

pub returns : goal.returns
returns c =
    let s = source_of c.args.source in
    omega (arith, ap length c.occurrences.ensures.rows, ap length (occurrence_keys s c.requires), length-map (entries s.contents.now.occurrences) (λ (x : OccKey × Occurrence). x.0))
