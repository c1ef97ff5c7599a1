use Rattle.std.proofs.Common.{arith, ap, length}
use Rattle.std.proofs.lemmas.List.{length-map}
use Rattle.std.specs.FinMap.{entries}
use Rattle.plan_basics.specs.declared.keys.OpKey.{OpKey}
use Rattle.plan_model.specs.Contents.{Operation}
use Rattle.plan_rows.proofs.SourceRows.{operation_keys}
use Rattle.plan_rows.proofs.operations.OperationRecordTabled.count.Goals as goal
use Rattle.plan_rows.specs.Sources.{source_of}

pub returns : goal.returns
returns c =
    let s = source_of c.args.source in
    omega (arith, c.operation_count.ensures.count, ap length (operation_keys s c.requires), length-map (entries s.contents.now.operations) (λ (x : OpKey × Operation). x.0))
