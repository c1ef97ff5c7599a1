use Rattle.std.proofs.Common.{ap, is_some, subst, sym, ◌∙◌}
use Rattle.std.specs.FinMap.{contains_key}
use Rattle.plan_status.specs.plan_model.specs.Contents.{Contents, IsInPlan}
use Rattle.counted_records.proofs.counted.CountedRecords.markings_of.Goals as goal

pub marking_of-mark-requires : goal.marking_of-mark-requires
marking_of-mark-requires c =
    ap (λ (P : Contents). contains_key P.operations c.key-item.result) c.loop-key.invariant.contents
    ∙ ap is_some (subst (IsInPlan c.args.self.now.contents) (sym c.key-item.is) (c.requires c.loop-key.key-index c.key-item.result c.loop-key-test.true)).1
