use Rattle.std.proofs.Common.{sym, subst, All}
use Rattle.plan_status.specs.plan_model.specs.Contents.{Contents, IsInPlan}
use Rattle.counted_records.proofs.Marked.{known_after}
use Rattle.counted_records.proofs.counted.CountedRecords.put_markings.Goals as goal

pub put_markings-requires-clause-known : goal.put_markings-requires-clause-known
put_markings-requires-clause-known c =
    subst (λ (Q : Contents). All (IsInPlan Q) c.args.keys.now) (sym c.into_rows-rows.ensures.contents)
    (known_after c.requires.0 c.args.keys.now c.args.marks.now c.requires.3 c.args.self.contents c.args.keys.now c.requires.2)
