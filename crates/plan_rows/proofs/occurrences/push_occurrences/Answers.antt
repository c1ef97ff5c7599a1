use Rattle.std.proofs.Common.{Some}
use Rattle.plan_rows.proofs.SourceRows.{are_occurrences, occurrences_ascend}
use Rattle.plan_rows.proofs.occurrences.push_occurrences.Goals as goal
use Rattle.plan_rows.specs.Sources.{source_with, source_if_any}

pub push_kept-requires-clause-before_in_order : goal.push_kept-requires-clause-before_in_order
push_kept-requires-clause-before_in_order c = occurrences_ascend (source_if_any c.args.before) c.requires.before

pub push_kept-requires-clause-in_order : goal.push_kept-requires-clause-in_order
push_kept-requires-clause-in_order c = occurrences_ascend (Some (source_with c.args.records.now.contents c.args.columns)) c.requires.source

pub returns-clause-changes : goal.returns-clause-changes
returns-clause-changes c = λ clock now so_far.
    c.push_kept.ensures.changes 4 clock now (are_occurrences clock (source_if_any c.args.before) c.requires.before) (are_occurrences now (Some (source_with c.args.records.now.contents c.args.columns)) c.requires.source) so_far
