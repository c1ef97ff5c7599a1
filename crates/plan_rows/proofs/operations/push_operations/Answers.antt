use Rattle.std.proofs.Common.{arith, ap, length, Some}
use Rattle.std.proofs.lemmas.List.{length-map}
use Rattle.std.specs.FinMap.{entries}
use Rattle.plan_basics.specs.declared.keys.OpKey.{OpKey}
use Rattle.plan_model.specs.Contents.{Operation}
use Rattle.plan_rows.proofs.SourceRows.{are_operations, operation_keys, operations_ascend}
use Rattle.plan_rows.proofs.operations.push_operations.Goals as goal
use Rattle.plan_rows.specs.Sources.{source_with, source_if_any}

pub push_kept-requires-clause-before_in_order : goal.push_kept-requires-clause-before_in_order
push_kept-requires-clause-before_in_order c = operations_ascend (source_if_any c.args.before) c.requires.before

pub push_kept-requires-clause-in_order : goal.push_kept-requires-clause-in_order
push_kept-requires-clause-in_order c = operations_ascend (Some (source_with c.args.records.now.contents c.args.columns)) c.requires.source

pub returns-clause-changes : goal.returns-clause-changes
returns-clause-changes c = λ clock now so_far.
    c.push_kept.ensures.changes 5 clock now (are_operations clock (source_if_any c.args.before) c.requires.before) (are_operations now (Some (source_with c.args.records.now.contents c.args.columns)) c.requires.source) so_far

-- a look at each row, and there are no more rows than operations
pub returns-clause-most : goal.returns-clause-most
returns-clause-most c =
    let s = source_with c.args.records.now.contents c.args.columns in
    let most = c.push_kept.ensures.most in
    omega (arith, most, ap length (operation_keys s c.requires.source), length-map (entries c.args.records.now.contents.operations) (λ (x : OpKey × Operation). x.0))
