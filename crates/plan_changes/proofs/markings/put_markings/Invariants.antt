use Rattle.std.proofs.Common.{◌≡◌, drop}
use Rattle.std.specs.FinMap.{contains_key}
use Rattle.plan_basics.specs.declared.keys.OpKey.{OpKey}
use Rattle.plan_records.specs.plan_model.specs.Contents.{Contents}
use Rattle.plan_changes.specs.Markings.{DifferInMarks, WereMarked}
use Rattle.plan_changes.proofs.markings.put_markings.Given as goal

-- the operations that were there are there; and a plan to which these markings belong differs at the keys from the index on alone
abbrev pub invariant-loop-i : goal.invariant-loop-i
invariant-loop-i l = record {
  known : (o : OpKey) → contains_key l.contents.operations o ≡ contains_key l.fn.contents.operations o;
  left : (P : Contents) → DifferInMarks P l.fn.contents l.keys → WereMarked P l.keys l.marks → DifferInMarks P l.contents (drop l.i l.keys);
}
