-- The roots of a chain: what holds an operation that waits.
use Rattle.plan_basics.specs.declared.keys.OpKey.{OpKey}
use Rattle.operation_graph.specs.Paths.{ReachesBy}
use Rattle.status_rules.specs.declared.Status.TheVariants.{Waiting}
use Rattle.plan_model.specs.Contents.{Contents, Precedes}
use Rattle.plan_model.specs.Status.{HasStatus}
use Rattle.plan_reasons.specs.Reasons.{Follows, IsUnsatisfied}

-- p comes before o: a pair, followed backwards
abbrev pub IsAfter : Contents → OpKey → OpKey → Type 0
IsAfter P o p = Precedes P p o

-- q is reached backwards from o through live predecessors that aren't satisfied; o reaches itself
abbrev pub IsUpstream : Contents → OpKey → OpKey → Type 0
IsUpstream P = ReachesBy (IsAfter P) (IsUnsatisfied P)

-- o waits, and q is upstream of it and itself waits for nothing
abbrev pub IsRoot : Contents → OpKey → OpKey → Type 0
IsRoot P o q = HasStatus P o Waiting × IsUpstream P o q × ((p : OpKey) → ¬ Follows P q p)
