use Rattle.std.proofs.Common.{sym, subst, ◌++◌, ◌∷◌, []}
use Rattle.record_faults.specs.Groups.{AreCounts}
use Rattle.record_faults.proofs.Counting.{counts_none, counts_more}
use Rattle.record_faults.proofs.counts.count_one.Goals as goal

pub returns-in_default : goal.returns-in_default
returns-in_default c = λ before are. subst (λ o. AreCounts (before ++ o ∷ []) c.args.counts.now) (sym c.in_default.is) (counts_none before c.args.counts.now are)

pub returns : goal.returns
returns c = λ before are. subst (λ o. AreCounts (before ++ o ∷ []) c.insert.new.self) (sym c.in-Some.is) (counts_more before c.args.counts.now c.insert.new.self c.in-Some.group c.count_in-count.result c.count_in-count.ensures c.in_ok-insert.ensures.updates.0 are)
