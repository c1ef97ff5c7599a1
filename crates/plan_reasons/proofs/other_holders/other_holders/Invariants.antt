use Rattle.std.proofs.Common.{take}
use Rattle.plan_reasons.specs.Whys.{AreOtherHolders}
use Rattle.plan_reasons.proofs.other_holders.other_holders.Given as goal

-- those that hold what lacks by the reasons that were passed
abbrev pub invariant-loop-reason : goal.invariant-loop-reason
invariant-loop-reason l = AreOtherHolders l.loaded l.key (take l.reason-index l.reasons) l.others.items
