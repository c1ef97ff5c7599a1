use Rattle.std.proofs.Common.{take}
use Rattle.plan_reasons.specs.Parts.{AreOthersAmong}
use Rattle.plan_reasons.proofs.other_holders.others_among.Given as goal

-- those among the holders that were passed
abbrev pub invariant-loop-holder : goal.invariant-loop-holder
invariant-loop-holder l = AreOthersAmong l.loaded l.key (take l.holder-index l.holders) l.others.items
