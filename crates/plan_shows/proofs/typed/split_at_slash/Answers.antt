use Rattle.std.proofs.Common.{◌-◌, ◌+◌, length, take, drop, refl, arith}
use Rattle.plan_basics.proofs.KeyLaws.{split_from}
use Rattle.plan_shows.proofs.typed.split_at_slash.Goals as goal

pub returns-clause-some : goal.returns-clause-some
returns-clause-some c =
    let text = c.args.text.now in
    let slash = length text - c.args.width - 1 in
    (λ _. (take slash text, drop (slash + 1) text, split_from text c.args.width slash (omega arith) (omega arith)), λ _. refl)
