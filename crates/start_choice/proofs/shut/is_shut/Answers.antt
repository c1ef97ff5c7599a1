use Rattle.std.proofs.Common.{refl, sym, ◌∙◌}
use Rattle.std.proofs.lemmas.Bool.{le-leb, leb-true}
use Rattle.std.proofs.lemmas.Option.{none-some, same_Some}
use Rattle.start_choice.proofs.Shutting.{closed, full, none_left}
use Rattle.start_choice.proofs.shut.is_shut.Goals as goal

pub returns-in-Some : goal.returns-in-Some
returns-in-Some c =
    let w = c.args.workstation.now.1 in
    let offered = c.in-Some.offered in
    let has = (c.capacity_at.ensures offered).0 c.in-Some.is in (
      λ most. full w c.args.at c.args.taken.now offered has (leb-true offered.servers c.args.taken.now.servers most),
      λ shut. le-leb offered.servers c.args.taken.now.servers (none_left w c.args.at c.args.taken.now offered has (λ d it. same_Some offered d (sym c.in-Some.is ∙ (c.capacity_at.ensures d).1 it)) shut),
    )

pub returns-in-None : goal.returns-in-None
returns-in-None c = (λ e. closed c.args.workstation.now.1 c.args.at c.args.taken.now (λ d it. none-some d (sym c.in-None.is ∙ (c.capacity_at.ensures d).1 it)), λ shut. refl)
