use Rattle.std.proofs.Common.{◌∙◌}
use Rattle.std.proofs.lemmas.Option.{same_Some}
use Rattle.plan_opening.proofs.Opened.{if_judged}
use Rattle.plan_opening.proofs.opening.sound_contents_of.Goals as goal

pub returns-in_default-clause-complete : goal.returns-in_default-clause-complete
returns-in_default-clause-complete c = λ P sound are. (rw c.in_default.is at c.in_ok-contents.ensures.complete) P sound.valid are

pub returns-clause-complete : goal.returns-clause-complete
returns-clause-complete c =
    if_judged c.args.rows.now c.of.result c.judged.result c.judged.ensures.judged
    (λ P sound are. c.of.ensures ∙ same_Some c.in-Some.contents P.contents ((rw c.in-Some.is at c.in_ok-contents.ensures.complete) P sound.valid are))
