use Rattle.std.proofs.lemmas.Option.{none-some}
use Rattle.plan_opening.proofs.Opened.{told_of}
use Rattle.plan_opening.proofs.opening.plan_of_rows.Goals as goal

pub returns-in_default-clause-opened : goal.returns-in_default-clause-opened
returns-in_default-clause-opened c = λ P h. none-some _ (c.in_default.ensures.complete P h.are_rows)

pub plan_at-requires-clause-told : goal.plan_at-requires-clause-told
plan_at-requires-clause-told c = λ P are. told_of _ P (c.in-Some.ensures.complete P are)
