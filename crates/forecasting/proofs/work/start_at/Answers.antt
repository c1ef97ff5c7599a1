use Rattle.std.proofs.Common.{inl, inr, sym, ◌∙◌, true≢false}
use Rattle.forecasting.proofs.work.start_at.Goals as goal

pub returns-then-starts_by_itself : goal.returns-then-starts_by_itself
returns-then-starts_by_itself c = λ s same none. (none, (c.starts_by_itself.ensures s same).0 c.if-starts_by_itself.true)

pub returns-in-Some : goal.returns-in-Some
returns-in-Some c = λ s same none. (
  none,
  λ may. true≢false (sym ((c.starts_by_itself.ensures s same).1 may) ∙ c.if-starts_by_itself.false),
  c.in-Some.ensures s same,
)

pub returns-in-None : goal.returns-in-None
returns-in-None c = λ s same none work. elim work [
  | inl due ↦ none due
  | inr (inl may) ↦ true≢false (sym ((c.starts_by_itself.ensures s same).1 may) ∙ c.if-starts_by_itself.false)
  | inr (inr may) ↦ c.in-None.ensures s same may
]
