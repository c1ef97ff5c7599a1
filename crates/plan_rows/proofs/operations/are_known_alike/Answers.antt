use Rattle.std.proofs.Common.{◌∙◌, arith, true≢false, sym}
use Rattle.plan_rows.proofs.operations.are_known_alike.Goals as goal

pub have_one_status-requires-clause-old : goal.have_one_status-requires-clause-old
have_one_status-requires-clause-old c =
    let (P, source, lt) = c.requires.before in
    omega (arith, lt, source.statuses.size)

pub have_one_status-requires-clause-new : goal.have_one_status-requires-clause-new
have_one_status-requires-clause-new c =
    let (Q, source, lt) = c.requires.after in
    omega (arith, lt, source.statuses.size)

pub returns-then-not-have_one_status : goal.returns-then-not-have_one_status
returns-then-not-have_one_status c = (
  λ t. absurd (true≢false (sym t)),
  λ alike. absurd (true≢false (sym (c.have_one_status.ensures.1 alike.status) ∙ c.if-not-have_one_status.true)),
)

pub have_one_start-requires-clause-old : goal.have_one_start-requires-clause-old
have_one_start-requires-clause-old c =
    let (P, source, lt) = c.requires.before in
    omega (arith, lt, source.latest.size)

pub have_one_start-requires-clause-new : goal.have_one_start-requires-clause-new
have_one_start-requires-clause-new c =
    let (Q, source, lt) = c.requires.after in
    omega (arith, lt, source.latest.size)

pub returns-then-not-have_one_start : goal.returns-then-not-have_one_start
returns-then-not-have_one_start c = (
  λ t. absurd (true≢false (sym t)),
  λ alike. absurd (true≢false (sym (c.have_one_start.ensures.1 alike.start) ∙ c.if-not-have_one_start.true)),
)

pub have_one_number-requires-clause-old : goal.have_one_number-requires-clause-old
have_one_number-requires-clause-old c =
    let (P, source, lt) = c.requires.before in
    omega (arith, lt, source.standings.size)

pub have_one_number-requires-clause-new : goal.have_one_number-requires-clause-new
have_one_number-requires-clause-new c =
    let (Q, source, lt) = c.requires.after in
    omega (arith, lt, source.standings.size)

pub returns : goal.returns
returns c = (
  λ t. record {
    status = c.have_one_status.ensures.0 c.if-not-have_one_status.false;
    start = c.have_one_start.ensures.0 c.if-not-have_one_start.false;
    waiting = c.have_one_number.ensures.0 t;
  },
  λ alike. c.have_one_number.ensures.1 alike.waiting,
)
