use Rattle.std.proofs.Common.{inl, inr, sym, subst}
use Rattle.request_outcomes.proofs.Refusing.{is_refused, may_be_accepted}
use Rattle.request_outcomes.proofs.outcomes.checked_outcome.Goals as goal
use Rattle.request_outcomes.specs.DatedRequests.{IsAcceptable, plan_asked}
use Rattle.plan_model.specs.Contents.{Contents}

pub accepted_outcome-requires-clause-acceptable : goal.accepted_outcome-requires-clause-acceptable
accepted_outcome-requires-clause-acceptable c =
    let q = c.args.asked.now in
    subst (λ (P : Contents). IsAcceptable P q) (sym c.in-Ok.ensures.contents) (record {
      clock = c.requires.clock;
      at = c.requires.at;
      clear = may_be_accepted (plan_asked c.args.records.contents q) q.request.now q.at c.requires.at c.requires.onward c.requires.moment (c.in-Ok.ensures.ok q.clock);
    })

pub returns-in-Err-clause-refused : goal.returns-in-Err-clause-refused
returns-in-Err-clause-refused c =
    let q = c.args.asked.now in
    elim (c.in-Err.ensures.refused q.clock) [
      | inl memory ↦ inl memory
      | inr stopped ↦ inr (is_refused (plan_asked c.args.records.contents q) q.request.now q.at c.requires.at c.requires.onward c.requires.moment c.in-Err.refusal stopped)
    ]
