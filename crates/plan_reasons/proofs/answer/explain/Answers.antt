use Rattle.std.proofs.Common.{sym, subst, List}
use Rattle.std.specs.List.{AllPairs}
use Rattle.plan_reasons.specs.Order.{ComesBefore}
use Rattle.plan_reasons.specs.Whys.{AreOtherHolders}
use Rattle.plan_reasons.specs.declared.reasons.Reason.{Reason}
use Rattle.plan_reasons.proofs.answer.explain.Goals as goal

pub other_holders-requires : goal.other_holders-requires
other_holders-requires c = subst (AllPairs ComesBefore) (sym c.deref.ensures.value) c.in_ok-reasons.ensures.reasons.in_order

pub returns-clause-why : goal.returns-clause-why
returns-clause-why c =
    let (op, at) = c.in-Some.ensures.found in
    record {
      status = c.status_at.ensures c.args.key.now op at;
      reasons = c.in_ok-reasons.ensures.reasons;
      holders = subst (λ (rs : List Reason). AreOtherHolders c.args.loaded.now c.args.key.now rs c.in_ok-holders.holders.items) c.deref.ensures.value c.in_ok-holders.ensures;
      roots = c.in_ok-chain.ensures.roots c.args.key.now (op, at);
    }
