use Rattle.std.proofs.Common.{inl, inr, ap, map, string_bytes, subst}
use Rattle.std.proofs.lemmas.Result.{IfOk-weaker}
use Rattle.extension_faults.specs.Judged.{what_of, Accepts, Refuses}
use Rattle.extension_faults.proofs.judging.tell_asked.Goals as goal

pub returns-in-None : goal.returns-in-None
returns-in-None c =
    let asked = c.in_ok-what.ensures in
    let accepts = rw c.in-None.is at c.in_ok-refusal_of.ensures in
    (asked.0, asked.1, inl (subst (Accepts c.args.plan.now.plan) asked.2 accepts, ap (map string_bytes) c.new.ensures.items))

pub returns-in-Some : goal.returns-in-Some
returns-in-Some c =
    let asked = c.in_ok-what.ensures in
    let refuses = rw c.in-Some.is at c.in_ok-refusal_of.ensures in
    IfOk-weaker c.tell_refused.result _ _ (λ lines told. (asked.0, asked.1, inr (c.in-Some.refusal, subst (λ w. Refuses c.args.plan.now.plan w c.in-Some.refusal) asked.2 refuses, told))) c.tell_refused.ensures
