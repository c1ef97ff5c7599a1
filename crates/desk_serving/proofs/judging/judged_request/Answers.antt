use Rattle.std.proofs.Common.{inl, inr, ap, map, string_bytes}
use Rattle.std.proofs.lemmas.Result.{IfOk-weaker}
use Rattle.desk_serving.proofs.judging.judged_request.Goals as goal

pub returns-in-Some : goal.returns-in-Some
returns-in-Some c =
    let brings = rw c.in-Some.is at c.in_ok-brought.ensures in
    IfOk-weaker c.judged_brought.result _ _ (λ j judges. inl (c.in-Some.brought, brings, judges)) c.judged_brought.ensures

pub returns-in-None : goal.returns-in-None
returns-in-None c =
    let none = rw c.in-None.is at c.in_ok-brought.ensures in
    inr (none, ap (map string_bytes) c.new.ensures.items, ap (map string_bytes) c.new-in-None.ensures.items)
