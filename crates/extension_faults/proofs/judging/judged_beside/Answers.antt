use Rattle.std.proofs.Common.{inl, inr, arith, map, string_bytes}
use Rattle.std.proofs.lemmas.Result.{IfOk-weaker}
use Rattle.extension_faults.proofs.Lines.{none_by, some_by}
use Rattle.extension_faults.proofs.judging.judged_beside.Goals as goal

pub returns-then-is_empty : goal.returns-then-is_empty
returns-then-is_empty c =
    let own = c.in_ok-own.own in
    let none = none_by own.faults.items own.faults.len (omega (arith, own.faults.ok.0)) c.if-is_empty.ensures in
    IfOk-weaker c.tell_asked.result _ _ (λ lines told. (own.faults.items, c.in_ok-own.ensures.exactly, c.in_ok-own.ensures.in_order, inr (c.in_ok-own.ensures.none.0 none, told))) c.tell_asked.ensures

pub returns : goal.returns
returns c =
    let own = c.in_ok-own.own in
    let some = some_by own.faults.items own.faults.len (omega (arith, own.faults.ok.0)) c.if-is_empty.ensures in
    IfOk-weaker c.told_alone.result _ _ (λ lines told. (own.faults.items, c.in_ok-own.ensures.exactly, c.in_ok-own.ensures.in_order, inl (some, told))) c.told_alone.ensures
