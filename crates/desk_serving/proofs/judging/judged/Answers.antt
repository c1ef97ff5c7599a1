use Rattle.std.proofs.Common.{inl, inr, ap, arith, map, string_bytes}
use Rattle.std.proofs.lemmas.Result.{IfOk-weaker}
use Rattle.extension_faults.proofs.Lines.{none_by, some_by}
use Rattle.desk_serving.proofs.judging.judged.Goals as goal

pub returns-then-is_empty : goal.returns-then-is_empty
returns-then-is_empty c =
    let faults = c.in_ok-faults.faults in
    let none = none_by faults.items faults.len (omega (arith, faults.ok.0)) c.if-is_empty.ensures in
    IfOk-weaker c.judged_request.result _ _ (λ j judges. inr (c.in_ok-faults.ensures.none.0 none, judges)) c.judged_request.ensures

pub returns : goal.returns
returns c =
    let faults = c.in_ok-faults.faults in
    let some = some_by faults.items faults.len (omega (arith, faults.ok.0)) c.if-is_empty.ensures in
    inl (λ reads. some (c.in_ok-faults.ensures.none.1 reads), c.in_ok-faults.ensures.exactly, ap (map string_bytes) c.new.ensures.items)
