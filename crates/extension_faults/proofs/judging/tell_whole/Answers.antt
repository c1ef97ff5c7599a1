use Rattle.std.proofs.Common.{inl, inr, arith, map, string_bytes}
use Rattle.std.proofs.lemmas.Result.{IfOk-weaker}
use Rattle.extension_faults.proofs.Lines.{none_by, some_by}
use Rattle.extension_faults.proofs.judging.tell_whole.Goals as goal

pub returns-then-is_empty : goal.returns-then-is_empty
returns-then-is_empty c =
    let found = c.in_ok-found.found in
    let none = none_by found.faults.items found.faults.len (omega (arith, found.faults.ok.0)) c.if-is_empty.ensures in
    IfOk-weaker c.told_refusal.result _ _ (λ lines told. (found.faults.items, found.circle, c.in_ok-found.ensures.exactly, inr (none, told))) c.told_refusal.ensures

pub returns : goal.returns
returns c =
    let found = c.in_ok-found.found in
    let some = some_by found.faults.items found.faults.len (omega (arith, found.faults.ok.0)) c.if-is_empty.ensures in
    IfOk-weaker c.told_of_whole.result _ _ (λ lines told. (found.faults.items, found.circle, c.in_ok-found.ensures.exactly, inl (some, told))) c.told_of_whole.ensures
