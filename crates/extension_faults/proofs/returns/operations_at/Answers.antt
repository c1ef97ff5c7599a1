use Rattle.std.proofs.Common.{arith, sym, subst, ℕ, ◌+◌, ◌<◌, length, get_or, take}
use Rattle.std.specs.List.{AllZip}
use Rattle.plan_basics.specs.declared.keys.OpKey.{OpKey}
use Rattle.plan_drafts.specs.declared.RowKey.TheVariants as key
use Rattle.record_faults.specs.Sayings.{IsGiven}
use Rattle.record_faults.proofs.Circling.{zip_last, whatever_default}
use Rattle.extension_faults.proofs.returns.operations_at.Goals as goal

pub loop-number-preserved : goal.loop-number-preserved
loop-number-preserved c =
    let stands = λ (place : ℕ) (o : OpKey). IsGiven c.args.ends.now (key.Operation o) place in
    let places = c.args.places.now in
    let number = c.loop-number.number in
    let within : number < length places = omega arith in
    let one = get_or places number 0 in
    subst (AllZip stands (take (number + 1) places)) (sym c.in_ok-extend_from_slice.ensures.items)
    (zip_last stands places c.loop-number.operations.items number one c.operation_at.result within (whatever_default places number 0 one within) c.loop-number.invariant c.operation_at.ensures)
