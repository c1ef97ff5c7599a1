use Rattle.std.proofs.Common.{◌<◌, arith}
use Rattle.serde_json.specs.View.{view}
use Rattle.request_json.proofs.Parts.{interval_spelt}
use Rattle.request_json.proofs.intervals.interval_of.Goals as goal

pub returns-in_err-moment_of : goal.returns-in_err-moment_of
returns-in_err-moment_of c = rw c.from_residual.ensures (λ x h. c.in_err-moment_of.ensures x.from h.moments.0)

pub returns-in_err-moment_of-2 : goal.returns-in_err-moment_of-2
returns-in_err-moment_of-2 c = rw c.from_residual-in_err-moment_of-2.ensures (λ x h. c.in_err-moment_of-2.ensures x.end h.moments.1)

pub returns-in_err-small_number_of : goal.returns-in_err-small_number_of
returns-in_err-small_number_of c =
    rw c.from_residual-in_err-small_number_of.ensures (λ x h. let small : x.servers < 256 = omega (arith, h.valid.servers) in c.in_err-small_number_of.ensures x.servers (small, h.numbers.0))

pub returns-in_err-small_number_of-2 : goal.returns-in_err-small_number_of-2
returns-in_err-small_number_of-2 c =
    rw c.from_residual-in_err-small_number_of-2.ensures (λ x h. let small : x.r1 < 256 = omega (arith, h.valid.fixed.0) in c.in_err-small_number_of-2.ensures x.r1 (small, h.numbers.1))

pub returns-in_err-small_number_of-3 : goal.returns-in_err-small_number_of-3
returns-in_err-small_number_of-3 c =
    rw c.from_residual-in_err-small_number_of-3.ensures (λ x h. let small : x.r2 < 256 = omega (arith, h.valid.fixed.1) in c.in_err-small_number_of-3.ensures x.r2 (small, h.numbers.2))

pub returns : goal.returns
returns c =
    interval_spelt (view c.args.from.now) (view c.args.end.now) (view c.args.servers.now) (view c.args.r1.now) (view c.args.r2.now)
    c.in_ok-moment_of.field-0 c.in_ok-moment_of-2.field-0 c.in_ok-small_number_of.field-0 c.in_ok-small_number_of-2.field-0 c.in_ok-small_number_of-3.field-0
    c.in_ok-moment_of.ensures c.in_ok-moment_of-2.ensures c.in_ok-small_number_of.ensures.1 c.in_ok-small_number_of-2.ensures.1 c.in_ok-small_number_of-3.ensures.1
    c.new.result c.new.ensures.some c.new.ensures.value
