use Rattle.std.proofs.Common.{◌≡◌, ◌<◌, ◌≤◌, ◌∙◌, ap, subst, arith, length, take}
use Rattle.std.proofs.lemmas.List.{length-take-le}
use Rattle.std.specs.Io.KnownBytes.{Consumes}
use Rattle.http_messages.specs.declared.asking.TheConstants.{MOST_HEAD_BYTES}
use Rattle.http_messages.proofs.Fronts.{ended, full, none_in_enough}
use Rattle.http_messages.proofs.heads.read_head.Goals as goal

pub returns-then-filled-buffer-clause-head : goal.returns-then-filled-buffer-clause-head
returns-then-filled-buffer-clause-head g c =
    let (within, fresh, taken) = c.loop-spans.invariant in
    let long : length (take c.loop-spans.filled c.loop-spans.buffer) ≡ c.loop-spans.filled = length-take-le _ _ within in
    let all : MOST_HEAD_BYTES ≤ length (take c.loop-spans.filled c.loop-spans.buffer) = omega (arith, c.requires.room) in
    none_in_enough _ _ (take c.loop-spans.filled c.loop-spans.buffer) taken (full all) (rw c.in-Ok-Partial.field-0-is at c.in-Ok-Partial.ensures.partial)

pub returns-then-now-filled-clause-head : goal.returns-then-now-filled-clause-head
returns-then-now-filled-clause-head g c =
    let (within, fresh, taken) = c.loop-spans.invariant in
    let same : c.in_ok-now.now ≡ c.loop-spans.filled = c.if-now-filled.true in
    let front : take c.in_ok-now.now c.read_on.new.buffer ≡ take c.loop-spans.filled c.loop-spans.buffer =
    ap (λ n. take n c.read_on.new.buffer) same ∙ c.in_ok-now.ensures.kept in
    let room : c.loop-spans.filled < length c.read_on.new.buffer = omega arith in
    none_in_enough _ _ (take c.loop-spans.filled c.loop-spans.buffer)
    (subst (Consumes _ _) front (c.in_ok-now.ensures.taken _ taken))
    (ended (c.in_ok-now.ensures.end same room))
    (rw c.in-Ok-Partial.field-0-is at c.in-Ok-Partial.ensures.partial)
