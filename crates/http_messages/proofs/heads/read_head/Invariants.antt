use Rattle.std.proofs.Common.{◌≡◌, ◌≤◌, ◌-◌, false, length, take}
use Rattle.std.specs.Io.KnownBytes.{Consumes}
use Rattle.plan_basics.specs.Watched.{inner_of, failed_of}
use Rattle.http_messages.proofs.heads.read_head.Given as goal

abbrev pub invariant-loop-spans : goal.invariant-loop-spans
invariant-loop-spans g l = (l.filled ≤ length l.buffer)
    × (failed_of l.reader ≡ false)
    × Consumes (g.R.Read.remaining (inner_of l.initial.reader)) (g.R.Read.remaining (inner_of l.reader)) (take l.filled l.buffer)

abbrev pub decreases-loop-spans : goal.decreases-loop-spans
decreases-loop-spans g l = length l.buffer - l.filled
