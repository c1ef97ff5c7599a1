use Rattle.std.proofs.Common.{ℕ, string_bytes, take}
use Rattle.std.specs.List.{AllZip}
use Rattle.extension_faults.specs.Warned.{WarnsFrom}
use Rattle.extension_faults.proofs.warning.lines_never.Given as goal

-- those so far are told
abbrev pub invariant-loop-place : goal.invariant-loop-place
invariant-loop-place l = AllZip (λ (p : ℕ) line. WarnsFrom l.lines p (string_bytes line)) (take l.place-index l.places) l.told.items
