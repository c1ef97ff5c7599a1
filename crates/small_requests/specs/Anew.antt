-- What a small request writes of the operation that it reports of or commands.
use Rattle.std.specs.Prelude.{◌≡◌, true, false, Option, Some, None}
use Rattle.plan_model.specs.Contents.{Operation}
use Rattle.plan_records.specs.declared.What.{What}
use Rattle.plan_records.specs.declared.What.TheVariants as what
use Rattle.status_rules.specs.declared.Mark.{Mark}
use Rattle.status_rules.specs.declared.Mark.TheVariants as mark

-- the mark that it writes
abbrev pub mark_of : What → Option Mark
mark_of (what.Started o) = Some mark.Running
mark_of (what.Ended o) = Some mark.Done
mark_of (what.Error o code) = Some (mark.Error code)
mark_of (what.Interrupted o) = Some mark.Interrupted
mark_of (what.Unknown o) = Some mark.Undecided
mark_of (what.Complete o) = Some mark.Done
mark_of _ = None

-- the flag that it writes stands so already
abbrev pub IsFlaggedSo : What → Operation → Type 0
IsFlaggedSo (what.Hold o) op = op.held ≡ true
IsFlaggedSo (what.Release o) op = op.held ≡ false
IsFlaggedSo (what.Nop o) op = op.nop ≡ true
IsFlaggedSo (what.Unnop o) op = op.nop ≡ false
IsFlaggedSo _ op = ⊥
