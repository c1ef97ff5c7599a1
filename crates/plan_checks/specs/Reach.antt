-- Which operations are live, by their statuses.
use Rattle.std.specs.Prelude.{Bool, true, false}
use Rattle.status_rules.specs.declared.Status.{Status}
use Rattle.status_rules.specs.declared.Status.TheVariants.{Deleted}

-- whether an operation of this status isn't deleted
abbrev pub is_live_status : Status → Bool
is_live_status Deleted = false
is_live_status _ = true
