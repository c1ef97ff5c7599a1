use Rattle.std.proofs.Common.{◌≡◌, ℕ, ◌<◌, get_or}
use Rattle.plan_model.specs.special_resources.specs.declared.Need.{Need}
use Rattle.plan_outlooks.proofs.paths.needs_resource.Given as goal

-- no need that was passed is of it
abbrev pub invariant-loop-need : goal.invariant-loop-need
invariant-loop-need l = (k : ℕ) (d : Need) → k < l.need-index → ¬ ((get_or l.need-items k d).name ≡ l.name)
