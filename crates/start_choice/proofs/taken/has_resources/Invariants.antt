use Rattle.std.proofs.Common.{◌<◌, ℕ, get_or}
use Rattle.special_resources.specs.declared.Need.{Need}
use Rattle.start_choice.specs.Takings.{CanMeetNeed}
use Rattle.start_choice.proofs.taken.has_resources.Given as goal

-- the needs that were passed can be met
abbrev pub invariant-loop-need : goal.invariant-loop-need
invariant-loop-need l = (k : ℕ) (d : Need) → k < l.need-index → CanMeetNeed l.uncounted.contents.now.resources l.holdings.held l.key (get_or l.need-items k d)
