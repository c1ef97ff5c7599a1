use Rattle.std.proofs.Common.{◌≡◌, map, take}
use Rattle.start_choice.specs.StartItems.{start_item}
use Rattle.start_choice.proofs.latest.items_of.Given as goal

-- the summaries before this one are gone through
abbrev pub invariant-loop-summary : goal.invariant-loop-summary
invariant-loop-summary l = l.items.items ≡ map start_item (take l.summary-index l.summaries)
