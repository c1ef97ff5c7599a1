use Rattle.std.proofs.Common.{◌≡◌, ◌+◌, ◌≤◌}
use Rattle.derived_figures.proofs.Retaking.{HasPlanBetween}
use Rattle.derived_figures.proofs.takings.retake.Given as goal

-- there was a plan with these markings, and the places that are gone through are retaken
abbrev pub invariant-loop-index : goal.invariant-loop-index
invariant-loop-index l = record {
  contents : l.records.contents ≡ l.fn.records.contents;
  fewest : l.fn.records.looks ≤ l.records.looks;
  most : l.records.looks ≤ l.fn.records.looks + l.index;
  between : HasPlanBetween l.fn.records.contents l.places l.marks l.index l.given l.holdings.held;
}
