use Rattle.std.specs.Prelude.{Decides}
use Rattle.std.specs.List.{AllWithin}
use Rattle.plan_drafts.specs.Contents.{added_of}
use Rattle.plan_checks.specs.Additions.{IsFoundPair, IsOpenPair}
use Rattle.plan_checks.proofs.ends.ends_of_pairs.Given as goal

-- told of the pairs before the index
abbrev pub invariant-loop-pair : goal.invariant-loop-pair
invariant-loop-pair l =
    Decides l.are_known (AllWithin (IsFoundPair l.plan (added_of l.parts)) l.pair-items 0 l.pair-index) × Decides l.are_open (AllWithin (IsOpenPair l.plan (added_of l.parts)) l.pair-items 0 l.pair-index)
