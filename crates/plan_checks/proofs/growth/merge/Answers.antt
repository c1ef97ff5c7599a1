use Rattle.std.proofs.Common.{◌++◌}
use Rattle.std.specs.List.Sorted.{IsPermutation}
use Rattle.derived_figures.specs.plan_changes.proofs.Merging.{from_keys_merged, keys_merged_up}
use Rattle.plan_checks.proofs.growth.merge.Goals as goal

pub returns : goal.returns
returns g c =
    let total = g.met.K.Ord.total in
    let exact = c.requires.exact in
    let old = c.args.items.now.items in
    let new = c.args.new.now in
    let made = c.sort.new.self.items in
    let same : IsPermutation (old ++ new) made = rw c.in_ok-extend_from_slice.ensures.items at c.sort.ensures.permutation in
    record {
      both = from_keys_merged total exact old new made same;
      in_order = keys_merged_up total exact old new made same c.requires.old c.requires.new c.requires.apart c.in_ok-sort.ensures.sorted;
    }
