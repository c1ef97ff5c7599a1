use Rattle.std.proofs.Common.{subst, List}
use Rattle.std.specs.List.Sorted.{IsPermutation}
use Rattle.plan_basics.specs.declared.keys.OpKey.{OpKey}
use Rattle.plan_records.specs.plan_drafts.proofs.KeyPlaces.{pair_cmp_total, pair_cmp-IsAntisymmetric}
use Rattle.plan_changes.proofs.Merging.{from_keys_merged, keys_merged_up}
use Rattle.plan_changes.proofs.additions.add_pairs.Goals as goal

pub returns : goal.returns
returns c =
    let old = c.args.pairs.now.items in
    let new = c.args.new.now in
    let made = c.sort.new.self.items in
    let same = subst (λ (pairs : List (OpKey × OpKey)). IsPermutation pairs made) c.in_ok-extend_from_slice.ensures.items c.sort.ensures.permutation in
    record {
      both = from_keys_merged pair_cmp_total pair_cmp-IsAntisymmetric old new made same;
      in_order = keys_merged_up pair_cmp_total pair_cmp-IsAntisymmetric old new made same c.requires.old c.requires.new c.requires.apart c.in_ok-sort.ensures.sorted;
    }
