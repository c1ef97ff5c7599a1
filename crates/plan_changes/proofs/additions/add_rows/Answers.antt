use Rattle.std.proofs.Common.{rules, ◌++◌}
use Rattle.std.proofs.lemmas.List.Sorted.{answers_always}
use Rattle.std.specs.List.Sorted.{IsPermutation}
use Rattle.plan_changes.proofs.Merging.{from_merged, merged_up}
use Rattle.plan_changes.proofs.additions.add_rows.Goals as goal

pub returns : goal.returns
returns g c =
    let total = g.met.K.Ord.total in
    let exact = c.requires.exact in
    let old = c.args.rows.now.items in
    let new = c.args.new.now in
    let made = c.sort_by_key.new.self.items in
    let same : IsPermutation (old ++ new) made = rw c.in_ok-extend_from_slice.ensures.items at c.sort_by_key.ensures.permutation in
    let sorted = c.in_ok-sort_by_key.ensures.sorted (λ row. row.0) (answers_always _ _ _ (λ f a r q k. search rules)) in
    let up = merged_up total exact old new made same c.requires.old c.requires.new c.requires.apart sorted in
    record { both = from_merged total exact old new made same c.requires.old c.requires.new c.requires.apart up; in_order = up }
