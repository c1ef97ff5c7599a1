use Rattle.std.proofs.Common.{rules}
use Rattle.std.proofs.lemmas.List.Sorted.{answers_always}
use Rattle.plan_reports.specs.Late.{due}
use Rattle.plan_reports.proofs.LateLists.{are_late_views}
use Rattle.plan_reports.proofs.late.late_views.Goals as goal

pub returns : goal.returns
returns c =
    let sorted = c.in_ok-sort_by_key.ensures.sorted due (answers_always _ _ _ (λ f a r q k. search rules)) in
    are_late_views c.args.plan.now.plan c.clock.ensures.sound c.ops.result c.ops.ensures c.sort_by_key.new.self.items (rw (c.in_ok-late.ensures, c.clock.ensures.value) at c.sort_by_key.ensures.permutation) sorted
