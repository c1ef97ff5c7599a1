use Rattle.std.proofs.Common.{◌≡◌, rules, sym, ◌∙◌, ap, arith, true, false, leb, Some}
use Rattle.std.specs.List.Sorted.{IsPartitionPoint}
use Rattle.std.proofs.lemmas.List.Sorted.{IsPartitionPoint-from_clause, IsPartitionedBy-leb}
use Rattle.std.proofs.lemmas.Option.{slice_get-get_or}
use Rattle.forecasting.proofs.Ends.{first_reached, later, none_later}
use Rattle.forecasting.proofs.next.first_after.Goals as goal
use Rattle.forecasting.proofs.next.first_after.Goals.{After-partition_point-past}

point : (c : After-partition_point-past) → IsPartitionPoint (λ y. leb y c.args.after ≡ true) (λ y. leb y c.args.after ≡ false) c.args.turns.now c.partition_point-past.result
point c = IsPartitionPoint-from_clause (λ y. leb y c.args.after) _ _ c.partition_point-past.ensures.partitioned (IsPartitionedBy-leb (λ x. x) c.args.turns.now c.args.after c.requires) (λ a r q k. search rules)

pub returns-then-past-turns-clause-after : goal.returns-then-past-turns-clause-after
returns-then-past-turns-clause-after c =
    let turns = c.args.turns.now in
    let past = c.partition_point-past.result in
    let x = c.index-turns-past.result in
    later turns c.requires c.args.after past (point (goal.at.returns-then-past-turns-clause-after c).After-partition_point-past) (Some x) (sym (slice_get-get_or turns past x c.if-past-turns.true ∙ ap Some (sym c.index-turns-past.is)))

pub returns-then-past-turns-clause-first : goal.returns-then-past-turns-clause-first
returns-then-past-turns-clause-first c =
    let turns = c.args.turns.now in
    let past = c.partition_point-past.result in
    let x = c.index-turns-past.result in
    first_reached turns c.requires c.args.after past (point (goal.at.returns-then-past-turns-clause-first c).After-partition_point-past) (Some x) (sym (slice_get-get_or turns past x c.if-past-turns.true ∙ ap Some (sym c.index-turns-past.is)))

pub returns-else-past-turns-clause-first : goal.returns-else-past-turns-clause-first
returns-else-past-turns-clause-first c = λ k has above.
    absurd (none_later c.args.turns.now c.requires c.args.after c.partition_point-past.result (point (goal.at.returns-else-past-turns-clause-first c).After-partition_point-past) (let past = c.if-past-turns.false in omega (arith, past)) k has above)
