use Rattle.std.proofs.Common.{◌≡◌, sym, subst, ℕ, length, true≢false, ◌∙◌, rules}
use Rattle.plan_model.specs.Contents.{Contents}
use Rattle.plan_checks.specs.Additions.{HasRoomFor}
use Rattle.plan_checks.proofs.additions.is_within_limits.Goals as goal

pub returns-then-has_room : goal.returns-then-has_room
returns-then-has_room c =
    let room = λ (n : ℕ) (Q : Contents). HasRoomFor Q n (length c.args.keys.now) (length c.args.pairs.now) in
    let counted : c.len.result ≡ length c.args.parts.now.occurrences.items = search rules in (
      λ yes. (subst (λ n. room n c.args.plan.now) counted (subst (room c.len.result) c.uncounted.ensures.contents (c.has_room.ensures.0 c.if-has_room.true)), c.amounts_fit.ensures.0 yes),
      λ both. c.amounts_fit.ensures.1 both.1,
    )

pub returns-else-has_room : goal.returns-else-has_room
returns-else-has_room c =
    let room = λ (n : ℕ) (Q : Contents). HasRoomFor Q n (length c.args.keys.now) (length c.args.pairs.now) in
    let counted : c.len.result ≡ length c.args.parts.now.occurrences.items = search rules in (
      λ yes. absurd (true≢false (sym yes ∙ c.if-has_room.false)),
      λ both. absurd (true≢false (sym (c.has_room.ensures.1 (subst (room c.len.result) (sym c.uncounted.ensures.contents) (subst (λ n. room n c.args.plan.now) (sym counted) both.0))) ∙ c.if-has_room.false)),
    )
