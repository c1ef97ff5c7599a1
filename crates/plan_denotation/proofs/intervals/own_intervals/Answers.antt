use Rattle.std.proofs.Common.{true≢false, sym, ap, ◌∙◌, arith, ◌++◌, ◌∷◌, []}
use Rattle.std.proofs.lemmas.List.{take_all}
use Rattle.std.proofs.lemmas.Slice.Eq.{bytes_eq-Decides}
use Rattle.plan_drafts.specs.PlanItems.{intervals_of}
use Rattle.plan_denotation.proofs.Openings.{own_more, own_passed}
use Rattle.plan_denotation.proofs.intervals.own_intervals.Goals as goal
use Rattle.plan_denotation.proofs.intervals.own_intervals.Goals.{then-eq+in_ok-push, else-eq}

pub loop-said-preserved : goal.loop-said-preserved
loop-said-preserved c =
    let name = c.args.name.now in
    let said = c.said-item.result in
    let told = bytes_eq-Decides said.0 name in
    elim c.if-eq.branch [
      | then-eq+in_ok-push w ↦
          ap (λ v. v.items) w.own-is ∙ w.in_ok-push.ensures.items ∙ ap (λ xs. xs ++ said.1 ∷ []) c.loop-said.invariant
          ∙ sym (own_more name c.args.intervals.now c.loop-said.said-index said (omega arith) c.said-item.is (told.0 (sym w.if-eq.ensures)))
      | else-eq w ↦
          ap (λ v. v.items) w.own-is ∙ c.loop-said.invariant
          ∙ sym (own_passed name c.args.intervals.now c.loop-said.said-index said (omega arith) c.said-item.is (λ same. true≢false (sym (told.1 same) ∙ sym w.if-eq.ensures)))
    ]

pub returns : goal.returns
returns c = c.loop-said.invariant ∙ ap (intervals_of c.args.name.now) (take_all c.loop-said.said-index c.args.intervals.now (omega arith))
