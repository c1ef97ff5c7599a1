use Rattle.std.proofs.Common.{refl, sym, subst, arith, ◌+◌, Decides}
use Rattle.std.specs.List.{AllWithin}
use Rattle.plan_drafts.specs.Contents.{added_of}
use Rattle.plan_checks.specs.Additions.{IsFoundPair, IsOpenPair}
use Rattle.plan_checks.proofs.ComingIn.{each_pair_told, ends_told, more_told, none_more}
use Rattle.plan_checks.proofs.ends.ends_of_pairs.Goals.{else-are_known, else-are_open, then-are_known, then-are_open}
use Rattle.plan_checks.proofs.ends.ends_of_pairs.Goals as goal

pub loop-pair-init : goal.loop-pair-init
loop-pair-init c = ((λ _ k d from to. absurd (omega (arith, to)), λ _. refl), (λ _ k d from to. absurd (omega (arith, to)), λ _. refl))

pub loop-pair-preserved : goal.loop-pair-preserved
loop-pair-preserved c =
    let found = IsFoundPair c.args.plan.now (added_of c.args.parts.now) in
    let is_open = IsOpenPair c.args.plan.now (added_of c.args.parts.now) in
    let pairs = c.deref-pair-items.result.now in
    let i = c.loop-pair.pair-index in
    let pair = c.pair-item.result in
    let one = c.ends_of-ends in
    let known : Decides c.if-are_known.are_known (AllWithin found pairs 0 (i + 1)) = elim c.if-are_known.branch [
      | then-are_known w ↦ subst (λ b. Decides b (AllWithin found pairs 0 (i + 1))) (sym w.are_known-is) (more_told found pairs i pair c.loop-pair-test.true c.pair-item.is c.loop-pair.are_known one.result.are_known c.loop-pair.invariant.0 one.ensures.known w.if-are_known.true)
      | else-are_known w ↦ subst (λ b. Decides b (AllWithin found pairs 0 (i + 1))) (sym w.are_known-is) (none_more found pairs i pair c.loop-pair-test.true c.pair-item.is c.loop-pair.are_known c.loop-pair.invariant.0 w.if-are_known.false)
    ] in
    let open_to : Decides c.if-are_open.are_open (AllWithin is_open pairs 0 (i + 1)) = elim c.if-are_open.branch [
      | then-are_open w ↦ subst (λ b. Decides b (AllWithin is_open pairs 0 (i + 1))) (sym w.are_open-is) (more_told is_open pairs i pair c.loop-pair-test.true c.pair-item.is c.loop-pair.are_open one.result.are_open c.loop-pair.invariant.1 one.ensures.may w.if-are_open.true)
      | else-are_open w ↦ subst (λ b. Decides b (AllWithin is_open pairs 0 (i + 1))) (sym w.are_open-is) (none_more is_open pairs i pair c.loop-pair-test.true c.pair-item.is c.loop-pair.are_open c.loop-pair.invariant.1 w.if-are_open.false)
    ] in
    (known, open_to)

pub returns-clause-known : goal.returns-clause-known
returns-clause-known c =
    let found = IsFoundPair c.args.plan.now (added_of c.args.parts.now) in
    ends_told c.args.parts.now c.requires c.args.plan.now c.loop-pair.are_known
    (each_pair_told c.deref-pair-items.ensures.value found c.loop-pair.pair-index (omega arith) (omega arith) c.loop-pair.are_known c.loop-pair.invariant.0)

pub returns-clause-may : goal.returns-clause-may
returns-clause-may c =
    let is_open = IsOpenPair c.args.plan.now (added_of c.args.parts.now) in
    each_pair_told c.deref-pair-items.ensures.value is_open c.loop-pair.pair-index (omega arith) (omega arith) c.loop-pair.are_open c.loop-pair.invariant.1
