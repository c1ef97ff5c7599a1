use Rattle.std.proofs.Common.{◌≡◌, ◌+◌, ◌++◌, ◌∷◌, [], List, sym, ap, subst, ◌∙◌, take}
use Rattle.std.proofs.lemmas.List.{take_all, take_more}
use Rattle.plan_reasons.specs.Order.{ComesBefore}
use Rattle.plan_reasons.specs.Whys.{AreOtherHolders}
use Rattle.plan_reasons.specs.declared.reasons.Reason.{Reason}
use Rattle.plan_reasons.proofs.Sharing.{by_no_reason, one_reason_more, reason_before}
use Rattle.plan_reasons.proofs.other_holders.other_holders.Goals as goal

pub loop-reason-init : goal.loop-reason-init
loop-reason-init c = subst (AreOtherHolders c.args.loaded.now c.args.key.now []) (sym c.new-others.ensures.items) (by_no_reason c.args.loaded.now c.args.key.now)

pub loop-reason-preserved : goal.loop-reason-preserved
loop-reason-preserved c =
    let P = c.args.loaded.now in
    let o = c.args.key.now in
    let reasons = c.args.reasons.now in
    let i = c.loop-reason.reason-index in
    let r = c.reason-item.result in
    let more : take (i + 1) reasons ≡ take i reasons ++ r ∷ [] = take_more reasons i r c.loop-reason-test.true ∙ ap (λ (n : Reason). take i reasons ++ n ∷ []) (sym c.reason-item.is) in
    subst (λ (rs : List Reason). AreOtherHolders P o rs c.note_all.new.items.items) (sym more)
    (subst (AreOtherHolders P o (take i reasons ++ r ∷ [])) (sym c.in_ok-note_all.ensures)
    (one_reason_more P o (take i reasons) c.loop-reason.others.items c.loop-reason.invariant r (λ s has.
    subst (ComesBefore s) (sym c.reason-item.is) (reason_before reasons c.requires i r c.loop-reason-test.true s has))
    c.in_ok-others_by.field-0.items c.in_ok-others_by.ensures))

pub returns : goal.returns
returns c =
    subst (λ (rs : List Reason). AreOtherHolders c.args.loaded.now c.args.key.now rs c.loop-reason.others.items) (take_all c.loop-reason.reason-index c.args.reasons.now c.loop-reason-test.false) c.loop-reason.invariant
