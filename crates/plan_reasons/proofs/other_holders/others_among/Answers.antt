use Rattle.std.proofs.Common.{◌≡◌, ◌+◌, ◌++◌, ◌∷◌, [], List, sym, ap, subst, ◌∙◌, take}
use Rattle.std.specs.declared.cmp.Ordering.TheVariants.{Less}
use Rattle.std.proofs.lemmas.List.{take_all, take_more}
use Rattle.special_resources.specs.Holdings.{holding_cmp, holding_of}
use Rattle.special_resources.specs.declared.holders.Holder.{Holder}
use Rattle.plan_model.specs.Contents.{IsInPlan}
use Rattle.plan_reasons.specs.Parts.{AreOthersAmong}
use Rattle.plan_reasons.proofs.Sharing.{held_before, none_among, one_holder_more}
use Rattle.plan_reasons.proofs.other_holders.others_among.Goals as goal

pub loop-holder-init : goal.loop-holder-init
loop-holder-init c = subst (AreOthersAmong c.args.loaded.now c.args.key.now []) (sym c.new-others.ensures.items) (none_among c.args.loaded.now c.args.key.now)

pub other_of-requires : goal.other_of-requires
other_of-requires c =
    subst (λ (h : Holder). IsInPlan c.args.loaded.now h.operation) (sym c.holder-item.is) (c.requires.known c.loop-holder.holder-index c.holder-item.result c.loop-holder-test.true)

pub loop-holder-preserved : goal.loop-holder-preserved
loop-holder-preserved c =
    let P = c.args.loaded.now in
    let o = c.args.key.now in
    let holders = c.args.holders.now in
    let i = c.loop-holder.holder-index in
    let h = c.holder-item.result in
    let more : take (i + 1) holders ≡ take i holders ++ h ∷ [] = take_more holders i h c.loop-holder-test.true ∙ ap (λ (n : Holder). take i holders ++ n ∷ []) (sym c.holder-item.is) in
    subst (λ (hs : List Holder). AreOthersAmong P o hs c.note.new.items.items) (sym more)
    (subst (AreOthersAmong P o (take i holders ++ h ∷ [])) (sym c.in_ok-note.ensures)
    (one_holder_more P o (take i holders) c.loop-holder.others.items c.loop-holder.invariant h (λ k has.
    subst (λ (x : Holder). holding_cmp (holding_of k) (holding_of x) ≡ Less) (sym c.holder-item.is) (held_before holders c.requires.in_order i h c.loop-holder-test.true k has))
    c.other_of.result c.other_of.ensures))

pub returns : goal.returns
returns c =
    subst (λ (hs : List Holder). AreOthersAmong c.args.loaded.now c.args.key.now hs c.loop-holder.others.items) (take_all c.loop-holder.holder-index c.args.holders.now c.loop-holder-test.false) c.loop-holder.invariant
