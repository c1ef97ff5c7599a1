use Rattle.std.proofs.Common.{◌∙◌, ◌∷◌, [], All, ap, length, map, subst, sym, eqb, rules, tests, arith}
use Rattle.std.proofs.lemmas.Bool.{eqb-false}
use Rattle.std.proofs.lemmas.Iterator.Consumers.{YieldsList-end, YieldsList-turn}
use Rattle.std.proofs.lemmas.Iterator.Splits.{YieldsList-from_slice_split}
use Rattle.std.proofs.lemmas.List.{map-append}
use Rattle.std.proofs.lemmas.List.Elements.{All-push}
use Rattle.plan_basics.specs.Keys.{IsOperationKey}
use Rattle.plan_basics.specs.KeyTexts.{operation_text}
use Rattle.tracker_receipts.proofs.Joining.{keys_joined, part_is_key, texts_more}
use Rattle.tracker_receipts.proofs.replies.keys_of_text.Goals as goal

pub returns-in_default : goal.returns-in_default
returns-in_default c = λ keys joins.
    let turn = YieldsList-turn (YieldsList-from_slice_split _ (λ b. eqb b 32) c.args.text.now (cc) (cc) (cc) (λ x r q k. search (rules, tests))) c.loop-part.yielded _ c.loop-part.yielded_by _ _ c.in-Some.part c.in-Some.is c.next.ensures.steps in
    let apart = eqb-false (length c.args.text.now) 0 (sym c.is_empty.ensures ∙ c.if-is_empty.false) in
    let key = part_is_key c.args.text.now keys (length c.loop-part.yielded) c.in-Some.part.now (omega (arith, apart)) turn.0 turn.1 joins in
    let some = rw c.in_default.is at c.from_text.ensures.some in
    cc (some.1 key)

pub loop-part-preserved : goal.loop-part-preserved
loop-part-preserved c =
    let yielded = map (λ x. x.now) c.loop-part.yielded in
    let keys = c.loop-part.keys.items in
    let key = c.in-Some-from_text.key in
    let value = c.in-Some-from_text.ensures.value in (
      c.in-Some.ensures.goes.keeps,
      tt,
      ap (map operation_text) c.in_ok-push.ensures.items ∙ texts_more yielded keys c.in-Some.part.now key c.loop-part.invariant.2 value.1 ∙ sym (map-append (λ x. x.now) c.loop-part.yielded (c.in-Some.part ∷ [])),
      subst (All IsOperationKey) (sym c.in_ok-push.ensures.items) (All-push IsOperationKey keys key c.loop-part.invariant.3 value.0),
    )

pub returns : goal.returns
returns c =
    let end = YieldsList-end (YieldsList-from_slice_split _ (λ b. eqb b 32) c.args.text.now (cc) (cc) (cc) (λ x r q k. search (rules, tests))) c.loop-part.yielded _ c.loop-part.yielded_by _ _ c.in-None.is c.next.ensures.steps in
    keys_joined c.args.text.now c.loop-part.keys.items (c.loop-part.invariant.2 ∙ end.0) c.loop-part.invariant.3
