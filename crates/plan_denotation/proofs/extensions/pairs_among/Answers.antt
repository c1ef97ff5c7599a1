use Rattle.std.proofs.Common.{subst, sym, refl, rules, true≢false, All}
use Rattle.std.specs.List.Sorted.{IsStrictlySortedBy}
use Rattle.std.specs.Map.{keys_of}
use Rattle.plan_model.specs.Contents.{pair_cmp}
use Rattle.plan_drafts.specs.ExtensionItems.{IsPairAmong}
use Rattle.plan_drafts.proofs.Keyed.{answered}
use Rattle.plan_drafts.proofs.Orders.{map_same}
use Rattle.plan_denotation.proofs.extensions.pairs_among.Goals as goal

pub returns : goal.returns
returns c =
    let among = subst (All (IsPairAmong (keys_of c.args.occurrences.now) c.args.keys.now)) c.deref.ensures.value (c.if-not-are_pairs_among.ensures.0 refl) in
    answered c.in_key_order.result (λ are. are.distinct)
    (λ v ordered. record { are = record { among = among; distinct = ordered.distinct }; same = ordered.same; in_order = subst (IsStrictlySortedBy pair_cmp) (map_same v.items) ordered.in_order })
    (c.in_key_order.ensures (λ pair. pair) (λ x r h. search rules))

pub returns-then-not-are_pairs_among : goal.returns-then-not-are_pairs_among
returns-then-not-are_pairs_among c = λ are.
    true≢false (sym (c.if-not-are_pairs_among.ensures.1 (subst (All (IsPairAmong (keys_of c.args.occurrences.now) c.args.keys.now)) (sym c.deref.ensures.value) are.among)))
