use Rattle.std.proofs.Common.{sym, ap, ap₂, ◌∙◌, arith, ◌++◌, ◌∷◌, [], Option, option_map}
use Rattle.std.proofs.lemmas.List.{map_more, take_all}
use Rattle.plan_drafts.specs.Records.{key_of}
use Rattle.plan_items.specs.declared.Item.{Item}
use Rattle.record_faults.specs.Sayings.{given}
use Rattle.record_faults.proofs.sayings.keys_given.Goals as goal

pub loop-one-preserved : goal.loop-one-preserved
loop-one-preserved c =
    c.in_ok-extend_from_slice.ensures.items ∙ ap₂ (λ xs x. xs ++ x ∷ []) c.loop-one.invariant (c.key_given.ensures ∙ ap (λ (o : Option Item). option_map key_of o) c.one-item.is)
    ∙ sym (map_more (λ (o : Option Item). option_map key_of o) c.args.said.now c.loop-one.one-index c.one-item.result (omega arith))

pub returns : goal.returns
returns c = c.loop-one.invariant ∙ ap given (take_all c.loop-one.one-index c.args.said.now (omega arith))
