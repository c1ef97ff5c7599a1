use Rattle.std.proofs.Common.{sym, ap, ◌∙◌, arith, Some}
use Rattle.std.proofs.lemmas.Option.{same_Some}
use Rattle.plan_items.specs.declared.Item.TheVariants as item
use Rattle.record_faults.proofs.Gathering.{at_read}
use Rattle.text_faults.proofs.additions.judging.says_need_of.Goals as goal

pub returns : goal.returns
returns c =
    let o = c.index-said-place.result in
    let at = at_read c.args.said.now c.args.place o o (omega arith) (sym c.index-said-place.is) in (
      λ t. let n = c.is_need_of.ensures.0 t in (n.0, at ∙ ap Some n.1),
      λ h. c.is_need_of.ensures.1 (h.0, same_Some o (Some (item.Need c.args.operation.now h.0)) (sym at ∙ h.1)),
    )
