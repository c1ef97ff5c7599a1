use Rattle.std.proofs.Common.{sym, ap, refl, ◌∙◌, true≢false, Some}
use Rattle.std.proofs.lemmas.Option.{none-some, same_Some}
use Rattle.plan_items.specs.declared.Item.TheVariants as item
use Rattle.record_faults.proofs.Gathering.{at_read}
use Rattle.text_faults.proofs.AdditionFaultLaws.{another_told}
use Rattle.text_faults.proofs.additions.judging.earlier.Goals as goal

pub returns-then-not-is_of_one : goal.returns-then-not-is_of_one
returns-then-not-is_of_one c = λ n. (λ e. absurd (none-some n e), λ h. absurd (true≢false (sym (c.if-not-is_of_one.ensures.1 h.0))))

pub returns-then-not-is_occurrence : goal.returns-then-not-is_occurrence
returns-then-not-is_occurrence c = λ n. (
  λ e. absurd (none-some n e),
  λ h.
      let o = c.index-said-place.result in
      let at = at_read c.args.said.now c.args.place o o c.requires.place (sym c.index-said-place.is) in
      let says = h.1 in
      absurd (true≢false (sym (c.if-not-is_occurrence.ensures.1 (says.0, says.1, says.2, same_Some o (Some (item.Occurrence says.0 says.1 says.2)) (sym at ∙ says.3))))),
)

pub returns : goal.returns
returns c =
    let o = c.index-said-place.result in
    let at = at_read c.args.said.now c.args.place o o c.requires.place (sym c.index-said-place.is) in
    let is = c.if-not-is_occurrence.ensures.0 refl in
    another_told c.args.added c.args.said.now c.args.first c.args.place (c.if-not-is_of_one.ensures.0 refl) (is.0, is.1, is.2, at ∙ ap Some is.3) c.requires.first
    c.where_before.result c.where_before.ensures.some c.where_before.ensures.none
