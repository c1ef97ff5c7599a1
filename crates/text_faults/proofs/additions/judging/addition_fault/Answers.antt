use Rattle.std.proofs.Common.{sym, ◌∙◌, true≢false, Some}
use Rattle.std.proofs.lemmas.Option.{none-some}
use Rattle.record_faults.specs.Sayings.{SaysAt}
use Rattle.record_faults.proofs.Gathering.{at_read}
use Rattle.text_faults.specs.declared.additions.faults.AddedFault.TheVariants as of_added
use Rattle.text_faults.proofs.AdditionFaultLaws.{told_beside, none_beside}
use Rattle.text_faults.proofs.additions.judging.addition_fault.Goals as goal

pub returns-in-Some : goal.returns-in-Some
returns-in-Some c =
    let at : SaysAt c.args.said.now c.args.place c.in_ok-item.item = at_read c.args.said.now c.args.place c.index-said-place.result (Some c.in_ok-item.item) c.requires.place (sym c.index-said-place.is ∙ c.in_ok-item.was) in
    told_beside c.args.added c.args.said.now c.args.place (of_added.AnotherOccurrence c.in-Some.first) ((c.earlier.ensures c.in-Some.first).0 c.in-Some.is)

pub returns-then-is_elsewhere : goal.returns-then-is_elsewhere
returns-then-is_elsewhere c =
    let at : SaysAt c.args.said.now c.args.place c.in_ok-item.item = at_read c.args.said.now c.args.place c.index-said-place.result (Some c.in_ok-item.item) c.requires.place (sym c.index-said-place.is ∙ c.in_ok-item.was) in
    told_beside c.args.added c.args.said.now c.args.place of_added.Elsewhere ((c.is_elsewhere.ensures c.args.said.now c.args.place c.requires.index at).0 c.if-is_elsewhere.true)

pub returns : goal.returns
returns c =
    let at : SaysAt c.args.said.now c.args.place c.in_ok-item.item = at_read c.args.said.now c.args.place c.index-said-place.result (Some c.in_ok-item.item) c.requires.place (sym c.index-said-place.is ∙ c.in_ok-item.was) in
    let never = none_beside c.args.added c.args.said.now c.args.place c.in_ok-item.item at
    (λ no. true≢false (sym (c.may_not_come_in.ensures.1 no) ∙ c.if-may_not_come_in.false))
    (λ n h. none-some n (sym c.in_default.is ∙ (c.earlier.ensures n).1 h))
    (λ h. true≢false (sym ((c.is_elsewhere.ensures c.args.said.now c.args.place c.requires.index at).1 h) ∙ c.if-is_elsewhere.false)) in
    λ f. (λ e. absurd (none-some f e), λ h. absurd (never f h))
