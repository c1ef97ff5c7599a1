use Rattle.std.proofs.Common.{◌≡◌, inl, inr, sym, subst, ◌∙◌, arith, length}
use Rattle.std.proofs.lemmas.Option.{same_Some}
use Rattle.record_faults.proofs.Gathering.{at_read}
use Rattle.record_faults.specs.declared.faults.RecordFault.{RecordFault}
use Rattle.text_faults.specs.AddedFaults.{AreToldBelow, IsToldAt, IsToldOf}
use Rattle.text_faults.proofs.Telling.{told_more}
use Rattle.text_faults.proofs.Once.{not_told_before}
use Rattle.text_faults.proofs.additions.finding.judged_of.Goals as goal

pub loop-number-preserved : goal.loop-number-preserved
loop-number-preserved c =
    let g = c.index-found-number.result in
    let at = at_read c.args.found.now c.loop-number.number g g (omega arith) (sym c.index-found-number.is) in (
      told_more (IsToldAt c.args.added c.args.said.now c.args.found.now) c.loop-number.number c.loop-number.faults.items c.tell_judged.new.faults.items c.loop-number.invariant.0 (λ f. (
        λ has. elim ((c.in_ok-tell_judged.ensures.told f).0 has) [ inl before ↦ inl before | inr h ↦ inr (g, at, h) ],
        elim [
          | inl before ↦ (c.in_ok-tell_judged.ensures.told f).1 (inl before)
          | inr h ↦ (c.in_ok-tell_judged.ensures.told f).1 (inr (subst (λ (z : RecordFault). IsToldOf c.args.added c.args.said.now z f) (same_Some h.0 g (sym h.1 ∙ at)) h.2))
        ],
      )),
      c.in_ok-tell_judged.ensures.once (not_told_before c.args.added c.args.said.now c.args.found.now c.requires.once c.loop-number.number g at c.loop-number.faults.items c.loop-number.invariant.0) c.loop-number.invariant.1,
    )

pub returns-clause-told : goal.returns-clause-told
returns-clause-told c =
    let all : c.loop-number.number ≡ length c.args.found.now = omega arith in
    subst (λ n. AreToldBelow (IsToldAt c.args.added c.args.said.now c.args.found.now) n c.loop-number.faults.items) all c.loop-number.invariant.0
