use Rattle.std.proofs.Common.{◌≡◌, ◌≢◌, ◌↔◌, ◌++◌, sym, ap, subst, ◌∙◌, length, AllPairs, Contains}
use Rattle.record_faults.specs.declared.faults.RecordFault.{RecordFault}
use Rattle.record_faults.specs.Sayings.{texts_of}
use Rattle.text_faults.specs.declared.additions.faults.PlacedFault.{PlacedFault}
use Rattle.text_faults.specs.AddedFaults.{IsFaultHere, AreToldBelow, IsToldAt}
use Rattle.text_faults.proofs.Here.{all_here}
use Rattle.text_faults.proofs.Once.{append_once, none_in_both}
use Rattle.text_faults.proofs.additions.finding.faults_here.Goals as goal

pub judged_of-requires-clause-once : goal.judged_of-requires-clause-once
judged_of-requires-clause-once c = subst (AllPairs (λ (a b : RecordFault). a ≢ b)) (sym c.deref.ensures.value) c.in_ok-found.ensures.once

pub returns-clause-exactly : goal.returns-clause-exactly
returns-clause-exactly c =
    let texts = texts_of c.args.records.now in
    let said = c.args.said.now in
    let told = subst (λ found. AreToldBelow (IsToldAt c.args.added said found) (length found) c.in_ok-faults.faults.items) c.deref.ensures.value c.in_ok-faults.ensures.told in
    let all = all_here c.args.added texts said c.requires c.in_ok-found.found.items c.in_ok-found.ensures.faults c.in_ok-found.ensures.each c.in_ok-faults.faults.items c.in_ok-others.others.items told c.in_ok-others.ensures.told in
    let same : c.extend_from_slice.new.self.items ≡ c.in_ok-faults.faults.items ++ c.in_ok-others.others.items = c.in_ok-extend_from_slice.ensures.items ∙ ap (λ xs. c.in_ok-faults.faults.items ++ xs) c.deref-2.ensures.value in
    λ f. subst (λ xs. Contains xs f ↔ IsFaultHere c.args.added texts said f.place f.fault) (sym same) (all f)

pub returns-clause-once : goal.returns-clause-once
returns-clause-once c =
    let judged = c.in_ok-faults.faults.items in
    let others = c.in_ok-others.others.items in
    let same : c.extend_from_slice.new.self.items ≡ judged ++ others = c.in_ok-extend_from_slice.ensures.items ∙ ap (λ xs. judged ++ xs) c.deref-2.ensures.value in
    let apart = none_in_both c.args.added c.args.said.now c.deref.result.now _ _ judged others c.in_ok-faults.ensures.told c.in_ok-others.ensures.told in
    subst (AllPairs (λ (a b : PlacedFault). a ≢ b)) (sym same) (append_once judged others c.in_ok-faults.ensures.once c.in_ok-others.ensures.once apart)
