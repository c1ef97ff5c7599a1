use Rattle.std.proofs.Common.{◌↔◌, subst, arith, ◌^◌, ◌<◌, rules, length, Contains}
use Rattle.std.proofs.lemmas.List.Sorted.{answers_always, IsNonDecreasingBy-from_sort}
use Rattle.record_faults.specs.Sayings.{texts_of}
use Rattle.text_faults.specs.declared.additions.faults.PlacedFault.{PlacedFault}
use Rattle.text_faults.specs.AddedFaults.{IsFaultHere}
use Rattle.text_faults.proofs.Whole.{exactly, none_told}
use Rattle.text_faults.proofs.Once.{permuted_once}
use Rattle.text_faults.proofs.additions.finding.faults_of_added.Goals as goal

pub returns-clause-exactly : goal.returns-clause-exactly
returns-clause-exactly c =
    let texts = texts_of c.args.records.now in
    let v = c.in_ok-said.said in
    let size = v.ok.0 in
    let within = v.ok.1 in
    let room = v.small in
    let small : length v.items < 2 ^ 63 = omega (arith, size, within, room) in
    let told : (f : PlacedFault) → Contains c.in_ok-faults.faults.items f ↔ IsFaultHere c.args.added texts v.items f.place f.fault = λ f. subst (λ z. Contains c.in_ok-faults.faults.items f ↔ IsFaultHere c.args.added texts z f.place f.fault) c.deref.ensures.value (c.in_ok-faults.ensures.exactly f) in
    exactly c.args.alloc c.args.added texts v.items c.in_ok-said.ensures small c.in_ok-faults.faults.items c.sort_by_key.new.self.items c.sort_by_key.ensures.permutation told

pub returns-clause-none : goal.returns-clause-none
returns-clause-none c =
    let texts = texts_of c.args.records.now in
    let v = c.in_ok-said.said in
    let size = v.ok.0 in
    let within = v.ok.1 in
    let room = v.small in
    let small : length v.items < 2 ^ 63 = omega (arith, size, within, room) in
    let told : (f : PlacedFault) → Contains c.in_ok-faults.faults.items f ↔ IsFaultHere c.args.added texts v.items f.place f.fault = λ f. subst (λ z. Contains c.in_ok-faults.faults.items f ↔ IsFaultHere c.args.added texts z f.place f.fault) c.deref.ensures.value (c.in_ok-faults.ensures.exactly f) in
    none_told c.args.alloc c.args.added texts v.items c.in_ok-said.ensures small c.in_ok-faults.faults.items c.sort_by_key.new.self.items c.sort_by_key.ensures.permutation told

pub returns-clause-in_order : goal.returns-clause-in_order
returns-clause-in_order c =
    let sorted = c.in_ok-sort_by_key.ensures.sorted (λ (f : PlacedFault). f.place) (answers_always _ _ _ (λ f a r q k. search rules)) in
    let up = IsNonDecreasingBy-from_sort (λ (f : PlacedFault). f.place) c.sort_by_key.new.self.items sorted in
    λ i j d lt within. up i j d (omega (arith, lt)) within

pub returns-clause-once : goal.returns-clause-once
returns-clause-once c = permuted_once c.in_ok-faults.faults.items c.sort_by_key.new.self.items c.sort_by_key.ensures.permutation c.in_ok-faults.ensures.once
