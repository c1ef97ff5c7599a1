use Rattle.std.proofs.Common.{Result, Ok, Err, IfOk, IsPermutation, ◌+◌, ◌≤◌, arith, length}
use Rattle.std.proofs.lemmas.List.Sorted.{length_permutation}
use Rattle.std.proofs.lemmas.Result.{IfOk-weaker}
use Rattle.ready_list.specs.Entries.{IsInOrder}
use Rattle.start_choice.specs.SummarizedTakings.{holder_count}
use Rattle.start_choice.specs.Choices.{AreReadyEntries}
use Rattle.start_choice.proofs.ReadyLists.{list_in_order}
use Rattle.start_choice.proofs.ready.ready_of.Goals as goal

both_ok : {T E : Type 0} (r : Result T E) (A B C : T → Type 0) → ((x : T) → A x → B x → C x) → IfOk r A → IfOk r B → IfOk r C
both_ok (Ok x) A B C f a b = f x a b
both_ok (Err e) A B C f a b = tt

pub returns-clause-list : goal.returns-clause-list
returns-clause-list c =
    let P = c.args.uncounted.now.contents.now in
    let entries = c.in_ok-entries.entries.items in
    both_ok c.build.result (λ list. IsPermutation entries list.entries) (λ list. IsInOrder list.entries) (λ list. AreReadyEntries P list.entries)
    (λ list moved in_order. list_in_order P entries list.entries c.in_ok-entries.ensures.ready moved in_order)
    c.build.ensures.entries c.build.ensures.in_order

pub returns-clause-few : goal.returns-clause-few
returns-clause-few c =
    let entries = c.in_ok-entries.entries.items in
    let summaries = c.args.summaries.now in
    IfOk-weaker c.build.result (λ list. IsPermutation entries list.entries) (λ list. length list.entries + holder_count summaries ≤ length summaries)
    (λ list moved. omega (arith, length_permutation entries list.entries moved, c.in_ok-entries.ensures.few))
    c.build.ensures.entries
