use Rattle.std.proofs.Common.{MatchOption, List}
use Rattle.std.proofs.lemmas.Result.{IfOk-weaker}
use Rattle.std.specs.List.{AllZip}
use Rattle.plan_items.specs.Items.{Fields, Says}
use Rattle.plan_model.specs.Contents.{AddedParts}
use Rattle.plan_drafts.specs.Records.{DenotesAddition, records_of}
use Rattle.plan_denotation.proofs.Denoting.{items_legal, said_by}
use Rattle.plan_denotation.proofs.drafts.AdditionBuild.build.Goals as goal

pub addition_of_items-requires : goal.addition_of_items-requires
addition_of_items-requires c =
    let said = said_by c.deref.ensures.value c.deref-2.ensures.value (rw c.in-Some.is at c.in_ok-items.ensures) in
    items_legal (records_of c.args.records.items) c.deref-2.result.now said

pub returns-clause-denoted : goal.returns-clause-denoted
returns-clause-denoted c =
    let records = records_of c.args.records.items in
    let said = said_by c.deref.ensures.value c.deref-2.ensures.value (rw c.in-Some.is at c.in_ok-items.ensures) in
    IfOk-weaker c.addition_of_items.result
    (λ found. (records : List Fields) → AllZip Says records c.deref-2.result.now → MatchOption found ((s : AddedParts) → ¬ DenotesAddition records s) (λ a. DenotesAddition records a))
    (λ found. MatchOption found ((s : AddedParts) → ¬ DenotesAddition records s) (λ a. DenotesAddition records a))
    (λ found h. h records said) c.addition_of_items.ensures.denoted
