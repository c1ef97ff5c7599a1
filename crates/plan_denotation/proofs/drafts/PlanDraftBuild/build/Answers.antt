use Rattle.std.proofs.Common.{MatchOption, List}
use Rattle.std.proofs.lemmas.Result.{IfOk-weaker}
use Rattle.std.specs.List.{AllZip}
use Rattle.plan_items.specs.Items.{Fields, Says}
use Rattle.plan_model.specs.Contents.{Contents}
use Rattle.plan_drafts.specs.Records.{Denotes, records_of}
use Rattle.plan_denotation.proofs.Denoting.{items_legal, said_by}
use Rattle.plan_denotation.proofs.drafts.PlanDraftBuild.build.Goals as goal

pub draft_of_items-requires : goal.draft_of_items-requires
draft_of_items-requires c =
    let said = said_by c.deref.ensures.value c.deref-2.ensures.value (rw c.in-Some.is at c.in_ok-items.ensures) in
    items_legal (records_of c.args.records.items) c.deref-2.result.now said

pub returns-clause-denoted : goal.returns-clause-denoted
returns-clause-denoted c =
    let records = records_of c.args.records.items in
    let said = said_by c.deref.ensures.value c.deref-2.ensures.value (rw c.in-Some.is at c.in_ok-items.ensures) in
    IfOk-weaker c.draft_of_items.result
    (λ found. (records : List Fields) → AllZip Says records c.deref-2.result.now → MatchOption found ((P : Contents) → ¬ Denotes records P) (λ draft. Denotes records draft))
    (λ found. MatchOption found ((P : Contents) → ¬ Denotes records P) (λ draft. Denotes records draft))
    (λ found h. h records said) c.draft_of_items.ensures.denoted
